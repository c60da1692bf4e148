-- The table "Where a call stops" on network K with one byte or one record changed, written by hand from document 01: by computation. A change is record, byte and value.
use Rattle.std.specs.Prelude.{◌≡◌, refl, List, [], ◌∷◌, ◌++◌, map, ℕ, ◌/◌, ◌%◌, take, drop, replicate}
use Rattle.std.proofs.Math.Option.{none, some}
use Rattle.basics.specs.Lists.{keep, from}
use Rattle.format.specs.Record.{Rec, Net, flat}
use Rattle.format.specs.NetK.{record24, node, A, B, policy0, K, in_store, altered, add_any, add_drop, delete_d}
use Rattle.refusals.specs.Rows.{operands_good}
use Rattle.refusals.specs.Refusal.{Refusal, record_row, file_row, network_row, check_refusal, command_row}
use Rattle.refusals.specs.Computing.{refusing}

-- what K is refused with where a byte is another
unfoldable answer : ℕ × ℕ × ℕ → Refusal
answer c = file_row [] (altered K c.0 c.1 c.2)

-- what K is refused with where a record stands before number i
unfoldable with : ℕ → Rec → Refusal
with i r = file_row [] (take i K ++ (r ∷ drop i K))

-- its widths, its link and its misses
unfoldable front : Net
front = take 4 K

-- rule number i of many: switch 0, priority i, any port, any header, OUTPUT 0
unfoldable rule : ℕ → Rec
rule i = record24 (4 ∷ 0 ∷ i % 256 ∷ i / 256 ∷ 0 ∷ 0 ∷ 0 ∷ 0 ∷ 1 ∷ 1 ∷ 0 ∷ 3 ∷ [])

-- the first n of them behind that
unfoldable filled : ℕ → Net
filled n = front ++ map rule (from 0 n)

-- a policy of one node, E X
unfoldable policy : ℕ → Rec
policy p = record24 (5 ∷ p ∷ 2 ∷ [])

-- a command with byte k of it another
unfoldable changed : Rec → ℕ → ℕ → Rec
changed c k v = flat (altered (c ∷ []) 0 k v)

-- a rule's bytes 0 to 7, and four actions: OUTPUT 1, SET 1, OUTPUT 2 and OUTPUT 0, with which byte 20 is not zero
unfoldable four_actions : List ℕ → Rec
four_actions front = record24 (front ++ (4 ∷ 1 ∷ 1 ∷ 3 ∷ 2 ∷ 1 ∷ 1 ∷ 1 ∷ 2 ∷ 3 ∷ 1 ∷ 0 ∷ 3 ∷ []))

-- all that these cases compute with
unfoldable trying : Unit {0}
unfolding refusing flat record24 node A B policy0 K in_store altered add_any add_drop delete_d answer with front rule filled policy changed four_actions
trying = tt

-- rows 1, 2 and 11, place 0: no record, 658 of them, and 657, of which the 21st has no kind; a byte less of store, also with no record; a byte less of work
arguments :
    check_refusal (in_store K) 0 2048
    ∷ check_refusal (in_store K) 658 2048
    ∷ check_refusal (in_store K) 657 2048
    ∷ check_refusal (take 15767 (in_store K)) 20 2048
    ∷ check_refusal (take 15767 (in_store K)) 0 2048
    ∷ check_refusal (in_store K) 20 2047
    ∷ check_refusal (in_store K) 20 2048
    ∷ []
    ≡ some (1, 0) ∷ some (1, 0) ∷ some (3, 20) ∷ some (2, 0) ∷ some (1, 0) ∷ some (11, 0) ∷ none ∷ []
unfolding trying
arguments = refl

-- row 11 without a policy: two planes
no_policy : network_row (take 6 K) 255 ∷ network_row (take 6 K) 256 ∷ [] ≡ some (11, 0) ∷ none ∷ []
unfolding trying
no_policy = refl

-- row 11 with three policies, of which the second is the longest with 3 nodes: five planes
longest_policy :
    map (network_row (front ++ (policy 0 ∷ policy 1 ∷ policy 1 ∷ policy 1 ∷ policy 2 ∷ []))) (639 ∷ 640 ∷ []) ≡ some (11, 0) ∷ none ∷ []
unfolding trying
longest_policy = refl

-- row 3: kinds 0, 6, 8, 10 and 255, a kind below the one before, a first record that is not the widths, and a second one that is
row_3 :
    map answer ((8, 0, 0) ∷ (8, 0, 6) ∷ (8, 0, 8) ∷ (8, 0, 10) ∷ (8, 0, 255) ∷ (8, 0, 4) ∷ (0, 0, 2) ∷ (1, 0, 1) ∷ [])
    ≡ replicate 6 (some (3, 8)) ++ (some (3, 0) ∷ some (3, 1) ∷ [])
unfolding trying
row_3 = refl

-- row 4: H 0 and 7, P 1 and 5, W 5; N 11 by H 6, P 3, W 1; and before row 5 of the same record
row_4 :
    map answer ((0, 1, 0) ∷ (0, 1, 7) ∷ (0, 2, 1) ∷ (0, 2, 5) ∷ (0, 3, 5) ∷ [])
    ++ map (file_row []) (altered (altered K 0 1 6) 0 2 3 ∷ altered (altered K 0 1 0) 0 5 1 ∷ [])
    ≡ replicate 7 (some (4, 0))
unfolding trying
row_4 = refl

-- H 6, with which N is 10, and P 4 pass; with W 0 the link leads to no switch, and with W 4 misses are missing
within_limits_lem : map answer ((0, 1, 6) ∷ (0, 2, 4) ∷ (0, 3, 0) ∷ (0, 3, 4) ∷ []) ≡ none ∷ none ∷ some (5, 1) ∷ some (7, 4) ∷ []
unfolding trying
within_limits_lem = refl

-- row 5 of the widths: version 2, bytes 5 and 23; of a link: a switch and a port beyond the width at each end, bytes 5 and 23
row_5_widths_and_link :
    map answer ((0, 4, 2) ∷ (0, 5, 1) ∷ (0, 23, 1) ∷ (1, 1, 2) ∷ (1, 2, 4) ∷ (1, 3, 2) ∷ (1, 4, 4) ∷ (1, 5, 1) ∷ (1, 23, 1) ∷ [])
    ≡ replicate 3 (some (5, 0)) ++ replicate 6 (some (5, 1))
unfolding trying
row_5_widths_and_link = refl

-- row 5 of a miss: the switch, bytes 2 and 7, no action and five, an action of no kind, a value beside its care, a care beyond the width, an action not used, bytes 21 and 23
row_5_miss :
    map answer ((2, 1, 2) ∷ (2, 2, 1) ∷ (2, 7, 1) ∷ (2, 8, 0) ∷ (2, 8, 5) ∷ (2, 9, 0) ∷ (2, 9, 5) ∷ (2, 10, 4) ∷ (2, 11, 4) ∷ (2, 12, 1) ∷ (2, 20, 1) ∷ (2, 21, 1) ∷ (2, 23, 1) ∷ [])
    ≡ replicate 13 (some (5, 2))
unfolding trying
row_5_miss = refl

-- row 5 of a rule: the switch, port value, port care, header value and header care, two actions of which one is missing, SET as the last, bytes 20, 21 and 23
row_5_rule :
    map answer ((4, 1, 2) ∷ (4, 4, 4) ∷ (4, 5, 2) ∷ (4, 5, 7) ∷ (4, 6, 2) ∷ (4, 7, 3) ∷ (4, 8, 2) ∷ (4, 9, 2) ∷ (4, 20, 1) ∷ (4, 21, 1) ∷ (4, 23, 1) ∷ [])
    ≡ replicate 11 (some (5, 4))
unfolding trying
row_5_rule = refl

-- row 5 of a node: policy 9, kind 9, variable 2, byte 4 of E, bytes 5 and 23; of BIT variable 2 and bit N; byte 4 of NOT; of R each variable; TC's pair 4; SOME's variable 2
row_5_node :
    map answer
    ((6, 1, 9) ∷ (6, 2, 9) ∷ (6, 3, 2) ∷ (6, 4, 1) ∷ (6, 5, 1) ∷ (6, 23, 1) ∷ (7, 3, 2) ∷ (7, 4, 5) ∷ (8, 4, 1) ∷ (10, 3, 2) ∷ (10, 4, 2) ∷ (11, 4, 4) ∷ (18, 4, 2) ∷ [])
    ≡ replicate 6 (some (5, 6)) ++ (some (5, 7) ∷ some (5, 7) ∷ some (5, 8) ∷ some (5, 10) ∷ some (5, 10) ∷ some (5, 11) ∷ some (5, 18) ∷ [])
unfolding trying
row_5_node = refl

-- K passes, and so it does with rule A at the controller port, with any priority of B, with BIT's bit 0, with each other pair of TC, and with versions 1 and 4
passes :
    file_row [] K ∷ map answer ((4, 4, 3) ∷ (5, 3, 255) ∷ (7, 4, 0) ∷ (11, 4, 0) ∷ (11, 4, 2) ∷ (11, 4, 3) ∷ (0, 4, 1) ∷ (0, 4, 4) ∷ [])
    ≡ replicate 9 none
unfolding trying
passes = refl

-- a miss, a rule, an add and a modify with four actions pass; a rule and an add with SET as the fourth do not
four_actions_lem :
    file_row [] (take 2 K ++ (four_actions (3 ∷ 0 ∷ 0 ∷ 0 ∷ 0 ∷ 0 ∷ 0 ∷ 0 ∷ []) ∷ drop 3 K))
    ∷ with 6 (four_actions (4 ∷ 0 ∷ 11 ∷ 0 ∷ 1 ∷ 3 ∷ 0 ∷ 1 ∷ []))
    ∷ command_row K (four_actions (6 ∷ 0 ∷ 11 ∷ 0 ∷ 1 ∷ 3 ∷ 0 ∷ 1 ∷ []))
    ∷ command_row K (four_actions (7 ∷ 0 ∷ 11 ∷ 0 ∷ 1 ∷ 3 ∷ 0 ∷ 1 ∷ []))
    ∷ with 6 (changed (changed (four_actions (4 ∷ 0 ∷ 11 ∷ 0 ∷ 1 ∷ 3 ∷ 0 ∷ 1 ∷ [])) 18 2) 20 1)
    ∷ command_row K (changed (changed (four_actions (6 ∷ 0 ∷ 11 ∷ 0 ∷ 1 ∷ 3 ∷ 0 ∷ 1 ∷ [])) 18 2) 20 1)
    ∷ []
    ≡ none ∷ none ∷ none ∷ none ∷ some (5, 6) ∷ some (12, 0) ∷ []
unfolding trying
four_actions_lem = refl

-- nor does a rule in which the value of one of them, each in its turn, is beyond its care
each_action : map (λ k. with 6 (changed (four_actions (4 ∷ 0 ∷ 11 ∷ 0 ∷ 1 ∷ 3 ∷ 0 ∷ 1 ∷ [])) k 4)) (10 ∷ 13 ∷ 16 ∷ 19 ∷ []) ≡ replicate 4 (some (5, 6))
unfolding trying
each_action = refl

-- row 6: each end at drop and at the controller, and both ends the same point; a second link at each end of the first, by either of its own
row_6 :
    map answer ((1, 2, 0) ∷ (1, 2, 3) ∷ (1, 4, 0) ∷ (1, 4, 3) ∷ [])
    ++ (file_row [] (altered (altered K 1 3 0) 1 4 2)
    ∷ map (with 2) (map record24 ((2 ∷ 0 ∷ 2 ∷ 1 ∷ 2 ∷ []) ∷ (2 ∷ 1 ∷ 2 ∷ 0 ∷ 2 ∷ []) ∷ (2 ∷ 0 ∷ 1 ∷ 1 ∷ 1 ∷ []) ∷ (2 ∷ 1 ∷ 1 ∷ 0 ∷ 1 ∷ []) ∷ [])))
    ≡ replicate 5 (some (6, 1)) ++ replicate 4 (some (6, 2))
unfolding trying
row_6 = refl

-- a link between two ports of one switch passes, and one between the two points that have none
links_pass : answer (1, 3, 0) ∷ with 2 (record24 (2 ∷ 0 ∷ 1 ∷ 1 ∷ 2 ∷ [])) ∷ [] ≡ none ∷ none ∷ []
unfolding trying
links_pass = refl

-- row 7: the misses of switch 1 first and of switch 0 twice; the second one missing, at the first rule, at a node that is faulty by row 9, and at the end; both missing, at the end; and not at a rule that is faulty by row 5
row_7 :
    map answer ((2, 1, 1) ∷ (3, 1, 0) ∷ [])
    ++ map (file_row [])
    ((take 3 K ++ drop 4 K) ∷ (take 3 K ++ (node 3 0 0 ∷ [])) ∷ take 3 K ∷ take 2 K ∷ (take 3 K ++ (record24 (4 ∷ 2 ∷ []) ∷ [])) ∷ [])
    ≡ some (7, 2) ∷ some (7, 3) ∷ some (7, 3) ∷ some (7, 3) ∷ some (7, 3) ∷ some (7, 2) ∷ some (5, 3) ∷ []
unfolding trying
row_7 = refl

-- row 8: rule A twice, also with another action; with another priority it is another rule
row_8 :
    map (λ r. with 6 r) (A ∷ record24 (4 ∷ drop 1 add_drop) ∷ record24 (4 ∷ 0 ∷ 11 ∷ drop 3 A) ∷ []) ≡ some (8, 6) ∷ some (8, 6) ∷ none ∷ []
unfolding trying
row_8 = refl

-- row 9, an operand that is the node itself or behind it: of NOT, each of AND, of TC and of SOME; and before a fault of the next record
row_9_operands :
    map answer ((8, 3, 2) ∷ (8, 3, 255) ∷ (9, 3, 3) ∷ (9, 4, 3) ∷ (11, 3, 5) ∷ (18, 3, 12) ∷ []) ++ (file_row [] (altered (altered K 8 3 9) 9 0 0) ∷ [])
    ≡ some (9, 8) ∷ some (9, 8) ∷ some (9, 9) ∷ some (9, 9) ∷ some (9, 11) ∷ some (9, 18) ∷ some (9, 8) ∷ []
unfolding trying
row_9_operands = refl

-- row 9, bytes 3 and 4 of each node kind, and of none, as number 2 of its policy: an operand is 0 or 1, and what is none may be any byte
operands :
    (map (λ k. keep (λ a. operands_good k a 0 2) (from 0 4)) (from 0 10) ≡ replicate 3 (from 0 4) ++ replicate 6 (from 0 2) ++ ([] ∷ []))
    × (map (λ k. keep (λ b. operands_good k 0 b 2) (from 0 4)) (from 0 10) ≡ replicate 4 (from 0 4) ++ replicate 2 (from 0 2) ++ replicate 3 (from 0 4) ++ ([] ∷ []))
unfolding trying
operands = (refl, refl)

-- row 9, the policy: the first is 1, and after policy 0 come 2 and 8
row_9_policy : map answer ((6, 1, 1) ∷ (8, 1, 2) ∷ (8, 1, 8) ∷ []) ≡ some (9, 6) ∷ some (9, 8) ∷ some (9, 8) ∷ []
unfolding trying
row_9_policy = refl

-- row 9, Y free at the last node: TC 4 (X,Y) at the end, AND 5 10 at the end, before a record of a command's kind and before another policy; SOME removing X and not Y
row_9_free :
    map (file_row []) (take 12 K ∷ take 18 K ∷ (take 18 K ++ (add_any ∷ [])) ∷ (take 18 K ++ (policy 1 ∷ [])) ∷ []) ++ (answer (18, 4, 0) ∷ [])
    ≡ some (9, 11) ∷ some (9, 17) ∷ some (9, 17) ∷ some (9, 17) ∷ some (9, 19) ∷ []
unfolding trying
row_9_free = refl

-- row 10: behind 255 rules another passes, and behind 256 it does not; one that stands there already is row 8
row_10_rules :
    record_row (filled 255) (rule 255) [] ∷ map (λ r. record_row (filled 256) r []) (rule 256 ∷ rule 0 ∷ []) ≡ none ∷ some (10, 260) ∷ some (8, 260) ∷ []
unfolding trying
row_10_rules = refl

-- eight policies pass, and a ninth does not; policy 9 is row 5, and a ninth one with an operand that is not earlier is row 9
row_10_policies :
    map (λ more. file_row [] (front ++ map policy (from 0 8) ++ more)) ([] ∷ (policy 8 ∷ []) ∷ (policy 9 ∷ []) ∷ (record24 (5 ∷ 8 ∷ 3 ∷ []) ∷ []) ∷ [])
    ≡ none ∷ some (10, 12) ∷ some (5, 12) ∷ some (9, 12) ∷ []
unfolding trying
row_10_policies = refl

-- 32 nodes pass, and a 33rd does not; one with an operand that is not earlier is row 9
row_10_nodes :
    map (λ more. file_row [] (front ++ replicate 32 (node 2 0 0) ++ more)) ([] ∷ (node 3 31 0 ∷ []) ∷ (node 3 32 0 ∷ []) ∷ []) ≡ none ∷ some (10, 36) ∷ some (9, 36) ∷ []
unfolding trying
row_10_nodes = refl

-- row 12: no byte, 23 and 25 of them, kinds 5 and 9, a switch beyond the width, no action, byte 21, and a delete with an action count
row_12 :
    map (command_row K)
    ([] ∷ take 23 add_any ∷ (add_any ++ (0 ∷ [])) ∷ changed add_any 0 5 ∷ changed add_any 0 9 ∷ changed add_any 1 2 ∷ changed add_any 8 0 ∷ changed add_any 21 1 ∷ changed delete_d 8 1 ∷ [])
    ≡ replicate 9 (some (12, 0))
unfolding trying
row_12 = refl

-- with 256 rules, adds of a new one: row 13; with an absent group, row 16; and with a switch beyond the width too, row 12
row_13 :
    map (command_row (filled 256))
    (changed add_any 3 2 ∷ record24 (6 ∷ 0 ∷ 5 ∷ 2 ∷ 0 ∷ 0 ∷ 0 ∷ 0 ∷ 1 ∷ 4 ∷ 2 ∷ 0 ∷ []) ∷ record24 (6 ∷ 2 ∷ 5 ∷ 2 ∷ 0 ∷ 0 ∷ 0 ∷ 0 ∷ 1 ∷ 4 ∷ 2 ∷ 0 ∷ []) ∷ [])
    ≡ some (13, 0) ∷ some (16, 0) ∷ some (12, 0) ∷ []
unfolding trying
row_13 = refl

-- an add that replaces a rule passes there, and so do a modify and a delete of an absent one; with 255 rules a new one passes
not_full : command_row (filled 255) (changed add_any 3 2) ∷ map (command_row (filled 256)) (add_any ∷ changed (changed add_any 3 2) 0 7 ∷ delete_d ∷ []) ≡ replicate 4 none
unfolding trying
not_full = refl
