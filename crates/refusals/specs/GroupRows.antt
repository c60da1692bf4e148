-- Row 16 on a small network with groups, by computation: what each change of one byte of it is refused with, how many groups there may be, which rows come before, and
-- commands.
use Rattle.std.specs.Prelude.{◌≡◌, refl, List, [], ◌∷◌, ◌++◌, map, ℕ, take, drop, replicate}
use Rattle.std.proofs.Math.Option.{none, some}
use Rattle.basics.specs.Lists.{from}
use Rattle.format.specs.Record.{Rec, Net}
use Rattle.format.specs.NetK.{record24, altered}
use Rattle.refusals.specs.Refusal.{Refusal, file_row, command_row}
use Rattle.refusals.specs.Computing.{refusing}

-- group g of a switch, with one bucket, to drop
unfoldable to_drop : ℕ → ℕ → Rec
to_drop sw g = record24 (9 ∷ sw ∷ g ∷ 0 ∷ 0 ∷ 0 ∷ 0 ∷ 0 ∷ 1 ∷ 0 ∷ 0 ∷ 1 ∷ 0 ∷ [])

-- the widths, H 1, P 2, W 1, and the misses: OUTPUT 0, and group 2
unfoldable front : Net
front =
    record24 (1 ∷ 1 ∷ 2 ∷ 1 ∷ [])
    ∷ record24 (3 ∷ 0 ∷ 0 ∷ 0 ∷ 0 ∷ 0 ∷ 0 ∷ 0 ∷ 1 ∷ 1 ∷ 0 ∷ 3 ∷ [])
    ∷ record24 (3 ∷ 1 ∷ 0 ∷ 0 ∷ 0 ∷ 0 ∷ 0 ∷ 0 ∷ 1 ∷ 4 ∷ 2 ∷ 0 ∷ [])
    ∷ []

-- then 3: a rule of switch 0, group 1; 4: a policy node; 5: group 0/1, to port 1; 6: group 1/0, to the controller; 7: group 1/2, on to group 0, and
-- SET 1 to drop; 8: group 1/14, to drop
unfoldable sound : Net
sound =
    front ++ (record24 (4 ∷ 0 ∷ 1 ∷ 0 ∷ 0 ∷ 0 ∷ 0 ∷ 0 ∷ 1 ∷ 4 ∷ 1 ∷ 0 ∷ [])
    ∷ record24 (5 ∷ [])
    ∷ record24 (9 ∷ 0 ∷ 1 ∷ 0 ∷ 0 ∷ 0 ∷ 0 ∷ 0 ∷ 1 ∷ 0 ∷ 0 ∷ 1 ∷ 1 ∷ [])
    ∷ record24 (9 ∷ 1 ∷ 0 ∷ 0 ∷ 0 ∷ 0 ∷ 0 ∷ 0 ∷ 1 ∷ 0 ∷ 0 ∷ 1 ∷ 3 ∷ [])
    ∷ record24 (9 ∷ 1 ∷ 2 ∷ 0 ∷ 0 ∷ 0 ∷ 0 ∷ 0 ∷ 2 ∷ 0 ∷ 0 ∷ 2 ∷ 0 ∷ 1 ∷ 1 ∷ 1 ∷ 0 ∷ [])
    ∷ to_drop 1 14 ∷ [])

-- what it is refused with where a byte is another: record, byte and value
unfoldable answer : ℕ × ℕ × ℕ → Refusal
answer c = file_row [] (altered sound c.0 c.1 c.2)

-- all that these cases compute with
unfoldable trying : Unit {0}
unfolding refusing record24 to_drop front sound altered answer
trying = tt

-- it passes, and so it does with 15 and with 3 for the number of the last group, with that to the controller, with group 1/0 to drop, and with both buckets of 1/2 on to group 0
passes : file_row [] sound ∷ map answer ((8, 2, 15) ∷ (8, 2, 3) ∷ (8, 12, 3) ∷ (6, 12, 0) ∷ (7, 15, 2) ∷ []) ≡ replicate 6 none
unfolding trying
passes = refl

-- fields of a group: the switch, the number, bytes 3 and 7, no bucket and four, a bucket missing, a value beside its care, a care beyond the width, a target of no
-- kind, a port beyond the width, a bucket not used, and byte 21
fields : map answer
    ((8, 1, 2) ∷ (8, 2, 16) ∷ (8, 3, 1) ∷ (8, 7, 1) ∷ (8, 8, 0) ∷ (8, 8, 4) ∷ (8, 8, 2) ∷ (8, 9, 1) ∷ (8, 10, 2) ∷ (8, 11, 0) ∷ (8, 11, 3) ∷ (8, 12, 4) ∷ (8, 13, 1) ∷ (8, 20, 1) ∷ (8, 21, 1) ∷ [])
    ≡ replicate 15 (some (16, 8))
unfolding trying
fields = refl

-- a bucket on to its own group, to a higher one, and to a lower one that is not there
lower : map answer ((7, 12, 2) ∷ (7, 12, 14) ∷ (7, 12, 1) ∷ []) ≡ replicate 3 (some (16, 7))
unfolding trying
lower = refl

-- a group out of order by its number, the same group twice, and one out of order by its switch
order : map answer ((8, 2, 1) ∷ (8, 2, 2) ∷ (8, 1, 0) ∷ []) ≡ replicate 3 (some (16, 8))
unfolding trying
order = refl

-- a miss and a rule that name an absent group, the rule one that another switch has; the rule's group under another number; a group that is there though its own record is
-- faulty; a group number above 15 and a care that is not zero, which are row 5; a record of a command's kind
named : map answer ((2, 10, 3) ∷ (3, 10, 2) ∷ (5, 2, 3) ∷ (5, 8, 0) ∷ (3, 10, 16) ∷ (3, 11, 1) ∷ (8, 0, 8) ∷ [])
    ≡ some (16, 2) ∷ some (16, 3) ∷ some (16, 3) ∷ some (16, 5) ∷ some (5, 3) ∷ some (5, 3) ∷ some (3, 8) ∷ []
unfolding trying
named = refl

-- a rule's bytes 0 to 7, and four actions, of which the last runs group g
unfoldable fourth : List ℕ → ℕ → Rec
fourth front g = record24 (front ++ (4 ∷ 1 ∷ 1 ∷ 3 ∷ 1 ∷ 2 ∷ 3 ∷ 1 ∷ 0 ∷ 3 ∷ 4 ∷ g ∷ 0 ∷ []))

-- the last of four actions, in a rule and in a command, and the last of three buckets, each naming a group that is there and one that is not
last_named :
    map (λ g. file_row [] (take 4 sound ++ (fourth (4 ∷ 0 ∷ 2 ∷ 0 ∷ 0 ∷ 0 ∷ 0 ∷ 0 ∷ []) g ∷ drop 4 sound))) (1 ∷ 2 ∷ [])
    ++ map (λ g. command_row sound (fourth (6 ∷ 0 ∷ 2 ∷ 0 ∷ 0 ∷ 0 ∷ 0 ∷ 0 ∷ []) g)) (1 ∷ 2 ∷ [])
    ++ map (λ g. file_row [] (altered (altered (altered sound 7 8 3) 7 19 2) 7 20 g)) (0 ∷ 1 ∷ [])
    ≡ none ∷ some (16, 4) ∷ none ∷ some (16, 0) ∷ none ∷ some (16, 7) ∷ []
unfolding trying fourth
last_named = refl

-- sixteen groups pass, and a 17th does not; at a group the misses are incomplete
many : file_row [] (front ++ map (to_drop 1) (from 0 16)) ∷ file_row [] (front ++ (to_drop 0 7 ∷ map (to_drop 1) (from 0 16))) ∷ file_row [] (take 2 front ++ (to_drop 0 0 ∷ [])) ∷ []
    ≡ none ∷ some (16, 19) ∷ some (7, 2) ∷ []
unfolding trying
many = refl

-- a faulty group that is first, which is row 3, and one before which a miss is missing, row 7; a rule that is there already and names an absent group, row 8
before_16 :
    file_row [] (to_drop 0 16 ∷ [])
    ∷ file_row [] (take 2 front ++ (to_drop 0 16 ∷ []))
    ∷ file_row [] (take 4 sound ++ (record24 (4 ∷ 0 ∷ 1 ∷ 0 ∷ 0 ∷ 0 ∷ 0 ∷ 0 ∷ 1 ∷ 4 ∷ 9 ∷ 0 ∷ []) ∷ drop 4 sound))
    ∷ []
    ≡ some (3, 0) ∷ some (7, 2) ∷ some (8, 4) ∷ []
unfolding trying
before_16 = refl

-- a command on it: an add that names a group of its switch, of the other one, and above 15; a modify of an absent rule that names an absent group; a delete
commands : map (command_row sound)
    (record24 (6 ∷ 1 ∷ 9 ∷ 0 ∷ 0 ∷ 0 ∷ 0 ∷ 0 ∷ 1 ∷ 4 ∷ 14 ∷ 0 ∷ [])
    ∷ record24 (6 ∷ 0 ∷ 9 ∷ 0 ∷ 0 ∷ 0 ∷ 0 ∷ 0 ∷ 1 ∷ 4 ∷ 14 ∷ 0 ∷ [])
    ∷ record24 (6 ∷ 0 ∷ 9 ∷ 0 ∷ 0 ∷ 0 ∷ 0 ∷ 0 ∷ 1 ∷ 4 ∷ 16 ∷ 0 ∷ [])
    ∷ record24 (7 ∷ 0 ∷ 9 ∷ 0 ∷ 0 ∷ 0 ∷ 0 ∷ 0 ∷ 2 ∷ 1 ∷ 1 ∷ 3 ∷ 4 ∷ 2 ∷ 0 ∷ [])
    ∷ record24 (8 ∷ 0 ∷ 9 ∷ 0 ∷ [])
    ∷ [])
    ≡ none ∷ some (16, 0) ∷ some (12, 0) ∷ some (16, 0) ∷ none ∷ []
unfolding trying
commands = refl
