-- Sizes and the range of each field, written by hand from document 01's table of records: by computation. And every unnamed byte is zero.
use Rattle.std.specs.Prelude.{◌≡◌, refl, Bool, true, false, ◌&&◌, List, [], ◌∷◌, map, ◌⊎◌, ℕ, ◌+◌, ◌-◌, ◌*◌, ◌^◌, ◌≤◌, leb, ltb, length, replicate}
use Rattle.std.proofs.Common.{sym, ◌∙◌, arith}
use Rattle.basics.specs.Laws.Tests.{and_left, and_right}
use Rattle.basics.specs.Lists.{keep, from}
use Rattle.format.specs.Record.{Rec, at, kind, most_records, store_bytes, most_rules, most_policies, most_nodes, most_groups, action_kind}
use Rattle.widths.specs.WidthsTable.{widths}
use Rattle.format.specs.Version.{version_good}
use Rattle.format.specs.Pattern.{pattern_good}
use Rattle.format.specs.Policy.{node_kind}
use Rattle.format.specs.Fields.{zeros, point_good, used_good, actions_good, match_good, node_good, buckets_good, fields_good, command_good}
use Rattle.widths.specs.declared.Widths.{Widths}
use Rattle.format.specs.Laws.Fields.{widths_fields, link_fields, miss_fields, rule_fields, node_fields_lem, group_fields, change_fields, delete_fields, zero_byte}

-- 16 switches with 14 ordinary ports each have 112 links at most; with the widths, 16 misses, the rules, the nodes and the groups that is the largest network
largest : most_records ≡ 1 + 112 + 16 + most_rules + most_policies * most_nodes + most_groups
largest = refl

-- and a store holds it
store_holds_it : store_bytes ≡ most_records * 24
store_holds_it = refl

-- K's widths, by which N is 5
abbrev w : Widths
w = widths 1 2 1

-- bytes to try: 0 to 5, and 255
abbrev tried : List ℕ
tried = 0 ∷ 1 ∷ 2 ∷ 3 ∷ 4 ∷ 5 ∷ 255 ∷ []

-- byte 3 of a node of each kind, and of none: a variable, or any byte as an operand
node_byte_3 :
    map (λ k. keep (λ a. node_good w k a 0) tried) (from 0 10)
    ≡ (0 ∷ 1 ∷ []) ∷ (0 ∷ 1 ∷ []) ∷ (0 ∷ 1 ∷ []) ∷ tried ∷ tried ∷ tried ∷ tried ∷ tried ∷ tried ∷ [] ∷ []
unfolding keep from node_kind node_good
node_byte_3 = refl

-- byte 4: of BIT a bit below N, of R, SOME and ALL a variable, of E and NOT zero, of AND and OR an operand, of TC one of four pairs
node_byte_4 :
    map (λ k. keep (node_good w k 0) tried) (from 0 10)
    ≡ from 0 5 ∷ (0 ∷ 1 ∷ []) ∷ (0 ∷ []) ∷ (0 ∷ []) ∷ tried ∷ tried ∷ (0 ∷ 1 ∷ []) ∷ (0 ∷ 1 ∷ []) ∷ from 0 4 ∷ [] ∷ []
unfolding keep from node_kind node_good
node_byte_4 = refl

-- the values of 0 to 17 that an action of a kind may have with the cares 0 to 4
valued : Bool → ℕ → List (List ℕ)
valued last k = map (λ care. keep (λ value. used_good w k value care last) (from 0 18)) (from 0 5)

-- what computing them opens
unfoldable acting : Unit {0}
unfolding keep from valued pattern_good action_kind
acting = tt

-- actions of no kind, OUTPUT, SET, IN_PORT, running a group, and of no kind
actions :
    map (valued false) (from 0 6)
    ≡ replicate 5 []
    ∷ ((0 ∷ []) ∷ (0 ∷ 1 ∷ []) ∷ (0 ∷ 2 ∷ []) ∷ (0 ∷ 1 ∷ 2 ∷ 3 ∷ []) ∷ [] ∷ [])
    ∷ ((0 ∷ []) ∷ (0 ∷ 1 ∷ []) ∷ [] ∷ [] ∷ [] ∷ [])
    ∷ ((0 ∷ []) ∷ [] ∷ [] ∷ [] ∷ [] ∷ [])
    ∷ (from 0 16 ∷ [] ∷ [] ∷ [] ∷ [] ∷ [])
    ∷ replicate 5 []
    ∷ []
unfolding acting
actions = refl

-- as the last used one SET is bad, and the others are as elsewhere
last_action :
    map (valued true) (from 0 6)
    ≡ replicate 5 []
    ∷ ((0 ∷ []) ∷ (0 ∷ 1 ∷ []) ∷ (0 ∷ 2 ∷ []) ∷ (0 ∷ 1 ∷ 2 ∷ 3 ∷ []) ∷ [] ∷ [])
    ∷ replicate 5 []
    ∷ ((0 ∷ []) ∷ [] ∷ [] ∷ [] ∷ [] ∷ [])
    ∷ (from 0 16 ∷ [] ∷ [] ∷ [] ∷ [] ∷ [])
    ∷ replicate 5 []
    ∷ []
unfolding acting
last_action = refl

-- the bytes from the first up to the last are unnamed
abbrev Zero : Rec → ℕ → ℕ → Type 0
Zero r first last = (k : ℕ) → first ≤ k → k ≤ last → at r k ≡ 0

-- the unnamed bytes of a record of each kind, with those that a miss and a delete have zero
record Unnamed (r : Rec) : Type 0 where
  of_widths : kind r ≡ 1 → Zero r 5 23
  of_link : kind r ≡ 2 → Zero r 5 23
  of_miss : kind r ≡ 3 → Zero r 2 7 × Zero r 21 23
  of_rule : kind r ≡ 4 → Zero r 21 23
  of_node : kind r ≡ 5 → Zero r 5 23
  of_group : kind r ≡ 9 → Zero r 3 7 × Zero r 21 23

-- and those of a command
record UnnamedInCommand (c : Rec) : Type 0 where
  of_add_and_modify : (kind c ≡ 6) ⊎ (kind c ≡ 7) → Zero c 21 23
  of_delete : kind c ≡ 8 → Zero c 8 23

zero_between : (r : Rec) (first last : ℕ) → length r ≡ 24 → last ≤ 23 → zeros first last r ≡ true → Zero r first last
zero_between r first last l h z k a b = rw (let q : first + (k - first) ≡ k = omega arith in q) at (zero_byte (k - first) first last r (omega arith) (omega arith) z)

module _ (w : Widths) (r : Rec) (l : length r ≡ 24) where
  -- the bytes of a range are zero where that is the last part of a test that passes
  behind : (a : Bool) (first last : ℕ) {b : Bool} → last ≤ 23 → b ≡ (a && zeros first last r) → b ≡ true → Zero r first last
  behind a first last h e t = zero_between r first last l h (and_right a (zeros first last r) (sym e ∙ t))

  -- a record whose fields are good has zero in each unnamed byte
  unnamed_zero : fields_good w r ≡ true → Unnamed r
  unnamed_zero g =
      let switch = ltb (at r 1) (2 ^ w.w) in
      let middle = switch && zeros 2 7 r in
      let group = switch && leb (at r 2) 15 in
      record {
        of_widths = λ e. behind (version_good (at r 4)) 5 23 (omega arith) (widths_fields w r e) g;
        of_link = λ e. behind (point_good w (at r 1) (at r 2) && point_good w (at r 3) (at r 4)) 5 23 (omega arith) (link_fields w r e) g;
        of_miss = λ e. (
          behind switch 2 7 (omega arith) refl
              (and_left middle (actions_good w r) (and_left (middle && actions_good w r) (zeros 21 23 r) (sym (miss_fields w r e) ∙ g))),
          behind (middle && actions_good w r) 21 23 (omega arith) (miss_fields w r e) g,
        );
        of_rule = λ e. behind (match_good w r && actions_good w r) 21 23 (omega arith) (rule_fields w r e) g;
        of_node = λ e. behind (leb (at r 1) most_policies && node_good w (at r 2) (at r 3) (at r 4)) 5 23 (omega arith) (node_fields_lem w r e) g;
        of_group = λ e. (
          behind group 3 7 (omega arith) refl
              (and_left (group && zeros 3 7 r) (buckets_good w r)
              (and_left (group && zeros 3 7 r && buckets_good w r) (zeros 21 23 r) (sym (group_fields w r e) ∙ g))),
          behind (group && zeros 3 7 r && buckets_good w r) 21 23 (omega arith) (group_fields w r e) g,
        );
      }

  -- and so has a command
  unnamed_zero_in_command : command_good w r ≡ true → UnnamedInCommand r
  unnamed_zero_in_command g =
      record {
        of_add_and_modify = λ e. behind (actions_good w r) 21 23 (omega arith) refl
            (and_right (match_good w r) (actions_good w r && zeros 21 23 r) (sym (change_fields w r e) ∙ g));
        of_delete = λ e. behind (match_good w r) 8 23 (omega arith) (delete_fields w r e) g;
      }
