-- The record that a command stores: a rule with its match, good fields and groups that are there, where rows 12, 16 and 13 passed the command.
use Rattle.std.specs.Prelude.{◌≡◌, refl, Bool, true, false, not, ◌&&◌, ◌⊎◌, ℕ, ◌+◌, ◌*◌, ◌<◌, ◌≤◌, eqb, ltb, length, take}
use Rattle.std.proofs.Math.Path.{sym, ap}
use Rattle.std.proofs.Common.{◌∙◌, inl, inr, arith, eqb-true, ltb-false, leb-false, lit<, length-take-le, take_all, drop-drop, get_or-drop}
use Rattle.std.proofs.lemmas.Bool.{false≢true, not-false}
use mathlib.Core.List.{List, [], ◌∷◌, ◌++◌}
use Rattle.std.proofs.Math.Option.{none}
use Rattle.std.proofs.Math.Decide.{ℕ_discrete}
use Rattle.std.proofs.Math.Dec.{T}
use Rattle.std.proofs.Math.ListN.{get_or, drop, length-append, length-drop}
use Rattle.std.proofs.Math.Seq.{take_at, drop_at, get_or-take}
use Rattle.basics.specs.Laws.Tests.{both, and_both, or_none}
use Rattle.basics.specs.Lists.{all, from}
use Rattle.format.specs.Record.{Rec, Net, most_rules, at, kind, command_kind, of_kind, same_rule, present, widths_of}
use Rattle.format.specs.declared.kinds.CommandKind.{CommandKind}
use Rattle.format.specs.declared.kinds.CommandKind.TheVariants.{Add as k_add, Modify as k_modify, Delete as k_delete, Unknown as k_no_command}
use Rattle.format.specs.Group.{runs_there, actions_there, groups_there}
use Rattle.format.specs.Version.{version_of, acting, is_add}
use Rattle.refusals.specs.Rows.{row12, row13, row16_command}
use Rattle.format.specs.Fields.{zeros, action_good, actions_good, match_good, fields_good, command_good}
use Rattle.refusals.specs.Refusal.{or_else, row, command_row}
use Rattle.format.specs.Laws.NamedGroups.{ActionsNamed, switch_lt, match_switch, actions_named}
use Rattle.widths.specs.declared.Widths.{Widths}
use Rattle.format.specs.declared.Version.{Version}
use Rattle.refusals.specs.Laws.Passing.{and_test, not_met, neither}
use Rattle.format.specs.Laws.Groups.{rule_there}
use Rattle.widths.specs.Laws.Limits.{Limits}
use Rattle.format.specs.Laws.Fields.{rule_fields, change_fields, delete_fields, zero_byte}
use Rattle.basics.specs.Laws.Lists.{same_numbers_lem}
use Rattle.refusals.specs.Laws.Edits.{match_of}
use Rattle.effect.specs.Apply.{as_rule, with_actions}

-- a command that rows 12, 16 and 13 pass
pub record Command (net : Net) (c : Rec) : Type 0 where
  pub bytes : length c ≡ 24
  pub least : 6 ≤ kind c
  pub most : kind c ≤ 8
  pub good : command_good (widths_of net) c ≡ true
  pub there : actions_there net c ≡ true
  pub room : is_add (acting (version_of net) c net) ≡ true → present c net ≡ false → length (of_kind 4 net) < most_rules

-- row 12 refuses a command of another length
pub faultless_length : (net : Net) (c : Rec) → row12 net c ≡ false → length c ≡ 24
unfolding row12
faultless_length net c e = eqb-true _ _ (not-false _ (or_none _ _ (or_none _ _ (or_none _ _ e).0).0).0)

-- a command that row 12 passes has a kind and good fields
pub faultless : (net : Net) (c : Rec) → row12 net c ≡ false → (6 ≤ kind c) × (kind c ≤ 8) × (command_good (widths_of net) c ≡ true)
unfolding row12
faultless net c e =
    let a = or_none _ _ e in
    let b = or_none _ _ a.0 in
    let d = or_none (not (eqb (length c) 24)) (ltb (kind c) 6) b.0 in
    (ltb-false _ _ d.1, ltb-false _ _ b.1, not-false _ a.1)

pub command : (net : Net) (c : Rec) → command_row net c ≡ none → Command net c
unfolding command_row row16_command row13
command net c e =
    let t = neither (row (row12 net c) 12 0) (or_else (row (row16_command net c) 16 0) (row (row13 net c) 13 0)) e in
    let u = neither (row (row16_command net c) 16 0) (row (row13 net c) 13 0) t.1 in
    let twelve = not_met (row12 net c) 12 0 t.0 in
    let fine = faultless net c twelve in
    record {
      bytes = faultless_length net c twelve;
      least = fine.0;
      most = fine.1;
      good = fine.2;
      there = not-false _ (not_met (row16_command net c) 16 0 u.0);
      room = λ q absent. leb-false _ _ (and_test _ _ (not_met (row13 net c) 13 0 u.1) (and_both (is_add (acting (version_of net) c net)) (not (present c net)) q (rw absent)));
    }

-- a command that brings actions: an add or a modify
abbrev pub AddOrModify : Rec → Type 0
AddOrModify c = (kind c ≡ 6) ⊎ (kind c ≡ 7)

-- and its fields
change_good : (w : Widths) (c : Rec) → AddOrModify c → command_good w c ≡ true → (match_good w c ≡ true) × (actions_good w c ≡ true) × (zeros 21 23 c ≡ true)
change_good w c q e =
    let t = both (match_good w c) (actions_good w c && zeros 21 23 c) (sym (change_fields w c q) ∙ e) in
    let u = both (actions_good w c) (zeros 21 23 c) t.1 in
    (t.0, u.0, u.1)

six_or_seven : {k : ℕ} → 6 ≤ k → k ≤ 8 → (k ≡ 8 → ⊥) → (k ≡ 6) ⊎ (k ≡ 7)
six_or_seven {k} l h n = go (ℕ_discrete k 6)
  where
    go : Dec (k ≡ 6) → (k ≡ 6) ⊎ (k ≡ 7)
    go (yes e) = inl e
    go (no e) = inr (omega (arith, e, n))

-- a command that deletes
abbrev pub is_delete : CommandKind → Bool
is_delete k_add = false
is_delete k_modify = false
is_delete k_delete = true
is_delete k_no_command = false

-- what acts as no delete is an add or a modify
pub add_or_modify : (v : Version) (c : Rec) (net : Net) → is_delete (acting v c net) ≡ false → 6 ≤ kind c → kind c ≤ 8 → AddOrModify c
unfolding acting command_kind
add_or_modify v c net e l h = six_or_seven l h (λ q. false≢true (sym e ∙ rw q))

-- a command that row 12 passes names groups that have bits
pub command_named : (net : Net) (c : Rec) → Limits (widths_of net) → row12 net c ≡ false → ActionsNamed c
command_named net c limits e =
    let w = widths_of net in
    let fine = faultless net c e in
    go (ℕ_discrete (kind c) 8) fine.0 fine.1 fine.2
  where
    go : Dec (kind c ≡ 8) → 6 ≤ kind c → kind c ≤ 8 → command_good (widths_of net) c ≡ true → ActionsNamed c
    go (yes k) l h g =
        let t = both (match_good (widths_of net) c) (zeros 8 23 c) (sym (delete_fields (widths_of net) c k) ∙ g) in
        record {
          switch = switch_lt (widths_of net) limits c (match_switch (widths_of net) limits c t.0);
          number = λ i h q.
              let z = zero_byte (1 + 3 * i) 8 23 c (omega arith) (omega (arith, faultless_length net c e)) t.1 in
              let m : 8 + (1 + 3 * i) ≡ 9 + 3 * i = omega arith in
              absurd (omega (arith, sym (ap (at c) m) ∙ z, q));
        }
    go (no k) l h g =
        let t = change_good (widths_of net) c (six_or_seven l h k) g in
        actions_named (widths_of net) limits c (match_switch (widths_of net) limits c t.0) t.1

-- the same rule is a rule, with the same match
pub same_rule_lem : (c r : Rec) → same_rule c r ≡ true → (kind r ≡ 4) × (match_of c ≡ match_of r)
unfolding same_rule
same_rule_lem c r e = let t = both _ _ e in (eqb-true _ _ t.0, same_numbers_lem (match_of c) (match_of r) t.1)

-- an added rule
pub as_rule-kind : (c : Rec) → kind (as_rule c) ≡ 4
unfolding as_rule
as_rule-kind c = refl

pub as_rule_match : (c : Rec) → match_of (as_rule c) ≡ match_of c
unfolding as_rule
as_rule_match c = refl

pub as_rule-bytes : (c : Rec) → length c ≡ 24 → length (as_rule c) ≡ 24
unfolding as_rule
as_rule-bytes c l = omega (arith, length-drop 1 c)

-- a rule's fields, of its match, its actions and its unnamed bytes
all_good : (w : Widths) (r : Rec) → kind r ≡ 4 → match_good w r ≡ true → actions_good w r ≡ true → zeros 21 23 r ≡ true → fields_good w r ≡ true
all_good w r q m a z = rule_fields w r q ∙ rw (m, a, z)

pub as_rule_good : (w : Widths) (c : Rec) → length c ≡ 24 → AddOrModify c → command_good w c ≡ true → fields_good w (as_rule c) ≡ true
unfolding as_rule match_good actions_good action_good zeros
as_rule_good w [] l q e = absurd (omega arith)
as_rule_good w (x ∷ c) l q e = let t = change_good w (x ∷ c) q e in all_good w (as_rule (x ∷ c)) refl t.0 t.1 t.2

-- records that agree in bytes 8 to 20 agree in each of them
middle_byte : (r s : Rec) → take 13 (drop 8 r) ≡ take 13 (drop 8 s) → (i : ℕ) → i < 13 → at r (8 + i) ≡ at s (8 + i)
middle_byte r s e i h = sym (part r) ∙ ap (λ (l : List ℕ). get_or l i 0) e ∙ part s
  where
    part : (q : Rec) → get_or (take 13 (drop 8 q)) i 0 ≡ at q (8 + i)
    part q = get_or-take 13 (drop 8 q) i 0 h ∙ get_or-drop 8 q i 0

-- whether the groups that actions run are there goes by these bytes and the switch
there_by : (net : Net) (r s : Rec) → at r 1 ≡ at s 1 → take 13 (drop 8 r) ≡ take 13 (drop 8 s) → actions_there net r ≡ actions_there net s
unfolding actions_there runs_there all from
there_by net r s one e =
    simp (one, middle_byte r s e 1 (lit< tt), middle_byte r s e 2 (lit< tt), middle_byte r s e 4 (lit< tt), middle_byte r s e 5 (lit< tt), middle_byte r s e 7 (lit< tt), middle_byte r s e 8 (lit< tt), middle_byte r s e 10 (lit< tt), middle_byte r s e 11 (lit< tt))

-- a match goes by the bytes before 8, and actions by those from 8 to 20
module _ (w : Widths) (r s : Rec) where
  match_front : take 8 r ≡ take 8 s → match_good w r ≡ match_good w s
  unfolding match_good
  match_front e = simp (g 1 tt, g 4 tt, g 5 tt, g 6 tt, g 7 tt)
    where
      g : (i : ℕ) → T (ltb i 8) → at r i ≡ at s i
      g i h = sym (get_or-take 8 r i 0 (lit< h)) ∙ ap (λ (l : List ℕ). get_or l i 0) e ∙ get_or-take 8 s i 0 (lit< h)

  actions_middle : take 13 (drop 8 r) ≡ take 13 (drop 8 s) → actions_good w r ≡ actions_good w s
  unfolding actions_good action_good
  actions_middle e = simp (g 0 tt, g 1 tt, g 2 tt, g 3 tt, g 4 tt, g 5 tt, g 6 tt, g 7 tt, g 8 tt, g 9 tt, g 10 tt, g 11 tt, g 12 tt)
    where
      g : (i : ℕ) → T (ltb i 13) → at r (8 + i) ≡ at s (8 + i)
      g i h = middle_byte r s e i (lit< h)

-- the rule of a command names the command's groups
pub as_rule_there : (net : Net) (c : Rec) → actions_there net c ≡ true → groups_there net (as_rule c) ≡ true
unfolding as_rule actions_there runs_there all from
as_rule_there net [] e = rule_there net (as_rule []) refl ∙ e
as_rule_there net (x ∷ c) e = rule_there net (as_rule (x ∷ c)) refl ∙ e

-- a match is among the bytes before 8
match_of_lem : (r : Rec) → match_of r ≡ drop 1 (take 8 r)
match_of_lem [] = refl
match_of_lem (x ∷ r) = refl

-- a modified rule
module _ (c r : Rec) (lc : length c ≡ 24) (lr : length r ≡ 24) where
  front_8 : length (take 8 r) ≡ 8
  front_8 = length-take-le 8 r (omega arith)

  middle_13 : length (take 13 (drop 8 c)) ≡ 13
  middle_13 = length-take-le 13 (drop 8 c) (simp length-drop (omega arith))

  same_front : take 8 (with_actions c r) ≡ take 8 r
  unfolding with_actions
  same_front = take_at (take 8 r) (take 13 (drop 8 c) ++ drop 21 r) 8 front_8

  from_8 : drop 8 (with_actions c r) ≡ take 13 (drop 8 c) ++ drop 21 r
  unfolding with_actions
  from_8 = drop_at (take 8 r) (take 13 (drop 8 c) ++ drop 21 r) 8 front_8

  from_21 : drop 21 (with_actions c r) ≡ drop 21 r
  from_21 = sym (drop-drop 13 8 (with_actions c r)) ∙ ap (drop 13) from_8 ∙ drop_at (take 13 (drop 8 c)) (drop 21 r) 13 middle_13

  pub with_actions-bytes : length (with_actions c r) ≡ 24
  unfolding with_actions
  with_actions-bytes =
      length-append (take 8 r) (take 13 (drop 8 c) ++ drop 21 r)
      ∙ omega (arith, front_8, middle_13, length-append (take 13 (drop 8 c)) (drop 21 r), length-drop 21 r)

  pub with_actions-kind : kind (with_actions c r) ≡ kind r
  with_actions-kind = sym (get_or-take 8 (with_actions c r) 0 0 (lit< tt)) ∙ ap (λ (l : List ℕ). get_or l 0 0) same_front ∙ get_or-take 8 r 0 0 (lit< tt)

  pub with_actions_match : match_of (with_actions c r) ≡ match_of r
  with_actions_match = match_of_lem (with_actions c r) ∙ ap (drop 1) same_front ∙ sym (match_of_lem r)

  zeros_same : zeros 21 23 (with_actions c r) ≡ zeros 21 23 r
  unfolding zeros
  zeros_same =
      ap (all (eqb 0)) (ap (drop 21) (take_all 24 (with_actions c r) (omega (arith, with_actions-bytes))) ∙ from_21 ∙ ap (drop 21) (sym (take_all 24 r (omega (arith, lr)))))

  pub with_actions_good : (w : Widths) → AddOrModify c → kind r ≡ 4 → command_good w c ≡ true → fields_good w r ≡ true → fields_good w (with_actions c r) ≡ true
  with_actions_good w q k good e =
      let t = both (match_good w r && actions_good w r) (zeros 21 23 r) (sym (rule_fields w r k) ∙ e) in
      all_good w (with_actions c r) (with_actions-kind ∙ k)
      (match_front w (with_actions c r) r same_front ∙ (both (match_good w r) (actions_good w r) t.0).0)
      (actions_middle w (with_actions c r) c (ap (take 13) from_8 ∙ take_at (take 13 (drop 8 c)) (drop 21 r) 13 middle_13) ∙ (change_good w c q good).1)
      (zeros_same ∙ t.1)

  -- it names the command's groups
  pub with_actions_there : (net : Net) → kind r ≡ 4 → match_of c ≡ match_of r → actions_there net c ≡ true → groups_there net (with_actions c r) ≡ true
  with_actions_there net k m e =
      rule_there net (with_actions c r) (with_actions-kind ∙ k)
      ∙ there_by net (with_actions c r) c (first_byte (with_actions c r) ∙ ap (λ (l : List ℕ). get_or l 0 0) (with_actions_match ∙ sym m) ∙ sym (first_byte c)) (ap (take 13) from_8 ∙ take_at (take 13 (drop 8 c)) (drop 21 r) 13 middle_13)
      ∙ e
    where
      first_byte : (q : Rec) → at q 1 ≡ get_or (match_of q) 0 0
      first_byte q = sym (get_or-take 7 (drop 1 q) 0 0 (lit< tt) ∙ get_or-drop 1 q 0 0)
