-- A network that rows 3 to 10 and 16 pass, and a command that rows 12, 16 and 13 pass: what the command would leave passes again.
use Rattle.std.specs.Prelude.{◌≡◌, Bool, [], ◌∷◌, ◌++◌, ◌-◌, ◌<◌, length}
use Rattle.std.proofs.Math.Path.{refl}
use Rattle.std.proofs.Common.{sym, ap, subst, subst₂, ◌∙◌, arith, length-append}
use Rattle.std.proofs.Math.Bool.{true, false}
use Rattle.std.proofs.Math.Option.{none}
use Rattle.basics.specs.Laws.Tests.{or_none}
use Rattle.format.specs.Record.{Rec, Net, most_rules, kind, of_kind, present, widths_of}
use Rattle.format.specs.declared.kinds.CommandKind.{CommandKind}
use Rattle.format.specs.declared.kinds.CommandKind.TheVariants.{Add as k_add, Modify as k_modify, Delete as k_delete, Unknown as k_no_command}
use Rattle.format.specs.Group.{groups_there}
use Rattle.format.specs.Version.{version_of, acting, is_add}
use Rattle.format.specs.Fields.{fields_good}
use Rattle.refusals.specs.Refusal.{file_row}
use Rattle.widths.specs.declared.Widths.{Widths}
use Rattle.format.specs.Laws.Records.{Whole, whole_parts}
use Rattle.format.specs.Laws.Kinds.{kinds-append, widths-append, present-append}
use Rattle.refusals.specs.Laws.Passing.{not_empty}
use Rattle.refusals.specs.Laws.Edits.{match_of, present_match, PassesStill, stands, rule_replaced, rule_removed, some_front, rule_inserted}
use Rattle.effect.specs.Apply.{as_rule, with_actions, changed, inserted, removed, added, applied_as, applied, would_leave}
use Rattle.effect.specs.Laws.RulePlace.{RuleIn, rule_in, changed_none, removed_none, Place, place}
use Rattle.effect.specs.Laws.StoredRule.{Command, AddOrModify, is_delete, add_or_modify, same_rule_lem, as_rule-kind, as_rule_match, as_rule-bytes, as_rule_good, as_rule_there, with_actions-bytes, with_actions-kind, with_actions_match, with_actions_good, with_actions_there}

module _ (net : Net) (c : Rec) (whole : Whole net) (e : file_row [] net ≡ none) (cmd : Command net c) where
  -- nothing changed
  unchanged : (after : Net) → after ≡ net → PassesStill net after
  unchanged after q =
      subst (PassesStill net) (sym q)
      (record { passes = e; alike = record { some = not_empty net e; some' = not_empty net e; first = refl; same = λ k h. refl }; whole = whole })

  -- the same rule changed, or removed
  module _ (f : RuleIn c net) where
    rule_kind : kind f.rule ≡ 4
    rule_kind = (same_rule_lem c f.rule f.same).0

    whole_there : Whole (f.front ++ (f.rule ∷ f.back))
    whole_there = subst Whole f.parts whole

    passes_there : file_row [] (f.front ++ (f.rule ∷ f.back)) ≡ none
    passes_there = subst (λ (n : Net). file_row [] n ≡ none) f.parts e

    widths_there : widths_of net ≡ widths_of f.front
    widths_there =
        ap widths_of f.parts ∙ widths-append f.front (f.rule ∷ f.back) (stands f.front f.rule f.back rule_kind whole_there passes_there).some

    changed_kept : (g : Rec → Rec) → kind (g f.rule) ≡ 4 → length (g f.rule) ≡ 24 → match_of (g f.rule) ≡ match_of f.rule
        → fields_good (widths_of net) (g f.rule) ≡ true → groups_there net (g f.rule) ≡ true → PassesStill net (changed g c net)
    changed_kept g k l m good there =
        subst₂ PassesStill (sym f.parts) (sym (f.changed_is g))
        (rule_replaced f.front f.rule f.back rule_kind whole_there passes_there (g f.rule) k l m
        (subst (λ (w : Widths). fields_good w (g f.rule) ≡ true) widths_there good)
        (subst (λ (n : Net). groups_there n (g f.rule) ≡ true) f.parts there))

    replaced_kept : AddOrModify c → PassesStill net (changed (λ r. as_rule c) c net)
    replaced_kept q =
        changed_kept (λ r. as_rule c) (as_rule-kind c) (as_rule-bytes c cmd.bytes) (as_rule_match c ∙ (same_rule_lem c f.rule f.same).1)
        (as_rule_good (widths_of net) c cmd.bytes q cmd.good) (as_rule_there net c cmd.there)

    modified_kept : AddOrModify c → PassesStill net (changed (with_actions c) c net)
    modified_kept q =
        let l = (whole_parts f.front (f.rule ∷ f.back) whole_there).1.0 in
        let b = cmd.bytes in
        let good = (stands f.front f.rule f.back rule_kind whole_there passes_there).good in
        changed_kept (with_actions c) (with_actions-kind c f.rule b l ∙ rule_kind) (with_actions-bytes c f.rule b l) (with_actions_match c f.rule b l)
        (with_actions_good c f.rule b l (widths_of net) q rule_kind cmd.good (subst (λ (w : Widths). fields_good w f.rule ≡ true) (sym widths_there) good))
        (with_actions_there c f.rule b l net rule_kind (same_rule_lem c f.rule f.same).1 cmd.there)

    removed_kept : PassesStill net (removed c net)
    removed_kept = subst₂ PassesStill (sym f.parts) (sym f.removed_is) (rule_removed f.front f.rule f.back rule_kind whole_there passes_there)

  -- a new rule inserted
  inserted_kept : AddOrModify c → length (of_kind 4 net) < most_rules → present c net ≡ false → Place c net → PassesStill net (inserted c net)
  inserted_kept q room absent p =
      let w : Whole (p.front ++ p.back) = subst Whole p.parts whole in
      let passes : file_row [] (p.front ++ p.back) ≡ none = subst (λ (n : Net). file_row [] n ≡ none) p.parts e in
      let last = p.low (length p.front - 1) in
      let some = some_front p.front p.back p.no_node last p.high w passes in
      let widths : widths_of net ≡ widths_of p.front = ap widths_of p.parts ∙ widths-append p.front p.back some in
      let none-there = (or_none (present c p.front) (present c p.back) (sym (present-append c p.front p.back) ∙ ap (present c) (sym p.parts) ∙ absent)).0 in
      let count = ap (λ (n : Net). length (of_kind 4 n)) p.parts ∙ ap length (kinds-append 4 p.front p.back) ∙ length-append (of_kind 4 p.front) (of_kind 4 p.back) in
      subst₂ PassesStill (sym p.parts) (sym p.inserted_is)
      (rule_inserted p.front p.back p.no_node last p.high w passes (as_rule c) (as_rule-kind c) (as_rule-bytes c cmd.bytes)
      (subst (λ (v : Widths). fields_good v (as_rule c) ≡ true) widths (as_rule_good (widths_of net) c cmd.bytes q cmd.good))
      (present_match (as_rule c) c p.front (as_rule_match c) ∙ none-there) (omega (arith, count, room))
      (subst (λ (n : Net). groups_there n (as_rule c) ≡ true) p.parts (as_rule_there net c cmd.there)))

  added_kept : AddOrModify c → (present c net ≡ false → length (of_kind 4 net) < most_rules) → PassesStill net (added c net)
  unfolding added
  added_kept q room = go (present c net) refl
    where
      go : (b : Bool) → present c net ≡ b → PassesStill net (elim b [ true ↦ changed (λ r. as_rule c) c net | false ↦ inserted c net ])
      go true t = replaced_kept (rule_in c net t) q
      go false t = inserted_kept q (room t) t (place c net)

  modify_kept : AddOrModify c → PassesStill net (changed (with_actions c) c net)
  modify_kept q = go (present c net) refl
    where
      go : (b : Bool) → present c net ≡ b → PassesStill net (changed (with_actions c) c net)
      go true t = modified_kept (rule_in c net t) q
      go false t = unchanged (changed (with_actions c) c net) (changed_none (with_actions c) c net t)

  delete_kept : PassesStill net (removed c net)
  delete_kept = go (present c net) refl
    where
      go : (b : Bool) → present c net ≡ b → PassesStill net (removed c net)
      go true t = removed_kept (rule_in c net t)
      go false t = unchanged (removed c net) (removed_none c net t)

  -- by what it acts as
  kept_as : (k : CommandKind) → acting (version_of net) c net ≡ k → PassesStill net (applied_as k c net)
  kept_as k_add q = added_kept (add_or_modify (version_of net) c net (ap is_delete q) cmd.least cmd.most) (cmd.room (ap is_add q))
  kept_as k_modify q = modify_kept (add_or_modify (version_of net) c net (ap is_delete q) cmd.least cmd.most)
  kept_as k_delete q = delete_kept
  kept_as k_no_command q = unchanged net refl

  pub applied_kept : PassesStill net (would_leave c net)
  unfolding applied
  applied_kept = kept_as (acting (version_of net) c net) refl
