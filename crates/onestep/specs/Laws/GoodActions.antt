-- What good fields of a record say.
use Rattle.std.proofs.Common.{lt-ltb, leb-true, ap, ◌∙◌, arith}
use Rattle.std.specs.Prelude.{◌≡◌, Bool, ℕ, suc, ◌+◌, ◌*◌, ◌^◌, ◌<◌, ◌≤◌, eqb, leb}
use Rattle.std.proofs.Math.Path.{sym}
use Rattle.std.proofs.Math.Bool.{true, false}
use Rattle.std.proofs.Math.Decide.{dec_lt}
use Rattle.std.proofs.lemmas.Nat.{and_le_r}
use Rattle.basics.specs.Laws.Tests.{not_both, and_left}
use Rattle.format.specs.Record.{Rec, at, action_kind}
use Rattle.format.specs.declared.kinds.ActionKind.{ActionKind}
use Rattle.format.specs.declared.kinds.ActionKind.TheVariants.{Output as k_output, RunGroup as k_run_group}
use Rattle.format.specs.Pattern.{pattern_good}
use Rattle.format.specs.Fields.{used_fields, used_good, unused_good, action_bytes_good, action_good, actions_good}
use Rattle.format.specs.Laws.Fields.{count_high, action_each}
use Rattle.format.specs.Laws.Patterns.{care-lt, value_within}
use Rattle.widths.specs.declared.Widths.{Widths}
use Rattle.onestep.specs.Flooding.{UsedAction}

-- a value lies within its width
pub pattern_value_lt : (k value care : ℕ) → pattern_good k value care ≡ true → value < 2 ^ k
pattern_value_lt k value care good = omega (arith, value_within k value care good, and_le_r value care, care-lt k value care good)

-- an action that is used, by its kind
module _ (w : Widths) (r : Rec) (i : ℕ) (U : UsedAction w r i) where
  abbrev kind_of : ℕ
  kind_of = at r (9 + 3 * i)

  abbrev value : ℕ
  value = at r (10 + 3 * i)

  abbrev care : ℕ
  care = at r (11 + 3 * i)

  used_good_lem : used_good w kind_of value care (eqb (suc i) (at r 8)) ≡ true
  unfolding action_good action_bytes_good
  used_good_lem =
      sym (ap (λ (t : Bool). elim t as (λ x. Bool) [ true ↦ used_good w kind_of value care (eqb (suc i) (at r 8)) | false ↦ unused_good kind_of value care ]) (lt-ltb i (at r 8) U.used))
      ∙ U.good

  used_as : (k : ActionKind) → action_kind (at r (9 + 3 * i)) ≡ k → used_fields k w value care (eqb (suc i) (at r 8)) ≡ true
  used_as k e = sym (ap (λ (x : ActionKind). used_fields x w value care (eqb (suc i) (at r 8))) e) ∙ used_good_lem

  pub output_pattern : action_kind (at r (9 + 3 * i)) ≡ k_output → pattern_good w.p (at r (10 + 3 * i)) (at r (11 + 3 * i)) ≡ true
  output_pattern e = used_as k_output e

  pub group_number : action_kind (at r (9 + 3 * i)) ≡ k_run_group → at r (10 + 3 * i) ≤ 15
  group_number e = leb-true value 15 (and_left (leb value 15) (eqb care 0) (used_as k_run_group e))

-- the used actions of a record with good actions
module _ (w : Widths) (r : Rec) (good : actions_good w r ≡ true) where
  pub few_actions : at r 8 ≤ 4
  few_actions = go (dec_lt 4 (at r 8))
    where
      go : Dec (4 < at r 8) → at r 8 ≤ 4
      go (yes h) = not_both good (count_high w r h)
      go (no h) = omega arith

  pub used_action : (i : ℕ) → i < at r 8 → UsedAction w r i
  used_action i h =
      let l : i < 4 = omega (arith, few_actions) in
      record { few = l; used = h; good = action_each w r good i l }
