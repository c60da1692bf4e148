-- One action after the other.
use Rattle.std.proofs.Common.{eq-eqb, ne_eqb, ◌∙◌, arith}
use Rattle.std.specs.Prelude.{◌≡◌, refl, Bool, cond, ◌&&◌, ℕ, suc, ◌+◌, ◌-◌, ◌*◌, ◌^◌, ◌<◌, ◌≤◌, eqb}
use Rattle.std.proofs.Math.Path.{ap}
use Rattle.std.proofs.Math.Bool.{true, false}
use mathlib.Core.List.{List, [], ◌∷◌, ◌++◌}
use Rattle.basics.specs.Lists.{keep, from}
use Rattle.format.specs.Record.{Rec, Net, at, action_kind}
use Rattle.format.specs.declared.kinds.ActionKind.{ActionKind}
use Rattle.format.specs.declared.kinds.ActionKind.TheVariants.{Output as k_output, Set as k_set, InPort as k_in_port, RunGroup as k_run_group, Unknown as k_no_action}
use Rattle.format.specs.State.{ordinary}
use Rattle.format.specs.Pattern.{matches}
use Rattle.format.specs.Laws.Patterns.{put_lt}
use Rattle.widths.specs.declared.Widths.{Widths}
use Rattle.onestep.specs.Chosen.{Arrival}
use Rattle.onestep.specs.Departing.{except}
use Rattle.onestep.specs.Actions.{named, reached, sent_as, header_by, sent_by, header_after, copies}
use Rattle.onestep.specs.Flooding.{flooded}

-- the ports of a pattern without stars, and with
module _ (w : Widths) (value care : ℕ) where
  choice : (t : Bool) → eqb care (2 ^ w.p - 1) ≡ t → named w value care ≡ cond t (value ∷ []) (keep (λ q. ordinary w q && matches w.p value care q) (from 0 (2 ^ w.p)))
  unfolding named
  choice true e =
      ap (λ (t : Bool). elim t as (λ x. List ℕ) [ true ↦ value ∷ [] | false ↦ keep (λ q. ordinary w q && matches w.p value care q) (from 0 (2 ^ w.p)) ]) e
  choice false e =
      ap (λ (t : Bool). elim t as (λ x. List ℕ) [ true ↦ value ∷ [] | false ↦ keep (λ q. ordinary w q && matches w.p value care q) (from 0 (2 ^ w.p)) ]) e

  pub named_one : care ≡ 2 ^ w.p - 1 → named w value care ≡ value ∷ []
  named_one e = choice true (eq-eqb care (2 ^ w.p - 1) e)

  pub named_starred : (care ≡ 2 ^ w.p - 1 → ⊥) → named w value care ≡ keep (λ q. ordinary w q && matches w.p value care q) (from 0 (2 ^ w.p))
  named_starred n = choice false (ne_eqb care (2 ^ w.p - 1) n)

  -- those that OUTPUT reaches
  pub reached_one : (p : ℕ) → care ≡ 2 ^ w.p - 1 → reached w p value care ≡ except p (value ∷ [])
  unfolding reached
  reached_one p e = ap (except p) (named_one e)

  pub reached_flooded : (p : ℕ) → (care ≡ 2 ^ w.p - 1 → ⊥) → reached w p value care ≡ flooded w p value care (from 0 (2 ^ w.p))
  unfolding reached flooded
  reached_flooded p n = ap (except p) (named_starred n)

-- what action i of a record does, by its kind
module _ (w : Widths) (r : Rec) (h i : ℕ) where
  pub sent_as_lem : (net : Net) (sw p : ℕ) (k : ActionKind) → action_kind (at r (9 + 3 * i)) ≡ k → sent_by net w sw p r h i ≡ sent_as k net w sw p h (at r (10 + 3 * i)) (at r (11 + 3 * i))
  unfolding sent_by
  sent_as_lem net sw p k e = ap (λ (x : ActionKind). sent_as x net w sw p h (at r (10 + 3 * i)) (at r (11 + 3 * i))) e

  pub header_as : (k : ActionKind) → action_kind (at r (9 + 3 * i)) ≡ k → header_after w r h i ≡ header_by k w (at r (10 + 3 * i)) (at r (11 + 3 * i)) h
  unfolding header_after
  header_as k e = ap (λ (x : ActionKind). header_by x w (at r (10 + 3 * i)) (at r (11 + 3 * i)) h) e

  pub header_after-lt : h < 2 ^ w.h → header_after w r h i < 2 ^ w.h
  unfolding header_after
  header_after-lt l = go (action_kind (at r (9 + 3 * i)))
    where
      go : (k : ActionKind) → header_by k w (at r (10 + 3 * i)) (at r (11 + 3 * i)) h < 2 ^ w.h
      go k_output = l
      go k_set = put_lt (at r (10 + 3 * i)) (at r (11 + 3 * i)) h w.h
      go k_in_port = l
      go k_run_group = l
      go k_no_action = l

-- what the actions from i on send
pub copies-cons : (net : Net) (w : Widths) (a : Arrival) (r : Rec) (h i k : ℕ)
    → copies net w a r h i (suc k) ≡ sent_by net w a.switch a.port r h i ++ copies net w a r (header_after w r h i) (suc i) k
unfolding copies
copies-cons net w a r h i k = refl

-- with k of n actions left
pub copies_left : (net : Net) (w : Widths) (a : Arrival) (r : Rec) (h n k : ℕ) → 0 < k → k ≤ n
    → copies net w a r h (n - k) k ≡ sent_by net w a.switch a.port r h (n - k) ++ copies net w a r (header_after w r h (n - k)) (n - (k - 1)) (k - 1)
copies_left net w a r h n k l u =
    let e : k ≡ suc (k - 1) = omega arith in
    let f : suc (n - k) ≡ n - (k - 1) = omega arith in
    ap (copies net w a r h (n - k)) e
    ∙ copies-cons net w a r h (n - k) (k - 1)
    ∙ ap (λ (m : ℕ). sent_by net w a.switch a.port r h (n - k) ++ copies net w a r (header_after w r h (n - k)) m (k - 1)) f
