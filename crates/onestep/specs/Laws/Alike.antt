-- What a record sends goes by the network's groups alone.
use Rattle.std.specs.Prelude.{◌≡◌, eqb}
use Rattle.std.proofs.Math.Path.{refl, ap, ap₂, fun_ext}
use Rattle.std.proofs.Math.Bool.{true, false}
use mathlib.Core.List.{List, [], ◌++◌}
use Prim.Native.Nat.{ℕ, zero, suc, ◌+◌, ◌*◌}
use Rattle.std.proofs.Math.ListN.{get_or}
use Rattle.format.specs.Record.{Rec, Net, at, action_kind, of_kind}
use Rattle.format.specs.declared.kinds.ActionKind.{ActionKind}
use Rattle.format.specs.declared.kinds.ActionKind.TheVariants.{Output as k_output, Set as k_set, InPort as k_in_port, RunGroup as k_run_group, Unknown as k_no_action}
use Rattle.format.specs.Group.{is_group}
use Rattle.format.specs.Search.{first_at}
use Rattle.widths.specs.declared.Widths.{Widths}
use Rattle.onestep.specs.Chosen.{Arrival}
use Rattle.onestep.specs.Groups.{group_record, record_sent, lower_sent, group_sent}
use Rattle.onestep.specs.Actions.{sent_as, sent_by, header_after, copies, sent}

module _ (x y : Net) (same : of_kind 9 x ≡ of_kind 9 y) (w : Widths) where
  module _ (sw p : ℕ) where
    record_alike : (g : ℕ) → group_record x sw g ≡ group_record y sw g
    unfolding group_record
    record_alike g = ap (λ (groups : Net). get_or groups (first_at (is_group sw g) groups) []) same

    lower_alike : (k : ℕ) → lower_sent x w sw p k ≡ lower_sent y w sw p k
    unfolding lower_sent
    lower_alike zero = fun_ext (λ g. fun_ext (λ h. refl))
    lower_alike (suc k) = let ih = lower_alike k in
        fun_ext (λ g. fun_ext (λ h. ap₂ {C = List ℕ} (λ (lower : ℕ → ℕ → List ℕ) (r : Rec). elim (eqb g k) as (λ b. List ℕ) [ true ↦ record_sent w sw p lower r h | false ↦ lower g h ]) ih (record_alike k)))

    group_alike : (g h : ℕ) → group_sent x w sw p g h ≡ group_sent y w sw p g h
    unfolding group_sent
    group_alike g h = ap₂ (λ (lower : ℕ → ℕ → List ℕ) (r : Rec). record_sent w sw p lower r h) (lower_alike g) (record_alike g)

    action_alike : (k : ActionKind) (h value care : ℕ) → sent_as k x w sw p h value care ≡ sent_as k y w sw p h value care
    action_alike k_output h value care = refl
    action_alike k_set h value care = refl
    action_alike k_in_port h value care = refl
    action_alike k_run_group h value care = group_alike value h
    action_alike k_no_action h value care = refl

  copies_alike : (a : Arrival) (r : Rec) (h i k : ℕ) → copies x w a r h i k ≡ copies y w a r h i k
  unfolding copies sent_by
  copies_alike a r h i zero = refl
  copies_alike a r h i (suc k) =
      ap₂ {C = List ℕ} ◌++◌ (action_alike a.switch a.port (action_kind (at r (9 + 3 * i))) h (at r (10 + 3 * i)) (at r (11 + 3 * i)))
      (copies_alike a r (header_after w r h i) (suc i) k)

  pub sent_alike : (a : Arrival) (r : Rec) → sent x w a r ≡ sent y w a r
  unfolding sent
  sent_alike a r = copies_alike a r a.header 0 (at r 8)
