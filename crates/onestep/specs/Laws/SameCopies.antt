-- What a record sends is said by its body, bytes 1 to 20.
use Rattle.std.specs.Prelude.{◌≡◌}
use Rattle.std.proofs.Math.Path.{refl, sym, ap, ap₂}
use Rattle.std.proofs.Common.{◌∙◌}
use mathlib.Core.List.{List, ◌++◌}
use Prim.Native.Nat.{ℕ, zero, suc, ◌+◌, ◌*◌, ◌<◌, ◌≤◌}
use native.Mathlib.Omega.{arith}
use Rattle.format.specs.Record.{Rec, Net, at}
use Rattle.widths.specs.declared.Widths.{Widths}
use Rattle.onestep.specs.Chosen.{Arrival}
use Rattle.onestep.specs.Laws.Bodies.{SameTo}
use Rattle.onestep.specs.Actions.{sent_by, header_after, copies, sent}
use Rattle.onestep.specs.Laws.CopiesInOrder.{copies-cons}

module _ (w : Widths) (r q : Rec) (same : SameTo 20 r q) where
  module _ (h i : ℕ) (few : i < 4) where
    sent_by_same : (net : Net) (sw p : ℕ) → sent_by net w sw p r h i ≡ sent_by net w sw p q h i
    unfolding sent_by
    sent_by_same net sw p = rw (same (9 + 3 * i) (omega arith) (omega arith), same (10 + 3 * i) (omega arith) (omega arith), same (11 + 3 * i) (omega arith) (omega arith))

    header_after_same : header_after w r h i ≡ header_after w q h i
    unfolding header_after
    header_after_same = rw (same (9 + 3 * i) (omega arith) (omega arith), same (10 + 3 * i) (omega arith) (omega arith), same (11 + 3 * i) (omega arith) (omega arith))

  copies_same : (net : Net) (a : Arrival) (h i k : ℕ) → i + k ≤ 4 → copies net w a r h i k ≡ copies net w a q h i k
  unfolding copies
  copies_same net a h i zero l = refl
  copies_same net a h i (suc k) l =
      let few : i < 4 = omega arith in
      copies-cons net w a r h i k
      ∙ ap₂ {C = List ℕ} ◌++◌ (sent_by_same h i few net a.switch a.port)
      (ap (λ (m : ℕ). copies net w a r m (suc i) k) (header_after_same h i few) ∙ copies_same net a (header_after w q h i) (suc i) k (omega arith))
      ∙ sym (copies-cons net w a q h i k)

  pub sent_same : (net : Net) (a : Arrival) → at q 8 ≤ 4 → sent net w a r ≡ sent net w a q
  unfolding sent
  sent_same net a l =
      ap (copies net w a r a.header 0) (same 8 (omega arith) (omega arith)) ∙ copies_same net a a.header 0 (at q 8) (omega arith)
