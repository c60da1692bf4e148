-- `lines::lay_from` meets its contract. The loop's invariant is the contract at the j bytes passed.
use Prim.Native.Nat.{ℕ, ◌+◌}
use mathlib.Core.Path.{◌≡◌}
use lib.ListN.{get_or}
use Rattle.planes.specs.Lines.{Laid}
use Rattle.lines.proofs.lay_from.Given as goal

abbrev pub invariant-loop-j : goal.invariant-loop-j
invariant-loop-j g l = (h : ℕ → ℕ) → ((x v : ℕ) → goal.F-post g l.f x v → v ≡ h x) → Laid (λ i. h (get_or l.initial.work (l.a + i) 0)) l.to l.j l.initial.work l.work
