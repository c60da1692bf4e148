-- The states of line x before the next one are exchanged; what is gone over are the states that the line had.
use mathlib.Core.Path.{◌≡◌}
use mathlib.Core.List.{List}
use Prim.Native.Nat.{ℕ, ◌*◌, ◌<◌}
use lib.ListN.{length}
use Rattle.planes.specs.Plane.{bit, cell}
use Rattle.exchange.specs.Swapped.{Swapped}
use Rattle.exchange.proofs.Planes.swap_line.Given as goal

abbrev pub invariant-loop-y : goal.invariant-loop-y
invariant-loop-y l = (length l.work ≡ length l.initial.work)
    × (length l.y-iterator.line.now ≡ l.self.pitch)
    × ((u : ℕ) → u < l.self.pitch * 8 → bit l.y-iterator.line.now u ≡ cell l.initial.work l.self.from l.self.pitch l.x u)
    × ((before : List ℕ) → Swapped l.self.from l.self.to l.self.pitch l.x 0 before l.initial.work → Swapped l.self.from l.self.to l.self.pitch l.x l.y-iterator.next before l.work)
