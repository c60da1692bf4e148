-- The contract at the states passed.
use Prim.Native.Nat.{◌*◌, ◌≤◌}
use Rattle.planes.specs.Plane.{cell}
use Rattle.trace.specs.Search.{LineOf, Marked}
use Rattle.trace.proofs.mark.Given as goal

abbrev pub invariant-loop-y : goal.invariant-loop-y
invariant-loop-y l = LineOf (λ y. cell l.steps.work.now 0 l.steps.pitch y l.x) l.steps.pitch l.y-iterator.line.now
    × (l.y-iterator.next ≤ l.steps.pitch * 8)
    × Marked l.steps.work.now l.steps.pitch l.x l.k l.y-iterator.next l.initial.distances l.distances
