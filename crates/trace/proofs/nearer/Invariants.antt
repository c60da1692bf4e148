-- No state passed is at the distance.
use Rattle.planes.specs.Plane.{cell}
use Rattle.trace.specs.Search.{LineOf, NoneNearer}
use Rattle.trace.proofs.nearer.Given as goal

abbrev pub invariant-loop-y : goal.invariant-loop-y
invariant-loop-y l = LineOf (λ y. cell l.steps.work.now 0 l.steps.pitch l.x y) l.steps.pitch l.y-iterator.line.now
    × NoneNearer l.steps.work.now l.steps.pitch l.distances l.x l.k l.y-iterator.next
