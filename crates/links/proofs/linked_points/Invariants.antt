use Rattle.links.proofs.MarkedPoints.{Marked}
use Rattle.links.proofs.linked_points.Given as goal

-- the ends of the links before place i are marked
abbrev pub invariant-loop-i : goal.invariant-loop-i
invariant-loop-i l = Marked l.net l.i l.points.bits
