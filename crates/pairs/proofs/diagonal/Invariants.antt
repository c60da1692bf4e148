-- `pairs::diagonal`: the first z bits are read, the others are not set.
use Rattle.planes.specs.Plane.{cell}
use Rattle.lines.specs.Laws.LineBits.{Upto}
use Rattle.pairs.proofs.diagonal.Given as goal

abbrev pub invariant-loop-z : goal.invariant-loop-z
invariant-loop-z l = Upto (λ i. cell l.work l.a l.pitch i i) l.z l.r
