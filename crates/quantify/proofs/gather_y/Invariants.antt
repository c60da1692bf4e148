-- `quantify::gather_y`: the first x bits are made, the others are not set.
use Prim.Native.Nat.{◌*◌}
use Rattle.lines.specs.Shapes.{over, op_of}
use Rattle.forms.specs.Forms.{joined}
use Rattle.lines.specs.Laws.LineBits.{Upto}
use Rattle.quantify.proofs.gather_y.Given as goal

abbrev pub invariant-loop-x : goal.invariant-loop-x
invariant-loop-x l = Upto (λ i. over (op_of l.q) (l.pitch * 8) (joined l.j l.work l.pitch i)) l.x l.r
