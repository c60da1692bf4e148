-- `quantify::gather_x`: the contract at the x lines passed.
use mathlib.Core.Path.{◌≡◌}
use Prim.Native.Nat.{◌*◌}
use lib.ListN.{length}
use Rattle.lines.specs.Shapes.{over, op_of, Line}
use Rattle.forms.specs.Forms.{joined}
use Rattle.quantify.proofs.gather_x.Given as goal

abbrev pub invariant-loop-x : goal.invariant-loop-x
invariant-loop-x l = (128 ≡ length l.r) × Line (λ y. over (op_of l.fn.q) l.x (λ i. joined l.j l.work l.pitch i y)) (l.pitch * 8) l.r
