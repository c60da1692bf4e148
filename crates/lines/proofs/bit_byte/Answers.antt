-- `lines::bit_byte` meets its contract.
use mathlib.Core.Path.{◌∙◌}
use Rattle.basics.specs.Bit.{bit_of}
use Rattle.lines.specs.Laws.LineBits.{high_byte}
use native.Mathlib.Omega.{arith}
use Rattle.lines.proofs.bit_byte.Goals as goal

pub returns-in-3-to-max : goal.returns-in-3-to-max
unfolding bit_of
returns-in-3-to-max c =
    c.full.ensures ∙ high_byte c.args.i c.args.j (omega arith)
