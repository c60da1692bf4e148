-- `shapes::bit_line` meets its contract.
use Rattle.lines.specs.Shapes.{bit_byte}
use Rattle.lines.specs.Laws.LineBits.{bit_tests}
use Rattle.forms.specs.Laws.Forms.{lined_stands, laid_lined}
use Rattle.shapes.proofs.bit_line.Goals as goal

pub returns : goal.returns
returns c =
    rw c.line.ensures
    (lined_stands c.args.v _ _ _ _ _ (laid_lined (bit_byte c.args.i) _ _ _ _ _ c.lay_bits.ensures (λ z h. bit_tests c.args.i z)))
