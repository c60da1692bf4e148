-- `shapes::keep` meets its contract.
use Rattle.forms.specs.Laws.Forms.{lined_stands, put_lined}
use Rattle.shapes.proofs.keep.Goals as goal

pub returns : goal.returns
returns c = rw c.line.ensures (lined_stands c.args.v _ _ _ _ _ (put_lined _ _ _ _ _ c.put_line.ensures))
