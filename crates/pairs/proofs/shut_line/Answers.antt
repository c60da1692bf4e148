-- `pairs::shut_line` meets its contract.
use Rattle.planes.specs.Laws.Lines.{loaded_bit}
use Rattle.truth.specs.Laws.Tables.{value-lt}
use Rattle.forms.specs.Laws.Forms.{stands_as, line_closed}
use Rattle.pairs.proofs.shut_line.Goals as goal

pub returns : goal.returns
returns c =
    line_closed c.args.v _ _ _ _ _ _ (stands_as _ _ _ _ _ _ _ (λ x y hx hy. loaded_bit _ _ _ _ c.load_line-e.ensures _ (value-lt c.args.v hx hy)) c.keep.ensures)
