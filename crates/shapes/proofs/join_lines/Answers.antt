-- `shapes::join_lines` meets its contract.
use Rattle.forms.specs.Laws.LinesLaid.{spans_lined}
use Rattle.shapes.proofs.join_lines.Goals as goal

pub returns : goal.returns
returns c = spans_lined c.args.s.op c.args.s.first c.args.s.second _ _ _ _ c.join_span.ensures
