-- `quantify::same_line` meets its contract.
use Rattle.lines.specs.Laws.Quantified.{quantifies}
use Rattle.quantify.proofs.Gathered.{same_lined}
use Rattle.quantify.proofs.same_line.Goals as goal

pub returns : goal.returns
returns c =
    same_lined _ (quantifies c.args.q) c.args.s.op c.args.s.first c.args.s.second _ _ _ _ _ _ _ c.join_lines.ensures c.line_over-t.ensures c.full.ensures c.fill.ensures
