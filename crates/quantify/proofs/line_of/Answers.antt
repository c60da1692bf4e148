-- `quantify::line_of` meets its contract.
use Rattle.quantify.proofs.Gathered.{line_is}
use Rattle.quantify.proofs.line_of.Goals as goal

pub returns : goal.returns
returns c = line_is _ _ _ c.requires.x_bound c.args.j _ c.requires.paired (rw c.rows_of.ensures at c.join_of.ensures)
