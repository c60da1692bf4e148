-- `quantify::range` meets its contract.
use Rattle.forms.specs.Laws.Forms.{turned_mixed}
use Rattle.quantify.proofs.Gathered.{exchanged_stands, straightened_stands}
use Rattle.quantify.proofs.range.Goals as goal

pub straighten-laid-requires-clause-mixed : goal.straighten-laid-requires-clause-mixed
straighten-laid-requires-clause-mixed c = turned_mixed _ _ _ c.in-FirstTurned.is c.beside.ensures

pub returns-in-Exchanged : goal.returns-in-Exchanged
returns-in-Exchanged c =
    rw c.turned-in-Exchanged-2.ensures
    (exchanged_stands _ c.args.r.over c.args.j _ _ _ _ _ (rw (c.turned.ensures.by, c.turned.ensures.over, c.turned-in-Exchanged.ensures) at c.range_lines-in-Exchanged.ensures))

pub returns-in-FirstTurned : goal.returns-in-FirstTurned
returns-in-FirstTurned c = straightened_stands _ c.args.r.over c.args.j _ _ _ _ _ _ _ c.straighten-laid.ensures c.range_lines-in-FirstTurned.ensures
