-- `shapes::apply` meets its contract.
use Rattle.forms.specs.Laws.Forms.{turned_mixed}
use Rattle.shapes.proofs.apply.Goals as goal

pub straighten-laid-requires-clause-mixed : goal.straighten-laid-requires-clause-mixed
straighten-laid-requires-clause-mixed c = turned_mixed _ _ _ c.in-FirstTurned.is c.beside.ensures
