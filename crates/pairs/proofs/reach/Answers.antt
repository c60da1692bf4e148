-- `pairs::reach` meets its contract.
use Rattle.forms.specs.Laws.Forms.{lies_placed, arranged_stands, closed_arranged}
use Rattle.pairs.proofs.reach.Goals as goal

pub arrange-requires-clause-lies : goal.arrange-requires-clause-lies
arrange-requires-clause-lies c = lies_placed _ _ _ c.shut-g.ensures.lies

pub returns : goal.returns
returns c =
    let C = c.shut-g.ensures in
    closed_arranged _ _ _ _ _ _ _ _ _ _ C (arranged_stands _ _ _ _ _ _ _ _ C.lies c.arrange.ensures)
