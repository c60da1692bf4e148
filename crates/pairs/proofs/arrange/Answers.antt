-- `pairs::arrange` meets its contract.
use Rattle.forms.specs.Laws.Forms.{stands_arranged, arranged_straight, arranged_turned}
use Rattle.pairs.proofs.arrange.Goals as goal

pub returns-in-X-X : goal.returns-in-X-X
returns-in-X-X c = rw (c.in-X-X.is-0, c.in-X-X.is-1) (stands_arranged _ _ _ _ _ _ _ _ c.same.ensures)

pub returns-in-X-Y : goal.returns-in-X-Y
returns-in-X-Y c = rw (c.in-X-Y.is-0, c.in-X-Y.is-1) (arranged_straight _ _ _ _ c.requires.lies)

pub returns-in-Y-X : goal.returns-in-Y-X
returns-in-Y-X c = rw (c.in-Y-X.is-0, c.in-Y-X.is-1, c.turned.ensures) (arranged_turned _ _ _ _ c.requires.lies)

pub returns-in-Y-Y : goal.returns-in-Y-Y
returns-in-Y-Y c = rw (c.in-Y-Y.is-0, c.in-Y-Y.is-1) (stands_arranged _ _ _ _ _ _ _ _ c.same-in-Y-Y.ensures)
