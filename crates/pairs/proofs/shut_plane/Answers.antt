-- `pairs::shut_plane` meets its contract.
use Rattle.forms.specs.Laws.Forms.{steps_closed}
use Rattle.pairs.proofs.shut_plane.Goals as goal

pub returns-then-at-eq0 : goal.returns-then-at-eq0
returns-then-at-eq0 c = rw c.size.ensures (steps_closed _ _ _ _ (c.requires.reached c.if-closed.true) c.if-at-eq0.true)
