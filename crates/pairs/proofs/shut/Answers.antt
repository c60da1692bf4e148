-- `pairs::shut` meets its contract.
use Rattle.forms.specs.Laws.Forms.{turned_closed}
use Rattle.pairs.proofs.shut.Goals as goal

pub returns-in-Turned : goal.returns-in-Turned
returns-in-Turned c = rw (c.in-Turned.is, c.turned.ensures) (turned_closed _ _ _ _ _ _ c.shut_plane-in-Turned.ensures)
