-- `planes::load_line` meets its contract.
use mathlib.Core.Path.{refl}
use Rattle.planes.specs.Laws.LaidBytes.{part_put, loaded}
use Rattle.planes.proofs.load_line.Goals as goal

pub returns : goal.returns
returns c =
    loaded _ _ 128 _ _ (part_put _ _ _ _ _ _ _ refl c.requires.0 c.put.ensures)
