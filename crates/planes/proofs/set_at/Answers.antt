-- `planes::set_at` meets its contract.
use Rattle.planes.specs.Laws.Places.{byte_at, place_at}
use Rattle.planes.specs.Laws.StoredBit.{bit_set}
use Rattle.planes.proofs.set_at.Goals as goal

pub returns : goal.returns
returns c =
    rw c.weight.ensures (bit_set _ _ _ _ (byte_at _ _) (place_at _ _) c.requires)
