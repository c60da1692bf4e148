-- `exchange::turned` meets its contract.
use Rattle.exchange.proofs.Masks.{swaps_turn}
use Rattle.exchange.proofs.turned.Goals as goal

pub returns : goal.returns
returns c = swaps_turn c.mixed-ones.ensures c.mixed-twos.ensures c.mixed.ensures
