-- `calls::moved` meets its contract.
use Rattle.calls.proofs.MovedLayout.{moved_layout}
use Rattle.calls.proofs.moved.Goals as goal

pub returns : goal.returns
returns c net after p q L g = moved_layout net after _ L g _ _ p q
