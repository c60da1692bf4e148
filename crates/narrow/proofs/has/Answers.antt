-- `narrow::has` meets its contract.
use mathlib.Core.Path.{refl}
use Rattle.basics.specs.Bit.{bit_of}
use Rattle.narrow.proofs.has.Goals as goal

pub returns : goal.returns
unfolding bit_of
returns c = refl
