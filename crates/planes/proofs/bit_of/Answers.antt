-- `planes::bit_of` meets its contract.
use Rattle.basics.specs.Bit.{bit_of}
use borrow.Author.Rules.{rules}
use Rattle.planes.proofs.bit_of.Goals as goal

pub returns : goal.returns
unfolding bit_of
returns c = search rules
