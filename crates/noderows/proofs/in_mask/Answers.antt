use borrow.Author.Rules.{rules}
use borrow.Author.Tests.{le-ltb}
use Rattle.std.proofs.Common.{sym, ◌∙◌}
use Rattle.basics.specs.Bit.{bit_of}
use Rattle.basics.specs.Laws.Bits.{bit_above}
use Rattle.noderows.proofs.in_mask.Goals as goal

pub returns-then-i-lt32 : goal.returns-then-i-lt32
unfolding bit_of
returns-then-i-lt32 c = search rules

pub returns-else-i-lt32 : goal.returns-else-i-lt32
returns-else-i-lt32 c = le-ltb _ 32 c.if-i-lt32.false ∙ sym (bit_above 32 c.args.mask c.args.i c.ranges.mask.fits c.if-i-lt32.false)
