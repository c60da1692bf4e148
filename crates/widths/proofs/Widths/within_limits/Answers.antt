use borrow.Author.Rules.{rules}
use Rattle.widths.specs.Widths.{within_limits}
use Rattle.widths.proofs.Widths.within_limits.Goals as goal

pub returns-then-self-le-MAX_W : goal.returns-then-self-le-MAX_W
unfolding within_limits
returns-then-self-le-MAX_W c = search rules

pub returns-else-self-le-MAX_W : goal.returns-else-self-le-MAX_W
unfolding within_limits
returns-else-self-le-MAX_W c = search rules
