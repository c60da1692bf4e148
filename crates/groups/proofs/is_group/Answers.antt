use borrow.Author.Tests.{eq-eqb, ne_eqb}
use Rattle.format.specs.Group.{is_group}
use Rattle.groups.proofs.is_group.Goals as goal

pub returns-then-r-sw : goal.returns-then-r-sw
unfolding is_group
returns-then-r-sw c = rw (eq-eqb _ _ c.if-r-sw.true)

pub returns-else-r-sw : goal.returns-else-r-sw
unfolding is_group
returns-else-r-sw c = rw (ne_eqb _ _ c.if-r-sw.false)
