use borrow.Author.Tests.{lt-ltb, le-ltb, eq-eqb, ne_eqb}
use Rattle.streams.specs.Reading.{later_of}
use Rattle.streams.proofs.input.later_in.Goals as goal

pub returns-then-piece-eq0 : goal.returns-then-piece-eq0
unfolding later_of
returns-then-piece-eq0 c = rw (eq-eqb _ _ c.if-piece-eq0.true)

pub returns-then-piece-lt24 : goal.returns-then-piece-lt24
unfolding later_of
returns-then-piece-lt24 c = rw (ne_eqb _ _ c.if-piece-eq0.false, lt-ltb _ _ c.if-piece-lt24.true)

pub returns : goal.returns
unfolding later_of
returns c = rw (ne_eqb _ _ c.if-piece-eq0.false, le-ltb _ _ c.if-piece-lt24.false)
