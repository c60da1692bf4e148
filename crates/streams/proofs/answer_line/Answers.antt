use native.Mathlib.Omega.{arith}
use Rattle.streams.specs.Text.{bytes}
use Rattle.streams.specs.Line.{answer_line}
use Rattle.streams.specs.Laws.Decimal.{at_most_20}
use Rattle.streams.proofs.answer_line.Goals as goal

pub with_one-requires : goal.with_one-requires
with_one-requires c = rw (c.number-line.ensures, c.new.ensures) (omega (arith, at_most_20 c.args.turn (omega arith)))

pub with_two-requires : goal.with_two-requires
with_two-requires c = rw (c.number-line.ensures, c.new.ensures) (omega (arith, at_most_20 c.args.turn (omega arith)))

pub with_two-requires-in-Err : goal.with_two-requires-in-Err
with_two-requires-in-Err c = rw (c.number-line.ensures, c.new.ensures) (omega (arith, at_most_20 c.args.turn (omega arith)))

pub returns-in-Ok-Forwarded : goal.returns-in-Ok-Forwarded
unfolding answer_line bytes
returns-in-Ok-Forwarded c = rw (c.in-Ok-Forwarded.is, rw c.in-Ok-Forwarded.is at c.in-Ok-Forwarded.field-0-is, c.with_one.ensures, c.number-line.ensures, c.new.ensures)

pub returns-in-Ok-Blocked : goal.returns-in-Ok-Blocked
unfolding answer_line bytes
returns-in-Ok-Blocked c = rw (c.in-Ok-Blocked.is, rw c.in-Ok-Blocked.is at c.in-Ok-Blocked.field-0-is, c.with_two.ensures, c.number-line.ensures, c.new.ensures)

pub returns-in-Err : goal.returns-in-Err
unfolding answer_line bytes
returns-in-Err c = rw (c.in-Err.is, c.with_two-in-Err.ensures, c.number-line.ensures, c.new.ensures, c.number.ensures)
