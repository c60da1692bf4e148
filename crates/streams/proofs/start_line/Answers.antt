use Rattle.streams.specs.Text.{bytes}
use Rattle.streams.specs.Line.{start_line}
use Rattle.streams.proofs.start_line.Goals as goal

pub returns-in-Ok-None : goal.returns-in-Ok-None
unfolding start_line bytes
returns-in-Ok-None c = rw (c.in-Ok-None.is, rw c.in-Ok-None.is at c.in-Ok-None.field-0-is, c.text.ensures, c.new-line.ensures)

pub returns-in-Ok-Some : goal.returns-in-Ok-Some
unfolding start_line bytes
returns-in-Ok-Some c = rw (c.in-Ok-Some.is, rw c.in-Ok-Some.is at c.in-Ok-Some.field-0-is, c.with_two.ensures, c.new-line.ensures)

pub returns-in-Err : goal.returns-in-Err
unfolding start_line bytes
returns-in-Err c = rw (c.in-Err.is, c.with_two-in-Err.ensures, c.new-line.ensures, c.number.ensures)
