use Rattle.streams.specs.Text.{bytes}
use Rattle.streams.specs.Line.{end_short}
use Rattle.streams.proofs.short_line.Goals as goal

pub returns : goal.returns
unfolding end_short bytes
returns c = rw (c.text.ensures, c.new.ensures)
