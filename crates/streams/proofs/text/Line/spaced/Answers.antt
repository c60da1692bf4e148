use mathlib.Core.List.{append_assoc}
use Rattle.streams.specs.Text.{bytes}
use Rattle.streams.specs.Line.{spaced}
use Rattle.streams.proofs.text.Line.spaced.Goals as goal

pub returns : goal.returns
unfolding spaced bytes
returns c = rw (c.number.ensures, c.text.ensures) (simp append_assoc)
