use mathlib.Core.Path.{refl}
use Rattle.sinks.specs.Laws.Turning.{met_more, met_same}
use Rattle.meeting.proofs.meet.Goals as goal

pub returns-then-pitch-x : goal.returns-then-pitch-x
returns-then-pitch-x c = (met_same _ _ _ _ c.requires.idle.1, refl)

pub returns-in_err-left : goal.returns-in_err-left
returns-in_err-left c = (met_same _ _ _ _ c.requires.idle.1, refl)

pub returns : goal.returns
returns c =
    (met_more _ _ _ _ _ _ c.if-pitch-x.false c.requires.idle.1 c.set_bit.ensures _ _ _ c.load_line-line.ensures (rw c.in_ok-left.was at c.search_line.ensures) c.put_line.ensures, refl)
