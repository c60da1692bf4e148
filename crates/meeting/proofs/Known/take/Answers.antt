use mathlib.Core.Path.{sym, ◌∙◌}
use Rattle.meeting.proofs.Gathering.{taken_one, taken_met}
use Rattle.meeting.proofs.Known.take.Goals as goal

pub returns-then-get_bit : goal.returns-then-get_bit
returns-then-get_bit c =
    taken_met _ _ _ _ _ c.line-taken.ensures.part c.line-taken.ensures.width _ _ _ _ c.or_bytes.ensures _ _ (sym c.get_bit.ensures ∙ c.if-get_bit.true) c.set_bit.ensures c.or_bytes-then-get_bit.ensures

pub returns-else-get_bit : goal.returns-else-get_bit
returns-else-get_bit c =
    taken_one _ _ _ _ _ c.line-taken.ensures.part c.line-taken.ensures.width _ _ _ _ c.or_bytes.ensures _ c.set_bit.ensures
