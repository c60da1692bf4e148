use Rattle.sinks.specs.Laws.Turning.{idle_none, idle_more, noted_one, blank_here}
use Rattle.sinks.proofs.idle_states.Goals as goal
use Rattle.sinks.proofs.idle_states.Goals.{then-is_blank, else-is_blank}

pub loop-x-init : goal.loop-x-init
loop-x-init c = idle_none _ _ 128 _

pub loop-x-preserved : goal.loop-x-preserved
loop-x-preserved c =
    elim c.if-is_blank.branch [
      | then-is_blank w ↦ rw w.idle-is (idle_more _ _ _ _ _ _ c.loop-x.invariant
          (noted_one _ _ _ _ _ _ (blank_here _ _ _ _ c.line.ensures.part c.line.ensures.width (c.is_blank.ensures w.if-is_blank.true)) w.set_bit.ensures))
      | else-is_blank w ↦ rw w.idle-is c.loop-x.invariant
    ]
