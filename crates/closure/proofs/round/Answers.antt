use mathlib.Core.Path.{sym, ◌∙◌}
use Rattle.closure.proofs.LinesOfRound.{turn_off, turn_on}
use Rattle.closure.proofs.round.Goals as goal
use Rattle.closure.proofs.round.Goals.{then-get_at, else-get_at}

pub loop-x-preserved : goal.loop-x-preserved
loop-x-preserved c =
    let read = c.get_at.ensures in
    elim c.if-get_at.branch [
      | then-get_at w ↦ rw w.work-is (turn_on _ _ _ _ _ _ c.requires.pitch_bound.2 c.loop-x.invariant _ _ c.load_line-line.ensures (sym read ∙ w.if-get_at.true) w.or_line.ensures)
      | else-get_at w ↦ rw w.work-is (turn_off _ _ _ _ _ _ c.requires.pitch_bound.2 c.loop-x.invariant (sym read ∙ w.if-get_at.false))
    ]
