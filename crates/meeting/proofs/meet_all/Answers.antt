use mathlib.Core.Path.{refl, ◌∙◌}
use mathlib.Core.Bool.{false≢true}
use Rattle.sinks.specs.Laws.Turning.{idle_kept, met_start, met_on, met_all}
use Rattle.meeting.proofs.meet_all.Goals as goal

pub loop-entry-init : goal.loop-entry-init
loop-entry-init c = (met_start _ _ _ _ c.requires.idle, refl)

pub meet-requires-clause-idle : goal.meet-requires-clause-idle
meet-requires-clause-idle c =
    let I = c.loop-entry.invariant in
    (rw I.1 (idle_kept _ _ _ _ _ c.requires.idle I.0.between), I.0.through)

pub loop-entry-preserved : goal.loop-entry-preserved
loop-entry-preserved c =
    let I = c.loop-entry.invariant in
    (met_on _ _ _ _ _ _ _ I.0 c.meet.ensures.0, c.meet.ensures.1 ∙ I.1)

pub returns-in_default : goal.returns-in_default
returns-in_default c = met_all _ _ _ _ _ _ (met_on _ _ _ _ _ _ _ c.loop-entry.invariant.0 c.meet.ensures.0) (λ t. absurd (false≢true t))

pub returns : goal.returns
returns c = met_all _ _ _ _ _ _ c.loop-entry.invariant.0 c.all_of.ensures
