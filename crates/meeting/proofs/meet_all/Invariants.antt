-- The lines that are met have the lines of their states.
use mathlib.Core.Path.{◌≡◌}
use Rattle.sinks.specs.Turns.{Met}
use Rattle.meeting.proofs.meet_all.Given as goal

abbrev pub invariant-loop-entry : goal.invariant-loop-entry
invariant-loop-entry l = Met l.to l.pitch l.initial.work l.progress.met l.work × (l.progress.idle.now ≡ l.fn.idle)
