-- The states passed are noted where they are idle.
use Rattle.sinks.specs.Turns.{Idle}
use Rattle.sinks.proofs.idle_states.Given as goal

abbrev pub invariant-loop-x : goal.invariant-loop-x
invariant-loop-x l = Idle l.plane.to l.plane.pitch l.idle l.plane.work.now
