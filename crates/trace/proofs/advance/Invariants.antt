-- The contract at the x states passed.
use Rattle.trace.specs.Search.{Advanced}
use Rattle.trace.proofs.advance.Given as goal

abbrev pub invariant-loop-x : goal.invariant-loop-x
invariant-loop-x l = Advanced l.steps.work.now l.steps.pitch l.k l.x l.initial.distances l.some l.distances
