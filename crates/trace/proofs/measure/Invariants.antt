-- The distances up to k are known.
use Rattle.trace.proofs.Measuring.{Measuring}
use Rattle.trace.proofs.measure.Given as goal

abbrev pub invariant-loop-k : goal.invariant-loop-k
invariant-loop-k l = Measuring l.steps.work.now l.steps.pitch l.end l.k l.distances
