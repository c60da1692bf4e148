-- `closure::close` meets its contract. The loop's invariant is Warshall's.
use Rattle.closure.proofs.Warshall.{Through}
use Rattle.closure.proofs.close.Given as goal

abbrev pub invariant-loop-k : goal.invariant-loop-k
invariant-loop-k l = Through l.base l.pitch l.k l.initial.work l.work
