-- `narrow::rounds` meets its contract.
use Rattle.narrow.proofs.WordRounds.{After}
use Rattle.narrow.proofs.rounds.Given as goal

abbrev pub invariant-loop-k : goal.invariant-loop-k
invariant-loop-k l = After l.n l.k l.initial.words l.words
