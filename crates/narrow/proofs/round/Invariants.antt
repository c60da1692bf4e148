-- `narrow::round` meets its contract. The loop's invariant is the contract at the x words passed.
use Rattle.narrow.specs.Words.{Spread}
use Rattle.narrow.proofs.round.Given as goal

abbrev pub invariant-loop-x : goal.invariant-loop-x
invariant-loop-x l = Spread l.k l.line l.x l.initial.words l.words
