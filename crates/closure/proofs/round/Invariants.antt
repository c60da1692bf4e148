-- `closure::round` meets its contract. The loop's invariant is the contract at the x lines passed.
use Rattle.closure.specs.Round.{Round}
use Rattle.closure.proofs.round.Given as goal

abbrev pub invariant-loop-x : goal.invariant-loop-x
invariant-loop-x l = Round l.base l.pitch l.k l.x l.initial.work l.work
