-- `narrow::lay` meets its contract. The loop's invariant is the contract at the x lines passed.
use Rattle.planes.specs.Lines.{Made}
use Rattle.narrow.specs.Words.{test}
use Rattle.narrow.proofs.lay.Given as goal

abbrev pub invariant-loop-x : goal.invariant-loop-x
invariant-loop-x l = Made (test l.words) l.pitch l.to l.x l.initial.work l.work
