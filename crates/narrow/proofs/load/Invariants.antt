-- `narrow::load` meets its contract.
use Rattle.narrow.proofs.WordLines.{Read}
use Rattle.narrow.proofs.load.Given as goal

abbrev pub invariant-loop-x : goal.invariant-loop-x
invariant-loop-x l = Read l.work l.from l.pitch l.x l.words
