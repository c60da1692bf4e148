-- No state from k on is passed.
use Rattle.words.specs.Words.{Lacks}
use Rattle.words.proofs.States.by_bits.Given as goal

abbrev pub invariant-loop-i : goal.invariant-loop-i
invariant-loop-i l = Lacks l.self.line.now l.self.next l.i
