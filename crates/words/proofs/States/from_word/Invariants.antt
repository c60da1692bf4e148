-- No state from word w on is passed.
use Rattle.std.proofs.Common.{◌*◌}
use Rattle.words.specs.Words.{Lacks}
use Rattle.words.proofs.States.from_word.Given as goal

abbrev pub invariant-loop-i : goal.invariant-loop-i
invariant-loop-i l = Lacks l.self.line.now (l.w * 64) (l.i * 64)
