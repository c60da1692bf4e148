-- The states of the words passed are done where they are in among.
use Rattle.std.proofs.Common.{◌*◌}
use Rattle.words.specs.Words.{Spent}
use Rattle.words.proofs.next_open.Given as goal

abbrev pub invariant-loop-i : goal.invariant-loop-i
invariant-loop-i l = Spent l.line l.done l.among (l.i * 64)
