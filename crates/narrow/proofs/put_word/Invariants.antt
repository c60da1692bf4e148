-- `narrow::put_word` meets its contract. The loop's invariant is the contract at the j bytes passed.
use Rattle.planes.specs.Lines.{Laid}
use Rattle.narrow.specs.Words.{byte_of}
use Rattle.narrow.proofs.put_word.Given as goal

abbrev pub invariant-loop-j : goal.invariant-loop-j
invariant-loop-j l = Laid (byte_of l.v) l.at l.j l.initial.work l.work
