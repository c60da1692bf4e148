-- What is gathered has the bits of the bytes passed.
use Rattle.sinks.proofs.Blanks.{Has}
use Rattle.sinks.proofs.all_zero.Given as goal

abbrev pub invariant-loop-b : goal.invariant-loop-b
invariant-loop-b l = Has l.bytes l.b-index l.all
