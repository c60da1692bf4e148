-- `lines::lay_bits` meets its contract. The loop's invariant is the contract at the j bytes passed.
use Rattle.planes.specs.Lines.{Laid}
use Rattle.lines.specs.Shapes.{bit_byte}
use Rattle.lines.proofs.lay_bits.Given as goal

abbrev pub invariant-loop-j : goal.invariant-loop-j
invariant-loop-j l = Laid (bit_byte l.i) l.to l.j l.initial.work l.work
