-- `lines::take_span` meets its contract. The loop's invariant is the contract at the j bytes passed.
use lib.ListN.{get_or}
use Rattle.planes.specs.Lines.{Laid}
use Rattle.lines.specs.Shapes.{op_byte, pair_byte}
use Rattle.lines.proofs.take_span.Given as goal

abbrev pub invariant-loop-j : goal.invariant-loop-j
invariant-loop-j l = Laid (λ i. op_byte l.o (get_or l.initial.r i 0) (pair_byte l.fn.s l.work i)) 0 l.j l.initial.r l.r
