-- `lines::join_span` meets its contract. The loop's invariant is the contract at the j bytes passed.
use Rattle.planes.specs.Lines.{Laid}
use Rattle.lines.specs.Shapes.{pair_byte}
use Rattle.lines.proofs.join_span.Given as goal

abbrev pub invariant-loop-j : goal.invariant-loop-j
invariant-loop-j l = Laid (λ i. pair_byte l.fn.s l.initial.work i) l.to l.j l.initial.work l.work
