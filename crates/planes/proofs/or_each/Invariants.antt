-- `planes::or_each` meets its contract. The loop's invariant is the contract at the j bytes passed.
use Rattle.planes.specs.Lines.{Ored}
use Rattle.planes.proofs.or_each.Given as goal

abbrev pub invariant-loop-j : goal.invariant-loop-j
invariant-loop-j l = Ored l.bytes l.at l.j l.initial.p l.p
