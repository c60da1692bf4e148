-- The first i states are written, and x is the last of them.
use Rattle.trace.specs.Search.{Writable}
use Rattle.trace.proofs.Reading.{Writing}
use Rattle.trace.proofs.write_route.Given as goal

abbrev pub invariant-loop-i : goal.invariant-loop-i
invariant-loop-i l = (W : Writable l.steps.work.now l.steps.pitch l.start l.end l.distances l.initial.list) × Writing l.steps.work.now l.steps.pitch l.start l.end l.distances l.initial.list W l.x l.i l.list
