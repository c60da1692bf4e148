-- `shapes::combine_lines`: the first x lines are made.
use Rattle.planes.specs.Lines.{Made}
use Rattle.forms.specs.Forms.{joined}
use Rattle.shapes.proofs.combine_lines.Given as goal

abbrev pub invariant-loop-x : goal.invariant-loop-x
invariant-loop-x l = Made (joined l.j l.initial.work l.to.pitch) l.to.pitch l.to.base l.x l.initial.work l.work
