-- `quantify::gather_x` meets its contract.
use mathlib.Core.Path.{refl, sym, ◌∙◌}
use Rattle.lines.specs.Laws.Quantified.{quantifies}
use Rattle.forms.specs.Forms.{joined}
use Rattle.quantify.proofs.Gathered.{taken_none, taken_more}
use Rattle.quantify.proofs.gather_x.Goals as goal

pub loop-x-init : goal.loop-x-init
loop-x-init c =
    let tests = joined c.args.j c.args.work.now c.args.pitch in
    (refl, taken_none _ (quantifies c.args.q) _ _ tests (rw c.op-o.ensures at c.units-r.ensures) c.requires.paired.first.small)

pub loop-x-preserved : goal.loop-x-preserved
loop-x-preserved c =
    let tests = joined c.args.j c.args.work.now c.args.pitch in
    let I = c.loop-x.invariant in (
      I.0 ∙ sym c.take_join.ensures.len,
      taken_more _ (quantifies c.args.q) _ tests _ _ _ _ _ I.1 c.line_of-e.ensures (rw c.op-o.ensures at c.take_join.ensures),
    )
