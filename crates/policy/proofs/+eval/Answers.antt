-- `policy::eval` meets its contract, by recursion on operands, the node number falling.
use mathlib.Core.Path.{sym, ◌∙◌}
use native.Mathlib.Omega.{arith}
use Rattle.nodes.specs.Laws.NodePlanes.{needs_first, needs_second}
use Rattle.policy.specs.Laws.MadeNodes.{worked_then, worked_none, ask, none_needed, both_made, makeable, settled, with_form}
use Rattle.policy.proofs.+eval.Goals as goal
use Rattle.policy.proofs.+eval.Goals.{in-Some, in_default}

pub eval-requires : goal.eval-requires
eval-requires t c =
    let A = c.requires in
    let h = c.planned-n.ensures.earlier _ (needs_first _ (c.in-Some.a, c.in-Some.b) (sym c.in-Some.ensures)) in
    (rw (← c.decreases) h, ask _ _ _ _ _ _ _ _ _ A _ _ _ (worked_none _ _ _ _ _ _ _ _ _ A) h)

pub eval-requires-in-Some : goal.eval-requires-in-Some
eval-requires-in-Some t c =
    let A = c.requires in
    let h = c.planned-n.ensures.earlier _ (needs_second _ (c.in-Some.a, c.in-Some.b) (sym c.in-Some.ensures)) in
    (rw (← c.decreases) h, ask _ _ _ _ _ _ _ _ _ A _ _ _ c.eval.ensures.worked h)

pub make-f-requires : goal.make-f-requires
make-f-requires t c =
    let A = c.requires in
    makeable _ _ _ _ _ _ _ _ _ A _ c.planned-n.ensures _ _
    (elim c.match-operands.branch [
      | in-Some w ↦ rw (w.work-is, w.forms-is) (worked_then _ _ _ _ _ _ _ _ _ w.eval.ensures.worked w.eval-in-Some.ensures.worked)
      | in_default w ↦ rw (w.work-is, w.forms-is) (worked_none _ _ _ _ _ _ _ _ _ A)
    ])

pub returns : goal.returns
returns t c =
    let A = c.requires in
    settled _ _ _ _ _ _ _ _ _ A _ c.planned-n.ensures _ _
    (elim c.match-operands.branch [
      | in-Some w ↦ rw (w.work-is, w.forms-is) (both_made _ _ _ _ _ _ _ _ _ A _ _ (sym w.in-Some.ensures) _ _ _ _ w.eval.ensures w.eval-in-Some.ensures)
      | in_default w ↦ rw (w.work-is, w.forms-is) (none_needed _ _ _ _ _ _ _ _ _ A _ (sym c.operands.ensures ∙ w.in_default.is))
    ])
    _ _ (with_form _ _ _ _ _ _ _ _ (omega (arith, A.inside, A.ready.few)) c.make-f.ensures)
