-- `quantify::range_flat` meets its contract.
use mathlib.Core.Path.{sym, ◌∙◌}
use Rattle.lines.specs.Laws.Quantified.{quantifies}
use Rattle.quantify.proofs.Gathered.{vars_same, flat_same, flat_other}
use Rattle.quantify.proofs.range_flat.Goals as goal
use Rattle.quantify.proofs.range_flat.Goals.{then-eq, else-eq}

pub returns : goal.returns
returns c =
    let s = c.args in
    let Q = quantifies s.r.by in
    let e = sym (c.eq.ensures ∙ vars_same s.u s.r.over) in
    rw c.line.ensures
    (elim c.if-eq.branch [
      | then-eq w ↦ rw w.work-is (flat_same _ Q s.j _ _ _ _ s.u s.r.over (e ∙ w.if-eq.true) c.requires.flat (rw w.starts.ensures at w.same_line.ensures))
      | else-eq w ↦ rw w.work-is (flat_other _ Q s.j _ _ _ _ s.u s.r.over (e ∙ w.if-eq.false) c.requires.flat (rw w.starts-else-eq.ensures at w.join_lines.ensures))
    ])
