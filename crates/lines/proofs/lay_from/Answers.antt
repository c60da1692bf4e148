use mathlib.Core.Path.{ap, ◌∙◌}
use Rattle.planes.specs.Laws.LaidBytes.{laid_more}
use Rattle.lines.proofs.Spans.{span_kept}
use Rattle.lines.proofs.lay_from.Goals as goal

pub loop-j-preserved : goal.loop-j-preserved
loop-j-preserved g c h same =
    let L = c.loop-j.invariant h same in
    laid_more _ _ _ _ _ _ L c.loop-j-test.true c.requires.len_in_bounds _ (same _ _ c.f.ensures ∙ ap h (span_kept _ _ _ _ _ _ _ c.requires.span L c.loop-j-test.true))
