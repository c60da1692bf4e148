use mathlib.Core.Path.{ap, ◌∙◌}
use native.Mathlib.Numerals.{add-one}
use Rattle.patterns.specs.Matched.{widened}
use Rattle.patterns.specs.Laws.Matched.{matched_none, matched_more}
use Rattle.patterns.proofs.matched.Goals as goal

pub loop-bits-init : goal.loop-bits-init
loop-bits-init c = matched_none c.args.value c.args.care

pub loop-bits-preserved : goal.loop-bits-preserved
loop-bits-preserved c =
    let o = c.loop-bits in
    let a = c.args in
    let e = c.widened-set.ensures ∙ ap (λ t. widened t o.set o.bits) c.ternary_at.ensures in
    rw (add-one o.bits, e) (matched_more a.value a.care o.bits o.set o.invariant)
