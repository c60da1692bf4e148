use mathlib.Core.Path.{sym, ◌∙◌}
use Prim.Native.Nat.{◌*◌, ◌<◌}
use native.Mathlib.Omega.{arith}
use Rattle.trace.proofs.Rounds.{advanced_none, advanced_off, advanced_on}
use Rattle.trace.proofs.advance.Goals as goal
use Rattle.trace.proofs.advance.Goals.{then-from-k, else-from-k}

pub loop-x-init : goal.loop-x-init
loop-x-init c = advanced_none _ _ _ c.requires.0 _

pub loop-x-preserved : goal.loop-x-preserved
loop-x-preserved c =
    let A = c.loop-x.invariant in
    let h : c.loop-x.x < c.args.steps.now.pitch * 8 = omega (arith, c.loop-x-test.true, c.states-x-end.ensures) in
    elim c.if-from-k.branch [
      | then-from-k w ↦
          rw (w.distances-is, w.some-is) (advanced_on _ _ _ c.requires.0 _ _ _ _ A h _ (sym c.from.ensures ∙ w.if-from-k.true) w.mark.ensures)
      | else-from-k w ↦ rw (w.distances-is, w.some-is) (advanced_off _ _ _ c.requires.0 _ _ _ _ A h (λ e. w.if-from-k.false (c.from.ensures ∙ e)))
    ]
