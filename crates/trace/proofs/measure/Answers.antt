use native.Mathlib.Omega.{arith}
use Rattle.trace.proofs.Measuring.{measuring_start, measuring_more, measured_stuck}
use Rattle.trace.proofs.measure.Goals as goal

pub loop-k-init : goal.loop-k-init
loop-k-init c = measuring_start _ _ _ _ _ c.requires.within.1 c.told-distances c.requires.unknown c.mark.ensures

pub returns-then-not-advance : goal.returns-then-not-advance
returns-then-not-advance c =
    measured_stuck _ _ _ _ _ c.loop-k.invariant _ _ c.advance.ensures _ c.if-not-advance.true

pub loop-k-preserved : goal.loop-k-preserved
loop-k-preserved c = measuring_more _ _ _ _ _ c.loop-k.invariant _ _ c.advance.ensures (omega (arith, c.loop-k-test.true, c.states-k-end.ensures))
