use mathlib.Core.Path.{◌≡◌}
use Prim.Native.Nat.{◌*◌}
use native.Mathlib.Omega.{arith}
use Rattle.planes.specs.Laws.Places.{line_before}
use Rattle.closure.proofs.Warshall.{through_none, through_more, through_all}
use Rattle.closure.proofs.close.Goals as goal

pub loop-k-init : goal.loop-k-init
loop-k-init c = through_none _ _ _

pub round-requires-clause-pitch_in_bounds : goal.round-requires-clause-pitch_in_bounds
round-requires-clause-pitch_in_bounds c =
    omega (arith, c.loop-k.invariant.len, line_before c.loop-k.k (c.args.pitch * 8) c.args.pitch (omega arith))

pub loop-k-preserved : goal.loop-k-preserved
loop-k-preserved c = through_more _ _ _ _ _ _ (omega arith) c.loop-k.invariant c.round.ensures

pub returns : goal.returns
returns c =
    let e : c.loop-k.k ≡ c.args.pitch * 8 = omega arith in
    through_all _ _ _ _ (rw e at c.loop-k.invariant)
