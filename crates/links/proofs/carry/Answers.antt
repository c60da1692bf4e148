use mathlib.Core.Path.{subst}
use Prim.Native.Nat.{ℕ}
use native.Mathlib.Omega.{arith}
use lib.Dec.{eqb}
use Rattle.planes.specs.Plane.{plane_size}
use Rattle.planes.specs.Adds.{Adds}
use Rattle.planes.specs.Laws.AddedBits.{adds_one}
use Rattle.widths.specs.Widths.{line_bytes}
use Rattle.links.proofs.EveryHeader.{carried_more, carried_all}
use Rattle.links.proofs.carry.Goals as goal

pub loop-header-preserved : goal.loop-header-preserved
loop-header-preserved c =
    let a = c.args in
    let size = plane_size (line_bytes a.w) in
    carried_more a.w c.requires.plane_room.0 _ _ _ _ _ c.requires.points.0 c.requires.points.1 _ _ _ _ (omega (arith, c.loop-header-test.true, c.values-header-end.ensures)) c.loop-header.invariant
    (subst (λ (m : ℕ). Adds (λ n. eqb n m) a.base size c.loop-header.work c.set_at.new.p) c.crossing.ensures.is (adds_one a.base size _ _ _ c.set_at.ensures c.crossing.ensures.within))

pub returns : goal.returns
returns c =
    carried_all _ c.requires.plane_room.0 _ _ _ _ _ c.requires.points.0 c.requires.points.1 _ _ _
    (omega (arith, c.loop-header-test.false, c.loop-header.auto.header-end, c.values-header-end.ensures)) c.loop-header.invariant
