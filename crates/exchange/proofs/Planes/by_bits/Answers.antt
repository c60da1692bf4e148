use native.Mathlib.Omega.{arith}
use mathlib.Core.Path.{◌≡◌}
use Prim.Native.Nat.{◌*◌}
use Rattle.exchange.proofs.Exchanging.{parted_apart, swapped_none, swapped_all}
use Rattle.exchange.proofs.Planes.by_bits.Goals as goal

pub returns : goal.returns
returns c =
    let e : c.loop-x.x ≡ c.args.self.pitch * 8 = omega arith in
    swapped_all _ _ _ (parted_apart _ _ _ c.args.self.parted) _ _ (rw (← e) (c.loop-x.invariant.1 _ (swapped_none _ _ _ (parted_apart _ _ _ c.args.self.parted) _ _ c.clear.ensures)))
