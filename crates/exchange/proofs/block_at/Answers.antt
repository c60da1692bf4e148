use native.Mathlib.Omega.{arith}
use Prim.Native.Nat.{◌+◌, ◌*◌, ◌-◌}
use Rattle.exchange.proofs.Blocks.{read_more}
use Rattle.exchange.proofs.block_at.Goals as goal

pub loop-i-preserved : goal.loop-i-preserved
loop-i-preserved c =
    read_more _ _ _ _ _ _ c.loop-i-test.true c.from.ensures (rw c.from.ensures (omega (arith, c.type_inv.p (c.args.a + (c.loop-i.i - 1) * c.args.pitch)))) c.loop-i.invariant
