use native.Mathlib.Omega.{arith}
use native.Mathlib.Nat.{mul-le-mul_right}
use Prim.Native.Nat.{◌≤◌}
use Rattle.exchange.proofs.Blocks.{word_byte, spread_more}
use Rattle.exchange.proofs.put_block.Goals as goal

pub loop-i-preserved : goal.loop-i-preserved
loop-i-preserved c =
    let I = c.loop-i.invariant in
    let h : c.loop-i.i ≤ 7 = omega arith in
    spread_more _ _ _ _ _ _ _ c.requires.1 (omega (arith, mul-le-mul_right c.args.pitch h, c.requires.0, I.len)) (rw c.to_le_bytes-bytes.ensures (word_byte _ _ (omega arith))) I
