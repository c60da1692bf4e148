use native.Mathlib.Omega.{arith}
use native.Mathlib.Nat.{mul-le-mul_right}
use Prim.Native.Nat.{◌+◌, ◌-◌, ◌*◌, ◌≤◌}
use Rattle.std.proofs.Math.Nat.{div-le_self}
use Rattle.std.proofs.lemmas.Nat.{ones-le}
use Rattle.exchange.proofs.Planes.sampled.Goals as goal

pub overflow_add-count : goal.overflow_add-count
overflow_add-count c =
    let pitch = c.args.self.pitch in
    let h : pitch * 8 ≤ 1024 = omega (arith, c.args.self.narrow) in
    omega (arith, mul-le-mul_right pitch h, div-le_self (pitch * 8 * pitch + (pitch * 4 + 8) - 8) (pitch * 4 + 8), ones-le 64 c.eight.result (omega arith), c.loop-i.invariant)
