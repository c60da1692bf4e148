use mathlib.Core.Path.{◌≡◌, refl, ap, ap₂, ◌∙◌}
use mathlib.Core.Bool.{Bool, cond}
use Prim.Native.Nat.{ℕ, ◌+◌, ◌*◌, ◌%◌, ◌^◌, ◌≤◌, ◌<◌}
use native.Mathlib.Numerals.{add-one}
use native.Mathlib.Omega.{arith}
use lib.Pow.{pow_mono}
use Rattle.basics.specs.Bit.{bit_of}
use Rattle.basics.specs.Laws.Shifts.{shl_one}
use Rattle.format.specs.Pattern.{ternary, written, put_bits}
use Rattle.format.specs.Laws.Patterns.{put_lt}
use Rattle.patterns.proofs.put.Goals as goal
use Rattle.patterns.proofs.put.Goals.{then-written, else-written}

-- the weight of bit i
module _ (i : ℕ) (h : i < 6) where
  weight_is : (1 * 2 ^ i) % 2 ^ 8 ≡ 2 ^ i
  weight_is = shl_one i 8 (omega arith)

  weight_low : 2 ^ i ≤ 32
  weight_low = pow_mono {i = i} {j = 5} (omega arith)

-- with bit i, where b is what is written
more : (value care x i : ℕ) (b : Bool) → b ≡ written (ternary value care i) (bit_of x i) → put_bits (i + 1) value care x ≡ cond b (2 ^ i) 0 + put_bits i value care x
unfolding put_bits
more value care x i b e = rw (add-one i, e)

pub loop-i-init : goal.loop-i-init
unfolding put_bits
loop-i-init c = refl

pub overflow_add-result : goal.overflow_add-result
overflow_add-result c =
    let o = c.loop-i in
    let l : o.i < 6 = omega (arith, c.requires) in
    omega (arith, o.invariant, weight_is o.i l, weight_low o.i l, put_lt c.args.value c.args.care c.args.x o.i)

pub loop-i-preserved : goal.loop-i-preserved
loop-i-preserved c =
    let o = c.loop-i in
    let a = c.args in
    let l : o.i < 6 = omega (arith, c.requires) in
    let e = c.written.ensures ∙ ap₂ written c.ternary_at.ensures (c.bit_of.ensures ∙ ap₂ bit_of c.from.ensures c.from-in-loop-i.ensures) in
    let m = more a.value a.care a.x o.i _ e in
    elim c.if-written.branch [
      | then-written w ↦ rw (m, w.if-written.true) (omega (arith, w.result-is, o.invariant, weight_is o.i l))
      | else-written w ↦ rw (m, w.if-written.false) (omega (arith, w.result-is, o.invariant))
    ]
