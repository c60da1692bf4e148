use mathlib.Core.Path.{◌≡◌, sym, ap, ◌∙◌}
use Prim.Native.Nat.{ℕ, ◌*◌, ◌%◌, ◌^◌, ◌≤◌, ◌<◌}
use native.Mathlib.Omega.{arith}
use lib.Bits.{bit_or}
use lib.Pow.{pow_mono, shl_exact}
use Rattle.basics.specs.Laws.Shifts.{shl_one}
use Rattle.patterns.specs.Matched.{widened}
use Rattle.patterns.proofs.widened.Goals as goal

-- how far the set is shifted, and what it is then
module _ (i : ℕ) (h : i < 6) where
  by_is : (1 * 2 ^ i) % 2 ^ 64 ≡ 2 ^ i
  by_is = shl_one i 64 (omega arith)

  by_low : 2 ^ i ≤ 32
  by_low = pow_mono {i = i} {j = 5} (omega arith)

  upper_is : (set : ℕ) → set < 2 ^ (2 ^ i) → (set * 2 ^ ((1 * 2 ^ i) % 2 ^ 64)) % 2 ^ 64 ≡ set * 2 ^ (2 ^ i)
  upper_is set l =
      ap (λ (k : ℕ). (set * 2 ^ k) % 2 ^ 64) by_is
      ∙ shl_exact (2 ^ i) (2 ^ i) 64 l (omega (arith, by_low))

pub overflow_shl-upper-2 : goal.overflow_shl-upper-2
overflow_shl-upper-2 c = omega (arith, by_is c.args.i c.requires.0, by_low c.args.i c.requires.0)

pub returns-in-Fixed1 : goal.returns-in-Fixed1
returns-in-Fixed1 c =
    upper_is c.args.i c.requires.0 c.args.set c.requires.1 ∙ sym (ap (λ t. widened t c.args.set c.args.i) c.in-Fixed1.is)

pub returns-in-Star : goal.returns-in-Star
returns-in-Star c =
    ap (bit_or c.args.set) (upper_is c.args.i c.requires.0 c.args.set c.requires.1) ∙ sym (ap (λ t. widened t c.args.set c.args.i) c.in-Star.is)
