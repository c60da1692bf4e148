-- Shifts of small numbers: a shift of 1 is a power of two.
use Rattle.std.specs.Prelude.{◌≡◌, ℕ, ◌*◌, ◌%◌, ◌^◌, ◌<◌, ◌≤◌}
use Rattle.std.proofs.Common.{sym, ap, ◌∙◌, mul-le-mul_left, one-mul, two-mul, arith, lit<, pow-add, pow_mono, shl_exact}

pub shl_one : (k w : ℕ) → k < w → (1 * 2 ^ k) % 2 ^ w ≡ 2 ^ k
shl_one k w h = shl_exact 1 k w (lit< tt) (omega arith) ∙ one-mul (2 ^ k)

pub square : (n : ℕ) → 2 ^ n * 2 ^ n ≡ 2 ^ (2 * n)
square n = sym (pow-add 2 n n) ∙ ap (λ (k : ℕ). 2 ^ k) (sym (two-mul n))

-- a number times at most 64
pub scaled : (a k : ℕ) → k ≤ 6 → a * 2 ^ k ≤ a * 64
scaled a k h = mul-le-mul_left a (pow_mono {j = 6} h)

pub shifted : (a k : ℕ) → a < 16777216 → k ≤ 6 → (a * 2 ^ k) % 2 ^ 64 ≡ a * 2 ^ k
shifted a k h l = shl_exact 24 k 64 h (omega arith)
