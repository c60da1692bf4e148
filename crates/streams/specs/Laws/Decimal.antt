-- A number's digits in decimal are the fewest that hold it, and no other count of digits is.
use Rattle.std.specs.Prelude.{◌≡◌, refl, [], ◌∷◌, ℕ, zero, suc, ◌+◌, ◌-◌, ◌/◌, ◌%◌, ◌^◌, ◌≤◌, ◌<◌, length}
use Rattle.std.proofs.Common.{ap, subst, ◌∙◌, arith, lt-ltb, le-ltb, lit<, length-append}
use Rattle.std.proofs.Math.Decide.{dec_lt}
use Rattle.std.proofs.Math.Nat.{pow-le-pow_right, pow-succ'}
use Rattle.io.specs.Digits.{last_digits, hex_digit_ascii, IsDigitCount}
use Rattle.streams.specs.Text.{bytes, places_from, places, decimal}
use Rattle.streams.specs.Line.{spaced}

fewest_from : (more k n : ℕ) → 1 ≤ k → (1 < k → 10 ^ (k - 1) ≤ n) → n < 10 ^ (k + more) → IsDigitCount 10 1 n (places_from more k n)
unfolding places_from
fewest_from zero k n one before fits = let e : k + 0 ≡ k = omega arith in (one, rw e at fits, before)
fewest_from (suc more) k n one before fits =
    let e : k + suc more ≡ suc k + more = omega arith in
    let d : k ≡ suc k - 1 = omega arith in
    go (dec_lt n (10 ^ k)) (λ h. fewest_from more (suc k) n (omega arith) (λ t. subst (λ (m : ℕ). 10 ^ m ≤ n) d h) (rw e at fits))
  where
    go : Dec (n < 10 ^ k) → (10 ^ k ≤ n → IsDigitCount 10 1 n (places_from more (suc k) n)) → IsDigitCount 10 1 n (places_from (suc more) k n)
    go (yes h) later = rw (lt-ltb n (10 ^ k) h) (one, h, before)
    go (no g) later = let h : 10 ^ k ≤ n = omega arith in rw (le-ltb n (10 ^ k) h) (later h)

below_power : (n : ℕ) → n < 10 ^ suc n
below_power zero = lit< tt
below_power (suc n) = omega (arith, below_power n, pow-succ' 10 (suc n))

-- the digits of `places` are the fewest
pub places_fewest : (n : ℕ) → IsDigitCount 10 1 n (places n)
unfolding places
places_fewest n = fewest_from n 1 n (lit< tt) (λ t. absurd (omega arith)) (let e : suc n ≡ 1 + n = omega arith in subst (λ (m : ℕ). n < 10 ^ m) e (below_power n))

not_fewer : (n j k : ℕ) → IsDigitCount 10 1 n j → IsDigitCount 10 1 n k → j < k → ⊥
not_fewer n j k a b h = omega (arith, b.2 (omega arith), pow-le-pow_right {n = 10} (lit< tt) {i = j} {j = k - 1} (omega arith))

-- there is no other fewest count
only_fewest : (n k : ℕ) → IsDigitCount 10 1 n k → k ≡ places n
only_fewest n k a = omega (arith, not_fewer n k (places n) a (places_fewest n), not_fewer n (places n) k (places_fewest n) a)

-- so the toolchain's digits, as few as hold the number, are its decimal
pub fewest_decimal : (n k : ℕ) → IsDigitCount 10 1 n k → last_digits 10 k n ≡ decimal n
unfolding decimal
fewest_decimal n k a = ap (λ (j : ℕ). last_digits 10 j n) (only_fewest n k a)

length_digits : (k n : ℕ) → length (last_digits 10 k n) ≡ k
length_digits zero n = refl
length_digits (suc k) n = length-append (last_digits 10 k (n / 10)) (hex_digit_ascii (n % 10) ∷ []) ∙ omega (arith, length_digits k (n / 10))

no_more_than_20 : (n : ℕ) → n < 2 ^ 64 → 20 < places n → ⊥
no_more_than_20 n h t =
    omega (arith, (places_fewest n).2 (omega arith), pow-le-pow_right {n = 10} (lit< tt) {i = 20} {j = places n - 1} (omega arith))

-- a machine word has at most 20 digits
pub at_most_20 : (n : ℕ) → n < 2 ^ 64 → length (decimal n) ≤ 20
unfolding decimal
at_most_20 n h = omega (arith, length_digits (places n) n, no_more_than_20 n h)

-- and with a space before it at most 21 bytes
pub at_most_21 : (n : ℕ) → n < 2 ^ 64 → length (spaced n) ≤ 21
unfolding spaced bytes
at_most_21 n h = omega (arith, at_most_20 n h)
