-- The numbers that a pattern matches, worked out by one bit after the other.
use Rattle.std.specs.Prelude.{◌≡◌, refl, Bool, ◌&&◌, ℕ, suc, ◌+◌, ◌-◌, ◌*◌, ◌^◌, ◌<◌, ◌≤◌}
use Rattle.std.proofs.Math.Path.{sym, ap, ap₂}
use Rattle.std.proofs.Common.{◌∙◌, pow-suc, pow_mono, pow_pos, shl_lt}
use Rattle.std.proofs.Math.Bool.{true, false, not, ◌||◌, or-false}
use Rattle.std.proofs.Math.Decide.{dec_lt}
use native.Mathlib.Omega.{arith}
use Rattle.std.proofs.lemmas.Nat.{or_lt}
use Rattle.basics.specs.Bit.{bit_of}
use Rattle.basics.specs.Laws.Bits.{bit_low, bit_or_lem, bit-zero, bit_block, bit_high, bit_top, bit_above}
use Rattle.format.specs.Pattern.{ternary, agrees, matches}
use Rattle.patterns.specs.Matched.{MatchedSet, widened}
use Rattle.format.specs.Laws.Patterns.{matches_same}
use Rattle.format.specs.declared.Ternary.{Ternary}
use Rattle.format.specs.declared.Ternary.TheVariants.{Fixed0, Fixed1, Star}

-- a number of at most 6 bits, as ports and headers are, has its bit in a set
pub below_64 : (k x : ℕ) → k ≤ 6 → x < 2 ^ k → x < 64
below_64 k x h l = omega (arith, pow_mono {i = k} {j = 6} h)

either : (b m : Bool) → ((not b && m) || (b && m)) ≡ m
either true m = refl
either false m = or-false m

doubled : (i : ℕ) → 2 ^ (2 ^ suc i) ≡ 2 ^ (2 ^ i + 2 ^ i)
doubled i = let e : 2 ^ suc i ≡ 2 ^ i + 2 ^ i = omega (arith, pow-suc 2 i) in ap (λ (n : ℕ). 2 ^ n) e

module _ (value care : ℕ) where
  -- with no bit, the one number matches
  pub matched_none : MatchedSet 0 value care 1
  unfolding matches
  matched_none = record {
    numbers = λ x h. let e : x ≡ 0 = omega arith in ap (bit_of 1) e ∙ bit_low 1;
    only = omega arith;
  }

  module _ (i set : ℕ) (M : MatchedSet i value care set) where
    abbrev upper : ℕ
    upper = set * 2 ^ (2 ^ i)

    -- the set has the numbers with bit i 0, and its upper half those with bit i 1
    Halves : ℕ → Type 0
    Halves x = (bit_of set x ≡ (not (bit_of x i) && matches i value care x)) × (bit_of upper x ≡ (bit_of x i && matches i value care x))

    at_upper : (n : ℕ) → bit_of upper n ≡ bit_of (upper + 0) n
    at_upper n = let e : upper ≡ upper + 0 = omega arith in ap (λ (m : ℕ). bit_of m n) e

    in_lower : (x : ℕ) → x < 2 ^ i → Halves x
    unfolding Halves
    in_lower x h =
        let b : bit_of x i ≡ false = bit_above i x i h (omega arith) in (
          M.numbers x h ∙ sym (ap (λ (c : Bool). not c && matches i value care x) b),
          at_upper x ∙ bit_block set (2 ^ i) 0 x h ∙ bit-zero x ∙ sym (ap (λ (c : Bool). c && matches i value care x) b),
        )

    in_upper : (x y : ℕ) → x ≡ 1 * 2 ^ i + y → y < 2 ^ i → Halves x
    unfolding Halves
    in_upper x y e h =
        let b : bit_of x i ≡ true = ap (λ (n : ℕ). bit_of n i) e ∙ bit_top 1 i y h in
        let m = matches_same value care x y i (λ j l. ap (λ (n : ℕ). bit_of n j) e ∙ bit_block 1 i y j l) in
        let p : x ≡ 2 ^ i + y = omega arith in (
          bit_above (2 ^ i) set x M.only (omega arith) ∙ sym (ap (λ (c : Bool). not c && matches i value care x) b),
          at_upper x ∙ ap (bit_of (upper + 0)) p ∙ bit_high set (2 ^ i) 0 y (pow_pos (2 ^ i)) ∙ M.numbers y h ∙ sym m
              ∙ sym (ap (λ (c : Bool). c && matches i value care x) b),
        )

    halves : (x : ℕ) → x < 2 ^ suc i → Halves x
    halves x h = go (dec_lt x (2 ^ i))
      where
        go : Dec (x < 2 ^ i) → Halves x
        go (yes l) = in_lower x l
        go (no n) = in_upper x (x - 2 ^ i) (omega (arith, n)) (omega (arith, n, pow-suc 2 i))

    widened_bit : (t : Ternary) (x : ℕ) → x < 2 ^ suc i → bit_of (widened t set i) x ≡ (agrees t (bit_of x i) && matches i value care x)
    unfolding Halves
    widened_bit Fixed0 x h = (halves x h).0
    widened_bit Fixed1 x h = (halves x h).1
    widened_bit Star x h = bit_or_lem set upper x ∙ ap₂ ◌||◌ (halves x h).0 (halves x h).1 ∙ either (bit_of x i) (matches i value care x)

    set-lt : set < 2 ^ (2 ^ suc i)
    set-lt = omega (arith, doubled i, M.only, pow_mono {i = 2 ^ i} {j = 2 ^ i + 2 ^ i} (omega arith))

    upper_lt : upper < 2 ^ (2 ^ suc i)
    upper_lt = omega (arith, doubled i, shl_lt {a = set} (2 ^ i) (2 ^ i) M.only)

    widened-lt : (t : Ternary) → widened t set i < 2 ^ (2 ^ suc i)
    widened-lt Fixed0 = set-lt
    widened-lt Fixed1 = upper_lt
    widened-lt Star = or_lt (2 ^ suc i) set upper set-lt upper_lt

    -- with bit i, by its case
    pub matched_more : MatchedSet (suc i) value care (widened (ternary value care i) set i)
    unfolding matches
    matched_more = record { numbers = widened_bit (ternary value care i); only = widened-lt (ternary value care i) }
