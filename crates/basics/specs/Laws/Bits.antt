-- Laws of a number's bits, over every width.
use Rattle.std.specs.Prelude.{◌≡◌, refl, false, not, ◌&&◌, ◌||◌, ◌⊎◌, ℕ, zero, suc, ◌+◌, ◌-◌, ◌*◌, ◌/◌, ◌%◌, ◌^◌, ◌<◌, ◌≤◌, eqb}
use Rattle.std.proofs.Common.{sym, ap, subst₂, ◌∙◌, true≢false, inl, inr, not-suc-le-zero, le_of_suc-le-suc, pow-suc, arith, pow_pos, shr-shr}
use Rattle.std.proofs.lemmas.Bool.{false≢true}
use Rattle.std.proofs.Math.Nat.{two-pow-succ}
use Rattle.std.proofs.Math.Dec.{eqb-suc-suc, eqb-zero-suc, eqb-suc-zero}
use Rattle.std.specs.Int.Bits.{bit_and, bit_or, block_half, block_odd}
use Rattle.std.proofs.lemmas.Nat.{and_shr, and_mod, or_shr, or_mod}
use Rattle.std.proofs.Math.Pow.{high as high-of}
use Rattle.std.proofs.Math.Arith.{bin_ind}
use Rattle.basics.specs.Bit.{bit_of}

below_two : (a : ℕ) → a < 2 → (a ≡ 0) ⊎ (a ≡ 1)
below_two zero h = inl refl
below_two (suc zero) h = inr refl
below_two (suc (suc a)) h = absurd (go h)
  where
    go : suc (suc a) < 2 → ⊥
    go h = omega arith

pub digit_cases : (a : ℕ) → (a % 2 ≡ 0) ⊎ (a % 2 ≡ 1)
digit_cases a = below_two (a % 2) (omega arith)

and_digit : (a b : ℕ) → (a ≡ 0) ⊎ (a ≡ 1) → (b ≡ 0) ⊎ (b ≡ 1) → eqb (bit_and a b) 1 ≡ (eqb a 1 && eqb b 1)
and_digit a b (inl p) (inl q) = rw p refl
and_digit a b (inl p) (inr q) = rw p refl
and_digit a b (inr p) (inl q) = rw (p, q) refl
and_digit a b (inr p) (inr q) = rw (p, q) refl

or_digit : (a b : ℕ) → (a ≡ 0) ⊎ (a ≡ 1) → (b ≡ 0) ⊎ (b ≡ 1) → eqb (bit_or a b) 1 ≡ (eqb a 1 || eqb b 1)
or_digit a b (inl p) (inl q) = rw (p, q) refl
or_digit a b (inl p) (inr q) = rw (p, q) refl
or_digit a b (inr p) (inl q) = rw (p, q) refl
or_digit a b (inr p) (inr q) = rw (p, q) refl

-- a bit of a conjunction, and of a disjunction
pub bit_and_lem : (a b i : ℕ) → bit_of (bit_and a b) i ≡ (bit_of a i && bit_of b i)
unfolding bit_of
bit_and_lem a b i =
    ap (λ (m : ℕ). eqb (m % 2) 1) (and_shr a b i)
    ∙ ap (λ (m : ℕ). eqb m 1) (and_mod (a / 2 ^ i) (b / 2 ^ i) 1)
    ∙ and_digit (a / 2 ^ i % 2) (b / 2 ^ i % 2) (digit_cases (a / 2 ^ i)) (digit_cases (b / 2 ^ i))

pub bit_or_lem : (a b i : ℕ) → bit_of (bit_or a b) i ≡ (bit_of a i || bit_of b i)
unfolding bit_of
bit_or_lem a b i =
    ap (λ (m : ℕ). eqb (m % 2) 1) (or_shr a b i)
    ∙ ap (λ (m : ℕ). eqb m 1) (or_mod (a / 2 ^ i) (b / 2 ^ i) 1)
    ∙ or_digit (a / 2 ^ i % 2) (b / 2 ^ i % 2) (digit_cases (a / 2 ^ i)) (digit_cases (b / 2 ^ i))

-- the lowest bit, and the bits above it
pub bit_low : (a : ℕ) → bit_of a 0 ≡ eqb (a % 2) 1
unfolding bit_of
bit_low a = let e : a / 1 ≡ a = omega arith in ap (λ (m : ℕ). eqb (m % 2) 1) e

pub bit_half : (a i : ℕ) → bit_of (a / 2) i ≡ bit_of a (suc i)
unfolding bit_of
bit_half a i =
    let e : 1 + i ≡ suc i = omega arith in
    ap (λ (m : ℕ). eqb (m % 2) 1) (shr-shr a 1 i ∙ ap (λ (m : ℕ). a / 2 ^ m) e)

digit_same : (a b : ℕ) → (a ≡ 0) ⊎ (a ≡ 1) → (b ≡ 0) ⊎ (b ≡ 1) → eqb a 1 ≡ eqb b 1 → a ≡ b
digit_same a b (inl p) (inl q) e = p ∙ sym q
digit_same a b (inl p) (inr q) e = absurd (false≢true (subst₂ (λ (x y : ℕ). eqb x 1 ≡ eqb y 1) p q e))
digit_same a b (inr p) (inl q) e = absurd (true≢false (subst₂ (λ (x y : ℕ). eqb x 1 ≡ eqb y 1) p q e))
digit_same a b (inr p) (inr q) e = p ∙ sym q

halves : (a b : ℕ) → a / 2 ≡ b / 2 → a % 2 ≡ b % 2 → a ≡ b
halves a b p q = omega arith

low_same : (a b : ℕ) → bit_of a 0 ≡ bit_of b 0 → a % 2 ≡ b % 2
low_same a b e = digit_same (a % 2) (b % 2) (digit_cases a) (digit_cases b) (sym (bit_low a) ∙ e ∙ bit_low b)

Same : ℕ → Type 0
Same a = (b : ℕ) → ((i : ℕ) → bit_of a i ≡ bit_of b i) → a ≡ b

None : ℕ → Type 0
None b = ((i : ℕ) → bit_of 0 i ≡ bit_of b i) → 0 ≡ b

none_set : (b : ℕ) → None b
unfolding None
none_set = bin_ind None (λ h. refl) (λ b ih h. halves 0 b (ih (λ i. bit_half 0 i ∙ h (suc i) ∙ sym (bit_half b i))) (low_same 0 b (h 0)))

-- two numbers with the same bits are equal
pub bits_ext : (a b : ℕ) → ((i : ℕ) → bit_of a i ≡ bit_of b i) → a ≡ b
unfolding Same None
bits_ext = bin_ind Same none_set (λ a ih b h. halves a b (ih (b / 2) (λ i. bit_half a i ∙ h (suc i) ∙ sym (bit_half b i))) (low_same a b (h 0)))

-- a number in blocks of k bits: its bits below k, its bits from k on, and bit k
pub bit_block : (high k low i : ℕ) → i < k → bit_of (high * 2 ^ k + low) i ≡ bit_of low i
bit_block high zero low i h = absurd (not-suc-le-zero h)
bit_block high (suc k) low zero h =
    bit_low (high * 2 ^ suc k + low) ∙ ap (λ (m : ℕ). eqb m 1) (block_odd high k low) ∙ sym (bit_low low)
bit_block high (suc k) low (suc i) h =
    sym (bit_half (high * 2 ^ suc k + low) i)
    ∙ ap (λ (m : ℕ). bit_of m i) (block_half high k low)
    ∙ bit_block high k (low / 2) i (le_of_suc-le-suc h)
    ∙ bit_half low i

pub bit_high : (high k low i : ℕ) → low < 2 ^ k → bit_of (high * 2 ^ k + low) (k + i) ≡ bit_of high i
unfolding bit_of
bit_high high k low i h =
    ap (λ (m : ℕ). eqb (m % 2) 1) (sym (shr-shr (high * 2 ^ k + low) k i) ∙ ap (λ (m : ℕ). m / 2 ^ i) (high-of high k h))

pub bit_top : (high k low : ℕ) → low < 2 ^ k → bit_of (high * 2 ^ k + low) k ≡ eqb (high % 2) 1
bit_top high k low h =
    let e : k ≡ k + 0 = omega arith in
    ap (bit_of (high * 2 ^ k + low)) e ∙ bit_high high k low 0 h ∙ bit_low high

-- the bits of a number that is shifted, and those of its lowest byte
pub bit_shift : (v s i : ℕ) → bit_of (v / 2 ^ s) i ≡ bit_of v (s + i)
unfolding bit_of
bit_shift v s i = ap (λ (m : ℕ). eqb (m % 2) 1) (shr-shr v s i)

pub bit_low_byte : (v i : ℕ) → i < 8 → bit_of (v % 256) i ≡ bit_of v i
bit_low_byte v i h =
    let e : v / 256 * 256 + v % 256 ≡ v = omega arith in
    sym (bit_block (v / 256) 8 (v % 256) i h) ∙ ap (λ (m : ℕ). bit_of m i) e

-- zero has no bit
pub bit-zero : (i : ℕ) → bit_of 0 i ≡ false
bit-zero zero = bit_low 0
bit-zero (suc i) = sym (bit_half 0 i) ∙ bit-zero i

-- a number below 2 ^ k has no bit from k on
pub bit_above : (k x i : ℕ) → x < 2 ^ k → k ≤ i → bit_of x i ≡ false
bit_above zero x i h l = let e : x ≡ 0 = omega arith in ap (λ (m : ℕ). bit_of m i) e ∙ bit-zero i
bit_above (suc k) x zero h l = absurd (not-suc-le-zero l)
bit_above (suc k) x (suc i) h l =
    let p : 2 ^ suc k ≡ 2 ^ k * 2 = pow-suc 2 k in
    sym (bit_half x i) ∙ bit_above k (x / 2) i (omega arith) (le_of_suc-le-suc l)

-- a bit below n of the complement in n bits
pub bit_not : (n a i : ℕ) → a < 2 ^ n → i < n → bit_of ((2 ^ n - 1) - a) i ≡ not (bit_of a i)
bit_not zero a i h l = absurd (not-suc-le-zero l)
bit_not (suc n) a zero h l =
    bit_low ((2 ^ suc n - 1) - a) ∙ flip (digit_cases a) ∙ ap not (sym (bit_low a))
  where
    p : 2 ^ suc n ≡ 2 ^ n * 2
    p = pow-suc 2 n

    q : 0 < 2 ^ n
    q = pow_pos n

    flip : (a % 2 ≡ 0) ⊎ (a % 2 ≡ 1) → eqb (((2 ^ suc n - 1) - a) % 2) 1 ≡ not (eqb (a % 2) 1)
    flip (inl e) = let f : ((2 ^ suc n - 1) - a) % 2 ≡ 1 = omega (arith, p, q) in rw (f, e) refl
    flip (inr e) = let f : ((2 ^ suc n - 1) - a) % 2 ≡ 0 = omega (arith, p, q) in rw (f, e) refl
bit_not (suc n) a (suc i) h l =
    let p : 2 ^ suc n ≡ 2 ^ n * 2 = pow-suc 2 n in
    let q : 0 < 2 ^ n = pow_pos n in
    let e : ((2 ^ suc n - 1) - a) / 2 ≡ (2 ^ n - 1) - a / 2 = omega arith in
    sym (bit_half ((2 ^ suc n - 1) - a) i)
    ∙ ap (λ (m : ℕ). bit_of m i) e
    ∙ bit_not n (a / 2) i (omega arith) (le_of_suc-le-suc l)
    ∙ ap not (bit_half a i)

-- a power of two has one bit
pub bit_power : (i j : ℕ) → bit_of (2 ^ i) j ≡ eqb j i
bit_power zero zero = bit_low 1
bit_power zero (suc j) = sym (bit_half 1 j) ∙ bit_above 0 0 j (omega arith) (omega arith) ∙ sym (eqb-suc-zero j)
bit_power (suc i) zero =
    let e : 2 ^ suc i % 2 ≡ 0 = omega (arith, two-pow-succ i) in
    bit_low (2 ^ suc i) ∙ ap (λ (m : ℕ). eqb m 1) e ∙ sym (eqb-zero-suc i)
bit_power (suc i) (suc j) =
    let e : 2 ^ suc i / 2 ≡ 2 ^ i = omega (arith, two-pow-succ i) in
    sym (bit_half (2 ^ suc i) j) ∙ ap (λ (m : ℕ). bit_of m j) e ∙ bit_power i j ∙ sym (eqb-suc-suc j i)
