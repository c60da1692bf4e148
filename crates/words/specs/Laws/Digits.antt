-- The bits of a number that is made of bytes, and its lowest bit.
use Rattle.std.specs.Prelude.{◌≡◌, refl, true, false, List, [], ◌∷◌, ℕ, zero, suc, ◌+◌, ◌-◌, ◌*◌, ◌/◌, ◌%◌, ◌^◌, ◌<◌, ◌≤◌, eqb}
use Rattle.std.proofs.Common.{sym, ap₂, ◌∙◌, not-suc-le-zero, le_of_suc-le-suc, pow-suc, add-zero}
use Rattle.std.proofs.Math.Path.{ap}
use Rattle.std.proofs.Math.Decide.{dec_lt}
use native.Mathlib.Omega.{arith}
use Rattle.std.specs.Int.{w64, from_le_bytes, trailing_zeros}
use Rattle.std.specs.Int.Count.{count_trailing_zeros, under}
use Rattle.std.proofs.lemmas.Nat.Bits.{bit_at-trailing_zeros}
use Rattle.std.proofs.Math.ListN.{get_or}
use Rattle.basics.specs.Bit.{bit_of}
use Rattle.planes.specs.Plane.{bit}
use Rattle.basics.specs.Laws.Bits.{bit_low, bit_half, bit_block, bit_high}
use Rattle.planes.specs.Laws.Places.{bit_at, in_line}
use Rattle.words.specs.Words.{Word, Lowest}

-- a byte, and a number above it
low_bits : (low high i : ℕ) → i < 8 → bit_of (low + 256 * high) i ≡ bit_of low i
low_bits low high i h =
    let e : low + 256 * high ≡ high * 256 + low = omega arith in
    ap (λ (m : ℕ). bit_of m i) e ∙ bit_block high 8 low i h

high_bits : (low high i : ℕ) → low < 256 → bit_of (low + 256 * high) (8 + i) ≡ bit_of high i
high_bits low high i h =
    let e : low + 256 * high ≡ high * 256 + low = omega arith in
    ap (λ (m : ℕ). bit_of m (8 + i)) e ∙ bit_high high 8 low i h

-- the number of n bytes, the lowest first
digits : (ℕ → ℕ) → ℕ → ℕ
digits f zero = 0
digits f (suc n) = f 0 + 256 * digits (λ i. f (suc i)) n

digits_more : (n : ℕ) (f : ℕ → ℕ) (i : ℕ) → f 0 < 256 → Dec (i < 8)
    → (8 ≤ i → bit_of (digits (λ j. f (suc j)) n) (i - 8) ≡ bit_of (f (suc ((i - 8) / 8))) ((i - 8) % 8))
    → bit_of (f 0 + 256 * digits (λ j. f (suc j)) n) i ≡ bit_of (f (i / 8)) (i % 8)
digits_more n f i h (yes s) ih =
    let p : 0 ≡ i / 8 = omega arith in
    let q : i ≡ i % 8 = omega arith in
    low_bits (f 0) (digits (λ j. f (suc j)) n) i s ∙ ap₂ (λ (b j : ℕ). bit_of (f b) j) p q
digits_more n f i h (no g) ih =
    let e : i ≡ 8 + (i - 8) = omega arith in
    let p : suc ((i - 8) / 8) ≡ i / 8 = omega arith in
    let q : (i - 8) % 8 ≡ i % 8 = omega arith in
    ap (λ (m : ℕ). bit_of (f 0 + 256 * digits (λ j. f (suc j)) n) m) e
    ∙ high_bits (f 0) (digits (λ j. f (suc j)) n) (i - 8) h
    ∙ ih (omega arith)
    ∙ ap₂ (λ (b j : ℕ). bit_of (f b) j) p q

digits_bit : (n : ℕ) (f : ℕ → ℕ) (i : ℕ) → ((j : ℕ) → f j < 256) → i < 8 * n → bit_of (digits f n) i ≡ bit_of (f (i / 8)) (i % 8)
unfolding digits
digits_bit zero f i h l = absurd (not-suc-le-zero l)
digits_bit (suc n) f i h l =
    digits_more n f i (h 0) (dec_lt i 8) (λ g. digits_bit n (λ j. f (suc j)) (i - 8) (λ j. h (suc j)) (omega arith))

-- the eight bytes from a on
module _ (bytes : List ℕ) (a : ℕ) (small : (j : ℕ) → get_or bytes j 0 < 256) where
  abbrev here : ℕ → ℕ
  here j = get_or bytes (a + j) 0

  abbrev eight : List ℕ
  eight = get_or bytes a 0 ∷ here 1 ∷ here 2 ∷ here 3 ∷ here 4 ∷ here 5 ∷ here 6 ∷ here 7 ∷ []

  is_digits : from_le_bytes w64 eight ≡ digits here 8
  unfolding digits
  is_digits =
      let h : get_or bytes (a + 0) 0 ≡ get_or bytes a 0 = ap (λ (n : ℕ). get_or bytes n 0) (add-zero a) in
      omega (arith, h)

  pub word_is : (v : ℕ) → v < 2 ^ 64 → v ≡ from_le_bytes w64 eight → Word a bytes v
  word_is v h e = record {
    small = h;
    bits = λ i k.
        ap (λ (m : ℕ). bit_of m i) (e ∙ is_digits)
        ∙ digits_bit 8 here i (λ j. small (a + j)) (omega arith)
        ∙ sym (bit_at bytes a i);
  }

-- the same of eight numbers that are these bytes
module _ (bytes : List ℕ) (a b0 b1 b2 b3 b4 b5 b6 b7 : ℕ) (small : (j : ℕ) → get_or bytes j 0 < 256)
    (h0 : b0 ≡ get_or bytes a 0) (h1 : b1 ≡ get_or bytes (a + 1) 0) (h2 : b2 ≡ get_or bytes (a + 2) 0) (h3 : b3 ≡ get_or bytes (a + 3) 0)
    (h4 : b4 ≡ get_or bytes (a + 4) 0) (h5 : b5 ≡ get_or bytes (a + 5) 0) (h6 : b6 ≡ get_or bytes (a + 6) 0) (h7 : b7 ≡ get_or bytes (a + 7) 0) where
  sum_is_digits : b0 + 256 * (b1 + 256 * (b2 + 256 * (b3 + 256 * (b4 + 256 * (b5 + 256 * (b6 + 256 * b7)))))) ≡ digits (λ j. get_or bytes (a + j) 0) 8
  unfolding digits
  sum_is_digits =
      let h : get_or bytes (a + 0) 0 ≡ get_or bytes a 0 = ap (λ (n : ℕ). get_or bytes n 0) (add-zero a) in
      omega arith

  pub sum_is_word : Word a bytes (b0 + 256 * (b1 + 256 * (b2 + 256 * (b3 + 256 * (b4 + 256 * (b5 + 256 * (b6 + 256 * b7)))))))
  sum_is_word = record {
    small = omega (arith, small a, small (a + 1), small (a + 2), small (a + 3), small (a + 4), small (a + 5), small (a + 6), small (a + 7));
    bits = λ i h.
        ap (λ (m : ℕ). bit_of m i) sum_is_digits
        ∙ digits_bit 8 (λ j. get_or bytes (a + j) 0) i (λ j. small (a + j)) (omega arith)
        ∙ sym (bit_at bytes a i);
  }

-- the lowest bit of a number of k bits
record Low (k v t : ℕ) : Type 0 where
  below : t < k
  set : bit_of v t ≡ true
  none : (i : ℕ) → i < t → bit_of v i ≡ false

odd : (v r : ℕ) → v % 2 ≡ suc r → bit_of v 0 ≡ true
odd v r e = let f : v % 2 ≡ 1 = omega arith in bit_low v ∙ rw f refl

even : (v : ℕ) → v % 2 ≡ 0 → bit_of v 0 ≡ false
even v e = bit_low v ∙ rw e refl

low_none : (v t : ℕ) → v % 2 ≡ 0 → ((i : ℕ) → i < t → bit_of (v / 2) i ≡ false) → (i : ℕ) → i < suc t → bit_of v i ≡ false
low_none v t e h zero l = even v e
low_none v t e h (suc i) l = sym (bit_half v i) ∙ h i (le_of_suc-le-suc l)

low_more : (k v r : ℕ) → v % 2 ≡ r → (t : ℕ) → (r ≡ 0 → Low k (v / 2) t) → Low (suc k) v (under r t)
low_more k v zero e t ih =
    let L = ih refl in
    record { below = omega (arith, L.below); set = sym (bit_half v t) ∙ L.set; none = low_none v t e L.none }
low_more k v (suc r) e t ih = record { below = omega arith; set = odd v r e; none = λ i h. absurd (not-suc-le-zero h) }

none_below_one : (v : ℕ) → 0 < v → v < 1 → ⊥
none_below_one v h l = omega arith

trailing : (k v : ℕ) → 0 < v → v < 2 ^ k → Low k v (count_trailing_zeros k v)
unfolding count_trailing_zeros
trailing zero v h l = absurd (none_below_one v h l)
trailing (suc k) v h l =
    low_more k v (v % 2) refl (count_trailing_zeros k (v / 2)) (λ e. trailing k (v / 2) (omega arith) (omega (arith, pow-suc 2 k)))

-- the lowest bit that is set
pub lowest_is : (v : ℕ) → 0 < v → v < 2 ^ 64 → Lowest v (trailing_zeros w64 v)
unfolding bit_of
lowest_is v h l =
    let L = bit_at-trailing_zeros w64 v h l in
    record { small = L.0; set = ap (λ (n : ℕ). eqb n 1) L.1; none = λ i k. ap (λ (n : ℕ). eqb n 1) (L.2 i k) }

-- bytes of which every bit is set
full_byte_lem : (i : ℕ) → i < 8 → bit_of 255 i ≡ true
unfolding bit_of
full_byte_lem zero h = refl
full_byte_lem (suc zero) h = refl
full_byte_lem (suc (suc zero)) h = refl
full_byte_lem (suc (suc (suc zero))) h = refl
full_byte_lem (suc (suc (suc (suc zero)))) h = refl
full_byte_lem (suc (suc (suc (suc (suc zero))))) h = refl
full_byte_lem (suc (suc (suc (suc (suc (suc zero)))))) h = refl
full_byte_lem (suc (suc (suc (suc (suc (suc (suc zero))))))) h = refl
full_byte_lem (suc (suc (suc (suc (suc (suc (suc (suc i)))))))) h = absurd (go h)
  where
    go : suc (suc (suc (suc (suc (suc (suc (suc i))))))) < 8 → ⊥
    go h = omega arith

pub full_bits : (bytes : List ℕ) (pitch : ℕ) → ((i : ℕ) → i < pitch → get_or bytes i 0 ≡ 255) → (y : ℕ) → y < pitch * 8 → bit bytes y ≡ true
unfolding bit
full_bits bytes pitch h y hy = ap (λ (v : ℕ). bit_of v (y % 8)) (h (y / 8) (in_line pitch y hy)) ∙ full_byte_lem (y % 8) (omega arith)
