-- Operations on the bits of a byte; a line that is made bit by bit.
use Rattle.std.specs.Prelude.{◌≡◌, refl, Bool, true, false, not, ◌||◌, List, ◌⊎◌, ℕ, zero, suc, ◌+◌, ◌-◌, ◌*◌, ◌/◌, ◌%◌, ◌^◌, ◌≤◌, ◌<◌, eqb, length, get_or, set, replicate}
use Rattle.std.proofs.Common.{sym, ap, ◌∙◌, inl, inr, not-suc-le-zero, le_of_suc-le-suc, arith, below_more, eqb-true}
use Rattle.std.proofs.Math.Bool.{or-true, or-false}
use Rattle.std.proofs.lemmas.List.{set-get_or}
use Rattle.std.specs.Int.Bits.{bit_or, bit_xor, or_zero_r}
use Rattle.std.proofs.lemmas.Nat.{xor_shr, xor_mod}
use Rattle.basics.specs.Bit.{bit_of}
use Rattle.planes.specs.Plane.{bit}
use Rattle.planes.specs.Laws.Lines.{no_bit}
use Rattle.basics.specs.Laws.Bits.{bit_and_lem, bit_or_lem, bit_not, bit-zero, bit_block, bit_high, digit_cases}
use Rattle.planes.specs.Laws.StoredBit.{bit_set}
use Rattle.lines.specs.declared.Op.{Op}
use Rattle.lines.specs.declared.Op.TheVariants.{Not, And, Or}
use Rattle.lines.specs.Shapes.{op_bool, op_byte, full_byte, weight_if, bit_byte, Line, Pushed}

pub full_bit : (t : Bool) (i : ℕ) → i < 8 → bit_of (full_byte t) i ≡ t
full_bit true i h = bit_not 8 0 i (omega arith) h ∙ ap not (bit-zero i)
full_bit false i h = bit-zero i

flip_digit : (d e : ℕ) → (d ≡ 0) ⊎ (d ≡ 1) → e ≡ 1 → eqb (bit_xor d e) 1 ≡ not (eqb d 1)
flip_digit d e (inl p) q = rw (p, q) refl
flip_digit d e (inr p) q = rw (p, q) refl

bit_flip : (a i : ℕ) → i < 8 → bit_of (bit_xor a 255) i ≡ not (bit_of a i)
unfolding bit_of
bit_flip a i h =
    ap (λ (m : ℕ). eqb (m % 2) 1) (xor_shr a 255 i)
    ∙ ap (λ (m : ℕ). eqb m 1) (xor_mod (a / 2 ^ i) (255 / 2 ^ i) 1)
    ∙ flip_digit (a / 2 ^ i % 2) (255 / 2 ^ i % 2) (digit_cases (a / 2 ^ i)) (eqb-true (255 / 2 ^ i % 2) 1 (full_bit true i h))

-- an operation at a bit of a byte
pub op_bit : (o : Op) (a b i : ℕ) → i < 8 → bit_of (op_byte o a b) i ≡ op_bool o (bit_of a i) (bit_of b i)
op_bit Not a b i h = bit_flip a i h
op_bit And a b i h = bit_and_lem a b i
op_bit Or a b i h = bit_or_lem a b i

-- the three lowest bits of a number are bits of three bytes
abbrev Low : ℕ → Type 0
Low t = (bit_of 170 t ≡ bit_of t 0) × (bit_of 204 t ≡ bit_of t 1) × (bit_of 240 t ≡ bit_of t 2)

low_bytes : (t : ℕ) → t < 8 → Low t
unfolding bit_of
low_bytes =
    more 7 (more 6 (more 5 (more 4 (more 3 (more 2 (more 1 (more 0 (λ m h. absurd (not-suc-le-zero h)) same) same) same) same) same) same) same) same
  where
    more : (n : ℕ) → ((m : ℕ) → m < n → Low m) → Low n → (m : ℕ) → m < n + 1 → Low m
    more = below_more Low

    same : {a b c : Bool} → (a ≡ a) × (b ≡ b) × (c ≡ c)
    same = (refl, refl, refl)

-- the tests of a byte of the line that tests bit i
pub byte_tests : (i j t : ℕ) → t < 8 → bit_of (bit_byte i j) t ≡ bit_of (j * 8 + t) i
byte_tests zero j t h = (low_bytes t h).0 ∙ sym (bit_block j 3 t 0 (omega arith))
byte_tests (suc zero) j t h = (low_bytes t h).1 ∙ sym (bit_block j 3 t 1 (omega arith))
byte_tests (suc (suc zero)) j t h = (low_bytes t h).2 ∙ sym (bit_block j 3 t 2 (omega arith))
byte_tests (suc (suc (suc i))) j t h =
    let e : 3 + i ≡ suc (suc (suc i)) = omega arith in
    full_bit (bit_of j i) t h ∙ sym (bit_high j 3 t i h) ∙ ap (bit_of (j * 8 + t)) e

pub high_byte : (i j : ℕ) → 2 < i → full_byte (bit_of j (i - 3)) ≡ bit_byte i j
high_byte zero j h = absurd (not-suc-le-zero h)
high_byte (suc zero) j h = absurd (not-suc-le-zero (le_of_suc-le-suc h))
high_byte (suc (suc zero)) j h = absurd (not-suc-le-zero (le_of_suc-le-suc (le_of_suc-le-suc h)))
high_byte (suc (suc (suc i))) j h = let e : suc (suc (suc i)) - 3 ≡ i = omega arith in ap (λ (m : ℕ). full_byte (bit_of j m)) e

-- and of a bit of that line
pub bit_tests : (i z : ℕ) → bit_of (bit_byte i (z / 8)) (z % 8) ≡ bit_of z i
bit_tests i z = let e : z / 8 * 8 + z % 8 ≡ z = omega arith in byte_tests i (z / 8) (z % 8) (omega arith) ∙ ap (λ (m : ℕ). bit_of m i) e

-- the first z bits of a line are f, and the others are not set
pub record Upto (f : ℕ → Bool) (z : ℕ) (r : List ℕ) : Type 0 where
  pub done : (y : ℕ) → y < z → bit r y ≡ f y
  pub blank : (y : ℕ) → z ≤ y → bit r y ≡ false

pub upto_none : (f : ℕ → Bool) → Upto f 0 (replicate 128 0)
upto_none f = record { done = λ y h. absurd (not-suc-le-zero h); blank = λ y h. no_bit 128 y }

pub upto_more : (f : ℕ → Bool) (z : ℕ) (r e : List ℕ) (t : Bool) → Upto f z r → Pushed z t r e → t ≡ f z → Upto f (z + 1) e
upto_more f z r e t U P q = record {
  done = below_more (λ (y : ℕ). bit e y ≡ f y) z
      (λ y h. P.others y (λ s. omega arith) ∙ U.done y h)
      (P.here ∙ ap (λ (b : Bool). b || t) (U.blank z (omega arith)) ∙ q);
  blank = λ y h. P.others y (λ s. omega arith) ∙ U.blank y (omega arith);
}

-- the line is done
pub upto_all : (f : ℕ → Bool) (z n : ℕ) (r : List ℕ) → z ≡ n → Upto f z r → Line f n r
upto_all f z n r e U = record { is = λ y h. U.done y (omega arith) }

-- the store that sets bit z where t is true
pub pushed : (r : List ℕ) (z : ℕ) (t : Bool) → z / 8 < length r → Pushed z t r (set r (z / 8) (bit_or (get_or r (z / 8) 0) (weight_if t (z % 8))))
pushed r z true h =
    let s = bit_set r z (z / 8) (z % 8) refl refl h in
    record { here = s.here ∙ sym (or-true (bit r z)); others = s.others }
pushed r z false h =
    let e : set r (z / 8) (bit_or (get_or r (z / 8) 0) 0) ≡ r =
    ap (λ (b : ℕ). set r (z / 8) b) (or_zero_r (get_or r (z / 8) 0)) ∙ set-get_or r (z / 8) 0 in
    record { here = ap (λ (l : List ℕ). bit l z) e ∙ sym (or-false (bit r z)); others = λ m n. ap (λ (l : List ℕ). bit l m) e }
