-- Laws of patterns, over the width.
use borrow.Author.Tests.{eqb-true, ltb-true}
use Rattle.std.specs.Prelude.{◌≡◌, Bool, not, ◌↔◌, eqb, ltb}
use Rattle.std.proofs.Math.Path.{refl, ap, ap₂, subst}
use Rattle.std.proofs.Common.{sym, ◌∙◌, true≢false, not-suc-le-zero, pow_pos}
use Rattle.std.proofs.Math.Bool.{true, false, cond, ◌&&◌}
use Rattle.std.proofs.lemmas.Bool.{false≢true}
use Prim.Native.Nat.{ℕ, zero, suc, ◌+◌, ◌-◌, ◌*◌, ◌%◌, ◌^◌, ◌<◌}
use Rattle.std.proofs.Math.Nat.{pow-suc}
use Rattle.std.proofs.Math.Decide.{ℕ_discrete, dec_lt}
use native.Mathlib.Omega.{arith}
use Rattle.std.specs.Int.Bits.{bit_and}
use Rattle.basics.specs.Bit.{bit_of}
use Rattle.basics.specs.Laws.Bits.{bit_not, bit-zero, bit_block, bit_top, bit_above, bits_ext}
use Rattle.format.specs.Pattern.{ternary, agrees, FixedToOther, written, matches, put_bits, pattern_good}
use Rattle.format.specs.declared.Ternary.{Ternary}
use Rattle.format.specs.declared.Ternary.TheVariants.{Fixed0, Fixed1, Star}
use Rattle.basics.specs.Laws.Tests.{and_both, and_left, and_right}

other_iff : (t : Ternary) (b : Bool) → agrees t b ≡ true ↔ (FixedToOther t b → ⊥)
other_iff Fixed0 true = (λ e. absurd (false≢true e), λ f. absurd (f refl))
other_iff Fixed0 false = (λ e f. false≢true f, λ f. refl)
other_iff Fixed1 true = (λ e f. true≢false f, λ f. refl)
other_iff Fixed1 false = (λ e. absurd (false≢true e), λ f. absurd (f refl))
other_iff Star b = (λ e f. f, λ f. refl)

written_iff : (t : Ternary) (b : Bool) → (written t b ≡ b → ⊥) ↔ FixedToOther t b
written_iff Fixed0 true = (λ f. refl, λ e f. false≢true f)
written_iff Fixed0 false = (λ f. absurd (f refl), λ e. absurd (false≢true e))
written_iff Fixed1 true = (λ f. absurd (f refl), λ e. absurd (true≢false e))
written_iff Fixed1 false = (λ f. refl, λ e f. true≢false f)
written_iff Star b = (λ f. f refl, λ e. absurd e)

-- a bit by its bits of care and value
abbrev by_bits : Bool → Bool → Ternary
by_bits c v = cond c (cond v Fixed1 Fixed0) Star

fixed_value : (c v b : Bool) → FixedToOther (by_bits c v) b → written (by_bits c v) b ≡ v
fixed_value true true b o = refl
fixed_value true false b o = refl
fixed_value false v b o = absurd o

is_star : Ternary → Bool
is_star Fixed0 = false
is_star Fixed1 = false
is_star Star = true

fixed : (c v : Bool) → c ≡ true → by_bits c v ≡ Star → ⊥
unfolding is_star
fixed true true c e = false≢true (ap is_star e)
fixed true false c e = false≢true (ap is_star e)
fixed false v c e = false≢true c

full_bit : (k i : ℕ) → i < k → bit_of (2 ^ k - 1) i ≡ true
full_bit k i h =
    let e : 2 ^ k - 1 ≡ (2 ^ k - 1) - 0 = omega arith in
    ap (λ (n : ℕ). bit_of n i) e ∙ bit_not k 0 i (pow_pos k) h ∙ ap not (bit-zero i)

module _ (value care x : ℕ) where
  abbrev bit_agrees : ℕ → Bool
  bit_agrees i = agrees (ternary value care i) (bit_of x i)

  matches_at : (k i : ℕ) → i < k → matches k value care x ≡ true → agrees (ternary value care i) (bit_of x i) ≡ true
  unfolding matches
  matches_at zero i h m = absurd (not-suc-le-zero h)
  matches_at (suc k) i h m = go (ℕ_discrete i k) (λ l. matches_at k i l (and_right (bit_agrees k) (matches k value care x) m))
    where
      go : Dec (i ≡ k) → (i < k → bit_agrees i ≡ true) → bit_agrees i ≡ true
      go (yes e) ih = subst (λ (j : ℕ). bit_agrees j ≡ true) (sym e) (and_left (bit_agrees k) (matches k value care x) m)
      go (no e) ih = ih (omega (arith, e))

  matches_all : (k : ℕ) → ((i : ℕ) → i < k → agrees (ternary value care i) (bit_of x i) ≡ true) → matches k value care x ≡ true
  unfolding matches
  matches_all zero f = refl
  matches_all (suc k) f = and_both (bit_agrees k) (matches k value care x) (f k (omega arith)) (matches_all k (λ i h. f i (omega arith)))

  -- a pattern matches exactly if no bit is fixed to the other value
  pub matches_iff : (k : ℕ) → matches k value care x ≡ true ↔ ((i : ℕ) → i < k → FixedToOther (ternary value care i) (bit_of x i) → ⊥)
  matches_iff k = (
    λ m i h. (other_iff (ternary value care i) (bit_of x i)).0 (matches_at k i h m),
    λ f. matches_all k (λ i h. (other_iff (ternary value care i) (bit_of x i)).1 (f i h)),
  )

  -- the bits of the width decide
  pub matches_same : (y k : ℕ) → ((i : ℕ) → i < k → bit_of x i ≡ bit_of y i) → matches k value care x ≡ matches k value care y
  unfolding matches
  matches_same y zero f = refl
  matches_same y (suc k) f = ap₂ ◌&&◌ (ap (agrees (ternary value care k)) (f k (omega arith))) (matches_same y k (λ i h. f i (omega arith)))

  abbrev bit_written : ℕ → Bool
  bit_written i = written (ternary value care i) (bit_of x i)

  weight : (b : Bool) (k r : ℕ) → cond b (2 ^ k) 0 + r ≡ cond b 1 0 * 2 ^ k + r
  weight true k r = omega arith
  weight false k r = omega arith

  pub put_lt : (k : ℕ) → put_bits k value care x < 2 ^ k
  unfolding put_bits
  put_lt zero = omega arith
  put_lt (suc k) = go (bit_written k) (put_lt k)
    where
      go : (b : Bool) → put_bits k value care x < 2 ^ k → cond b (2 ^ k) 0 + put_bits k value care x < 2 ^ suc k
      go true h = omega (arith, pow-suc 2 k)
      go false h = omega (arith, pow-suc 2 k)

  digit : (b : Bool) → eqb (cond b 1 0 % 2) 1 ≡ b
  digit true = refl
  digit false = refl

  -- each bit after SET
  put_bit : (k i : ℕ) → i < k → bit_of (put_bits k value care x) i ≡ written (ternary value care i) (bit_of x i)
  unfolding put_bits
  put_bit zero i h = absurd (not-suc-le-zero h)
  put_bit (suc k) i h = ap (λ (m : ℕ). bit_of m i) (weight (bit_written k) k (put_bits k value care x)) ∙ go (ℕ_discrete i k) (λ l. put_bit k i l)
    where
      go : Dec (i ≡ k) → (i < k → bit_of (put_bits k value care x) i ≡ bit_written i)
          → bit_of (cond (bit_written k) 1 0 * 2 ^ k + put_bits k value care x) i ≡ bit_written i
      go (yes e) ih =
          subst (λ (j : ℕ). bit_of (cond (bit_written k) 1 0 * 2 ^ k + put_bits k value care x) j ≡ bit_written j) (sym e)
          (bit_top (cond (bit_written k) 1 0) k (put_bits k value care x) (put_lt k) ∙ digit (bit_written k))
      go (no e) ih = let l : i < k = omega (arith, e) in bit_block (cond (bit_written k) 1 0) k (put_bits k value care x) i l ∙ ih l

  -- SET changes exactly the bits fixed to the other value
  pub put_changes_iff : (k i : ℕ) → i < k → (bit_of (put_bits k value care x) i ≡ bit_of x i → ⊥) ↔ FixedToOther (ternary value care i) (bit_of x i)
  put_changes_iff k i h = (
    λ f. (written_iff (ternary value care i) (bit_of x i)).0 (λ e. f (put_bit k i h ∙ e)),
    λ o e. (written_iff (ternary value care i) (bit_of x i)).1 o (sym (put_bit k i h) ∙ e),
  )

  -- and gives these the pattern's value
  pub put_gives : (k i : ℕ) → i < k → FixedToOther (ternary value care i) (bit_of x i) → bit_of (put_bits k value care x) i ≡ bit_of value i
  unfolding ternary
  put_gives k i h o = put_bit k i h ∙ fixed_value (bit_of care i) (bit_of value i) (bit_of x i) o

-- which care has no star
module _ (k value care : ℕ) (within : care < 2 ^ k) where
  -- care has every bit of the width exactly if no bit is a star
  pub starless_iff : care ≡ 2 ^ k - 1 ↔ ((i : ℕ) → i < k → ternary value care i ≡ Star → ⊥)
  unfolding ternary
  starless_iff = (
    λ e i h. fixed (bit_of care i) (bit_of value i) (ap (λ (n : ℕ). bit_of n i) e ∙ full_bit k i h),
    λ f. bits_ext care (2 ^ k - 1) (λ i. go f i (dec_lt i k)),
  )
    where
      cared : (i : ℕ) → (ternary value care i ≡ Star → ⊥) → (c : Bool) → bit_of care i ≡ c → c ≡ true
      cared i n true e = refl
      cared i n false e = absurd (n (ap (λ (c : Bool). by_bits c (bit_of value i)) e))

      go : ((i : ℕ) → i < k → ternary value care i ≡ Star → ⊥) → (i : ℕ) → Dec (i < k) → bit_of care i ≡ bit_of (2 ^ k - 1) i
      go f i (yes h) = cared i (f i h) (bit_of care i) refl ∙ sym (full_bit k i h)
      go f i (no h) = bit_above k care i within (omega (arith, h)) ∙ sym (bit_above k (2 ^ k - 1) i (omega (arith, pow_pos k)) (omega (arith, h)))

-- what pattern_good says
module _ (k value care : ℕ) (good : pattern_good k value care ≡ true) where
  pub care-lt : care < 2 ^ k
  unfolding pattern_good
  care-lt = ltb-true care (2 ^ k) (and_left (ltb care (2 ^ k)) (eqb (bit_and value care) value) good)

  pub value_within : bit_and value care ≡ value
  unfolding pattern_good
  value_within = eqb-true (bit_and value care) value (and_right (ltb care (2 ^ k)) (eqb (bit_and value care) value) good)
