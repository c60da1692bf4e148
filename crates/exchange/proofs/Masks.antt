-- The bits of words that are shifted, and a block that is turned by three swaps of masked bits.
use mathlib.Core.Path.{◌≡◌, refl, sym, ap, ap₂, ◌∙◌}
use mathlib.Core.Bool.{Bool, true, false, ◌&&◌, ◌||◌, false≢true}
use Prim.Native.Nat.{ℕ, ◌+◌, ◌-◌, ◌*◌, ◌/◌, ◌%◌, ◌^◌, ◌<◌, ◌≤◌}
use native.Mathlib.Nat.{add-zero}
use native.Mathlib.Decide.{dec_lt}
use native.Mathlib.Omega.{arith}
use borrow.Author.Tests.{ltb-true, eqb-true, le-leb, lt-leb}
use lib.Dec.{eqb, leb, ltb}
use lib.Bits.{bit_and, bit_or}
use lib.Pow.{split, shr-shr, pow_pos}
use Rattle.basics.specs.Bit.{bit_of}
use Rattle.basics.specs.Laws.Bits.{bit_and_lem, bit_or_lem, bit_block, bit_high, bit-zero}
use Rattle.basics.specs.Laws.Tests.{both}
use Rattle.basics.specs.Below.{all_below}
use Rattle.basics.specs.Laws.Below.{all_iff}
use Rattle.exchange.specs.Blocks.{Turned}

-- the bits of a number that is shifted down, cut to k bits, and shifted up
pub bit_down : (v s i : ℕ) → bit_of (v / 2 ^ s) i ≡ bit_of v (s + i)
unfolding bit_of
bit_down v s i = ap (λ (m : ℕ). eqb (m % 2) 1) (shr-shr v s i)

pub bit_cut : (v k i : ℕ) → i < k → bit_of (v % 2 ^ k) i ≡ bit_of v i
bit_cut v k i h = sym (bit_block (v / 2 ^ k) k (v % 2 ^ k) i h) ∙ ap (λ (m : ℕ). bit_of m i) (split v k)

pub bit_under : (v s i : ℕ) → i < 64 → i < s → bit_of (v * 2 ^ s % 2 ^ 64) i ≡ false
bit_under v s i h l =
    bit_cut (v * 2 ^ s) 64 i h ∙ ap (λ (m : ℕ). bit_of m i) (sym (add-zero (v * 2 ^ s))) ∙ bit_block v s 0 i l ∙ bit-zero i

pub bit_up : (v s i : ℕ) → s + i < 64 → bit_of (v * 2 ^ s % 2 ^ 64) (s + i) ≡ bit_of v i
bit_up v s i h =
    bit_cut (v * 2 ^ s) 64 (s + i) h
    ∙ ap (λ (m : ℕ). bit_of m (s + i)) (sym (add-zero (v * 2 ^ s)))
    ∙ bit_high v s 0 i (pow_pos s)

-- just one of three tests is passed
one : Bool → Bool → Bool → Bool
one true false false = true
one false true false = true
one false false true = true
one true true p = false
one true false true = false
one false true true = false
one false false false = false

-- a test beside one that is not passed
pub or_none : (x y : Bool) → y ≡ false → (x || y) ≡ x
or_none true y e = refl
or_none false y e = e

-- where a bit comes from: it stays at i, or comes from j or l
place : Bool → Bool → ℕ → ℕ → ℕ → ℕ
place true p i j l = i
place false true i j l = l
place false false i j l = j

choose : (f : ℕ → Bool) (k u p : Bool) (i j l : ℕ) → one k u p ≡ true → (((k && f i) || (u && f j)) || (p && f l)) ≡ f (place k p i j l)
unfolding one place
choose f true false false i j l t = or_none (f i || false) false refl ∙ or_none (f i) false refl
choose f false true false i j l t = or_none (f j) false refl
choose f false false true i j l t = refl
choose f true true p i j l t = absurd (false≢true t)
choose f true false true i j l t = absurd (false≢true t)
choose f false true true i j l t = absurd (false≢true t)
choose f false false false i j l t = absurd (false≢true t)

module _ (keep part by : ℕ) where
  -- v with the bits of part swapped with those that stand above them
  abbrev pub swapped : ℕ → ℕ
  swapped v = bit_or (bit_or (bit_and keep v) (bit_and part v * 2 ^ by % 2 ^ 64)) (bit_and part (v / 2 ^ by))

  -- bit i stands above a bit of part
  above : ℕ → Bool
  above i = leb by i && bit_of part (i - by)

  -- where bit i comes from
  pub source : ℕ → ℕ
  source i = place (bit_of keep i) (bit_of part i) i (i - by) (by + i)

  -- it comes from one place, which is a bit of the word
  pub sound : ℕ → Bool
  sound i = one (bit_of keep i) (above i) (bit_of part i) && ltb (source i) 64

  above_bit : (v i : ℕ) → i < 64 → Dec (i < by) → bit_of (bit_and part v * 2 ^ by % 2 ^ 64) i ≡ (above i && bit_of v (i - by))
  unfolding above
  above_bit v i h (yes l) = bit_under (bit_and part v) by i h l ∙ rw (lt-leb by i l) refl
  above_bit v i h (no g) =
      let l : by ≤ i = omega (arith, g) in
      let e : by + (i - by) ≡ i = omega arith in
      ap (bit_of (bit_and part v * 2 ^ by % 2 ^ 64)) (sym e)
      ∙ bit_up (bit_and part v) by (i - by) (omega arith)
      ∙ bit_and_lem part v (i - by)
      ∙ rw (le-leb by i l) refl

  -- where the masks are sound, each bit is that of its source
  module _ (checked : all_below 64 sound ≡ true) where
    pub swapped_bit : (v i : ℕ) → i < 64 → bit_of (swapped v) i ≡ bit_of v (source i)
    unfolding source sound
    swapped_bit v i h =
        bit_or_lem (bit_or (bit_and keep v) (bit_and part v * 2 ^ by % 2 ^ 64)) (bit_and part (v / 2 ^ by)) i
        ∙ ap₂ ◌||◌
        (bit_or_lem (bit_and keep v) (bit_and part v * 2 ^ by % 2 ^ 64) i ∙ ap₂ ◌||◌ (bit_and_lem keep v i) (above_bit v i h (dec_lt i by)))
        (bit_and_lem part (v / 2 ^ by) i ∙ ap (λ (b : Bool). bit_of part i && b) (bit_down v by i))
        ∙ choose (bit_of v) (bit_of keep i) (above i) (bit_of part i) i (i - by) (by + i) (both _ _ ((all_iff 64 sound).0 checked i h)).0

    pub source_below : (i : ℕ) → i < 64 → source i < 64
    unfolding sound
    source_below i h = ltb-true _ 64 (both (one (bit_of keep i) (above i) (bit_of part i)) _ ((all_iff 64 sound).0 checked i h)).1

-- the three swaps of a block
abbrev pub ones : ℕ → ℕ
ones = swapped 0xAA55AA55AA55AA55 0x00AA00AA00AA00AA 7

abbrev pub twos : ℕ → ℕ
twos = swapped 0xCCCC3333CCCC3333 0x0000CCCC0000CCCC 14

abbrev pub fours : ℕ → ℕ
fours = swapped 0xF0F0F0F00F0F0F0F 0x00000000F0F0F0F0 28

sound_ones : all_below 64 (sound 0xAA55AA55AA55AA55 0x00AA00AA00AA00AA 7) ≡ true
unfolding all_below sound source above one place bit_of
sound_ones = refl

sound_twos : all_below 64 (sound 0xCCCC3333CCCC3333 0x0000CCCC0000CCCC 14) ≡ true
unfolding all_below sound source above one place bit_of
sound_twos = refl

sound_fours : all_below 64 (sound 0xF0F0F0F00F0F0F0F 0x00000000F0F0F0F0 28) ≡ true
unfolding all_below sound source above one place bit_of
sound_fours = refl

-- where the three together take a bit from
first : ℕ → ℕ
first i = source 0xAA55AA55AA55AA55 0x00AA00AA00AA00AA 7 (source 0xCCCC3333CCCC3333 0x0000CCCC0000CCCC 14 (source 0xF0F0F0F00F0F0F0F 0x00000000F0F0F0F0 28 i))

across : ℕ → Bool
across i = eqb (first i) (i % 8 * 8 + i / 8)

first_across : all_below 64 across ≡ true
unfolding all_below across first source place bit_of
first_across = refl

-- they turn the block
pub swaps_turn : {v a b w : ℕ} → a ≡ ones v → b ≡ twos a → w ≡ fours b → Turned v w
unfolding across first
swaps_turn {v} {a} {b} {w} ea eb ew = record { bits = turn }
  where
    turn : (i j : ℕ) → i < 8 → j < 8 → bit_of w (j * 8 + i) ≡ bit_of v (i * 8 + j)
    turn i j hi hj =
        let m = j * 8 + i in
        let h : m < 64 = omega arith in
        let k = source 0xF0F0F0F00F0F0F0F 0x00000000F0F0F0F0 28 m in
        let l = source 0xCCCC3333CCCC3333 0x0000CCCC0000CCCC 14 k in
        let h2 = source_below _ _ _ sound_fours m h in
        let h3 = source_below _ _ _ sound_twos k h2 in
        let e : m % 8 * 8 + m / 8 ≡ i * 8 + j = omega arith in
        ap (λ (n : ℕ). bit_of n m) ew
        ∙ swapped_bit _ _ _ sound_fours b m h
        ∙ ap (λ (n : ℕ). bit_of n k) eb
        ∙ swapped_bit _ _ _ sound_twos a k h2
        ∙ ap (λ (n : ℕ). bit_of n l) ea
        ∙ swapped_bit _ _ _ sound_ones v l h3
        ∙ ap (bit_of v) (eqb-true _ _ ((all_iff 64 across).0 first_across m h) ∙ e)
