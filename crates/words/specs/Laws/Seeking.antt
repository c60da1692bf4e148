-- A turn of the search for a state of a line.
use Rattle.std.specs.Prelude.{◌≡◌, refl, Bool, true, false, not, ◌&&◌, List, Option, None, Some, ℕ, ◌+◌, ◌-◌, ◌*◌, ◌/◌, ◌%◌, ◌^◌, ◌<◌, ◌≤◌, length, take}
use Rattle.std.proofs.Common.{sym, ap, ap₂, subst, ◌∙◌, arith}
use Rattle.std.proofs.lemmas.Bool.{false≢true}
use Rattle.std.proofs.Math.Decide.{dec_lt}
use Rattle.std.specs.Int.Bits.{bit_and}
use Rattle.std.specs.List.{between}
use Rattle.std.proofs.lemmas.List.{get_or-take}
use Rattle.std.proofs.lemmas.List.Edits.{get_or-between}
use Rattle.planes.specs.Laws.Places.{bit_at}
use Rattle.basics.specs.Bit.{bit_of}
use Rattle.planes.specs.Plane.{bit}
use Rattle.basics.specs.Laws.Bits.{bit_shift, bit-zero, bit_above, bit_and_lem, bit_not}
use Rattle.basics.specs.Laws.Tests.{not_both, and_left}
use Rattle.words.specs.Words.{Word, Lowest, Lacks, FirstAt, First, Spent, StateOf, Open}

-- the bits of a part of a buffer
pub part_bit : (bytes : List ℕ) (a e y : ℕ) → y < (e - a) * 8 → bit (between a e bytes) y ≡ bit bytes (a * 8 + y)
unfolding bit
part_bit bytes a e y h =
    ap (λ (v : ℕ). bit_of v (y % 8)) (get_or-between bytes a e (y / 8) 0 (omega arith)) ∙ sym (bit_at bytes a y)

pub front_bit : (bytes : List ℕ) (n y : ℕ) → y < n * 8 → bit (take n bytes) y ≡ bit bytes y
unfolding bit
front_bit bytes n y h = ap (λ (v : ℕ). bit_of v (y % 8)) (get_or-take n bytes (y / 8) 0 (omega arith))

-- there is no state from k on where k is past n, and none up to n where there is none up to i and none from i on
pub lacks_none : (line : List ℕ) (k n : ℕ) → n ≤ k → Lacks line k n
lacks_none line k n h = record { none = λ j g l. absurd (omega arith) }

pub lacks_on : (line : List ℕ) (k i n : ℕ) → Lacks line k i → Lacks line i n → Lacks line k n
lacks_on line k i n S F = record { none = λ j h l. go j h l (dec_lt j i) }
  where
    go : (j : ℕ) → k ≤ j → j < n → Dec (j < i) → bit line j ≡ false
    go j h l (yes s) = S.none j h s
    go j h l (no g) = F.none j (omega (arith, g)) l

pub first_on : (line : List ℕ) (k i r : ℕ) → k ≤ i → Lacks line k i → FirstAt line i r → FirstAt line k r
first_on line k i r h S F =
    record { later = omega (arith, F.later); within = F.within; before = lacks_on line k i r S F.before; set = F.set }

pub first_later : (line : List ℕ) (k i : ℕ) → k ≤ i → Lacks line k i → (r : Option ℕ) → First line i r → First line k r
first_later line k i h S None F = lacks_on line k i (length line * 8) S F
first_later line k i h S (Some r) F = first_on line k i r h S F

-- a word of the line, of which the bits from i on are read
module _ (line : List ℕ) (i v : ℕ) (W : Word (i / 64 * 8) line v) where
  ahead : (d : ℕ) → i % 64 + d < 64 → bit line (i + d) ≡ bit_of (v / 2 ^ (i % 64)) d
  ahead d h =
      let e : i + d ≡ i / 64 * 8 * 8 + (i % 64 + d) = omega arith in
      ap (λ (n : ℕ). bit line n) e ∙ sym (W.bits (i % 64 + d) h) ∙ sym (bit_shift v (i % 64) d)

  at_ahead : (j : ℕ) → i ≤ j → j < (i / 64 + 1) * 64 → bit line j ≡ bit_of (v / 2 ^ (i % 64)) (j - i)
  at_ahead j h l =
      let e : j ≡ i + (j - i) = omega arith in
      ap (λ (n : ℕ). bit line n) e ∙ ahead (j - i) (omega arith)

  -- none where the rest of the word is zero
  pub word_lacks : v / 2 ^ (i % 64) ≡ 0 → Lacks line i ((i / 64 + 1) * 64)
  word_lacks z = record { none = λ j h l. at_ahead j h l ∙ ap (λ (n : ℕ). bit_of n (j - i)) z ∙ bit-zero (j - i) }

  module _ (t : ℕ) (L : Lowest (v / 2 ^ (i % 64)) t) where
    inside : Dec (i % 64 + t < 64) → i % 64 + t < 64
    inside (yes h) = h
    inside (no g) = not_both (sym (bit_shift v (i % 64) t) ∙ L.set) (bit_above 64 v (i % 64 + t) W.small (omega arith))

    near : i % 64 + t < 64
    near = inside (dec_lt (i % 64 + t) 64)

    -- none lies below its lowest bit, also where the word ends behind the line
    pub word_before : Lacks line i (i + t)
    word_before = record { none = λ j g l. at_ahead j g (omega (arith, near)) ∙ L.none (j - i) (omega arith) }

    pub word_found : i / 64 * 8 + 8 ≤ length line → FirstAt line i (i + t)
    word_found h = record {
      later = omega arith;
      within = omega (arith, near);
      before = word_before;
      set = ahead t near ∙ L.set;
    }

-- the same where a word begins with the state
module _ (line : List ℕ) (j v : ℕ) (W : Word (j * 8) line v) where
  whole : Word (j * 64 / 64 * 8) line v
  whole = let e : j * 8 ≡ j * 64 / 64 * 8 = omega arith in subst (λ (n : ℕ). Word n line v) e W

  unshifted : v / 2 ^ (j * 64 % 64) ≡ v
  unshifted =
      let e : j * 64 % 64 ≡ 0 = omega arith in
      let f : v / 1 ≡ v = omega arith in
      ap (λ (n : ℕ). v / 2 ^ n) e ∙ f

  pub whole_lacks : v ≡ 0 → Lacks line (j * 64) ((j + 1) * 64)
  whole_lacks z =
      let e : (j * 64 / 64 + 1) * 64 ≡ (j + 1) * 64 = omega arith in
      subst (Lacks line (j * 64)) e (word_lacks line (j * 64) v whole (unshifted ∙ z))

  pub whole_before : (t : ℕ) → Lowest v t → Lacks line (j * 64) (j * 64 + t)
  whole_before t L = word_before line (j * 64) v whole t (subst (λ (n : ℕ). Lowest n t) (sym unshifted) L)

  pub whole_found : (t : ℕ) → Lowest v t → j * 8 + 8 ≤ length line → FirstAt line (j * 64) (j * 64 + t)
  whole_found t L h = word_found line (j * 64) v whole t (subst (λ (n : ℕ). Lowest n t) (sym unshifted) L) (omega arith)

-- three words, and the states of the first that are in the second and not in the third
module _ (line done among : List ℕ) (j u v w : ℕ) (U : Word j line u) (A : Word j among v) (W : Word j done w) where
  open_bit : (i : ℕ) → i < 64 → bit_of (bit_and (bit_and u v) ((2 ^ 64 - 1) - w)) i ≡ ((bit line (j * 8 + i) && bit among (j * 8 + i)) && not (bit done (j * 8 + i)))
  open_bit i h =
      bit_and_lem (bit_and u v) ((2 ^ 64 - 1) - w) i
      ∙ ap₂ (λ (s t : Bool). s && t)
      (bit_and_lem u v i ∙ ap₂ (λ (s t : Bool). s && t) (U.bits i h) (A.bits i h))
      (bit_not 64 w i W.small h ∙ ap not (W.bits i h))

  done_too : (s t d : Bool) → ((s && t) && not d) ≡ false → s ≡ true → t ≡ true → d ≡ true
  done_too true true true e p q = refl
  done_too true true false e p q = sym e
  done_too true false d e p q = absurd (false≢true q)
  done_too false t d e p q = absurd (false≢true p)

  pub spent_more : bit_and (bit_and u v) ((2 ^ 64 - 1) - w) ≡ 0 → Spent line done among (j * 8) → Spent line done among ((j + 8) * 8)
  spent_more z S = record { done_too = λ i h. go i h (dec_lt i (j * 8)) }
    where
      go : (i : ℕ) → i < (j + 8) * 8 → Dec (i < j * 8) → bit line i ≡ true → bit among i ≡ true → bit done i ≡ true
      go i h (yes l) = S.done_too i l
      go i h (no g) =
          let e : j * 8 + (i - j * 8) ≡ i = omega arith in
          subst (λ (n : ℕ). bit line n ≡ true → bit among n ≡ true → bit done n ≡ true) e
          (done_too _ _ _ (sym (open_bit (i - j * 8) (omega arith)) ∙ ap (λ (n : ℕ). bit_of n (i - j * 8)) z ∙ bit-zero (i - j * 8)))

  pub open_found : (pitch t : ℕ) → j + 8 ≤ pitch → Lowest (bit_and (bit_and u v) ((2 ^ 64 - 1) - w)) t → StateOf line pitch (j * 8 + t)
  open_found pitch t h L = record {
    within = omega (arith, L.small);
    set = and_left _ _ (and_left _ _ (sym (open_bit t L.small) ∙ L.set));
  }

pub open_none : (line done among : List ℕ) (pitch j : ℕ) → Spent line done among (j * 8) → pitch ≤ j → Open line done among pitch None
open_none line done among pitch j S h = record { done_too = λ i hi. S.done_too i (omega arith) }

pub open_is : (line done among : List ℕ) (pitch r : ℕ) → r < pitch * 8 → bit line r ≡ true → Open line done among pitch (Some r)
open_is line done among pitch r h t = record { within = h; set = t }
