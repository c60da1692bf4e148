-- A turn of the search for a state of a line that lies within a buffer.
use Rattle.std.specs.Prelude.{◌≡◌, true, false, List, ℕ, ◌+◌, ◌-◌, ◌*◌, ◌/◌, ◌%◌, ◌^◌, ◌<◌, ◌≤◌, length}
use Rattle.std.proofs.Common.{sym, ap, subst, ◌∙◌, arith}
use Rattle.std.proofs.Math.Decide.{dec_lt}
use Rattle.std.specs.List.{between}
use Rattle.std.proofs.lemmas.List.Edits.{length-between}
use Rattle.basics.specs.Bit.{bit_of}
use Rattle.planes.specs.Plane.{bit}
use Rattle.basics.specs.Laws.Bits.{bit_shift, bit-zero, bit_above}
use Rattle.basics.specs.Laws.Tests.{not_both}
use Rattle.words.specs.Words.{Word, Lowest, Lacks, FirstAt}
use Rattle.words.specs.Laws.Seeking.{part_bit}

-- the line at a has no state from k on that is below i
pub record Sought (bytes : List ℕ) (a k i : ℕ) : Type 0 where
  pub later : k ≤ i
  pub none : (j : ℕ) → k ≤ j → j < i → bit bytes (a * 8 + j) ≡ false

-- r is the first state from k on of the line of pitch bytes at a; at least pitch * 8 where there is none
pub record FirstWithin (bytes : List ℕ) (a pitch k r : ℕ) : Type 0 where
  pub later : k ≤ r
  pub none : (i : ℕ) → k ≤ i → i < r → bit bytes (a * 8 + i) ≡ false
  pub set : r < pitch * 8 → bit bytes (a * 8 + r) ≡ true

pub sought_none : (bytes : List ℕ) (a k : ℕ) → Sought bytes a k k
sought_none bytes a k = record { later = omega arith; none = λ j h l. absurd (omega arith) }

pub sought_all : (bytes : List ℕ) (a pitch k i : ℕ) → Sought bytes a k i → pitch * 8 ≤ i → FirstWithin bytes a pitch k i
sought_all bytes a pitch k i S h = record { later = S.later; none = S.none; set = λ l. absurd (omega arith) }

module _ (bytes : List ℕ) (a k i v : ℕ) (S : Sought bytes a k i) (W : Word (a + i / 64 * 8) bytes v) where
  -- the bits of the word from i on
  ahead : (d : ℕ) → i % 64 + d < 64 → bit bytes (a * 8 + (i + d)) ≡ bit_of (v / 2 ^ (i % 64)) d
  ahead d h =
      let e : a * 8 + (i + d) ≡ (a + i / 64 * 8) * 8 + (i % 64 + d) = omega arith in
      ap (λ (n : ℕ). bit bytes n) e ∙ sym (W.bits (i % 64 + d) h) ∙ sym (bit_shift v (i % 64) d)

  -- none where the rest of the word is zero
  pub sought_more : v / 2 ^ (i % 64) ≡ 0 → Sought bytes a k ((i / 64 + 1) * 64)
  sought_more z = record { later = omega (arith, S.later); none = λ j h l. go j h l (dec_lt j i) }
    where
      go : (j : ℕ) → k ≤ j → j < (i / 64 + 1) * 64 → Dec (j < i) → bit bytes (a * 8 + j) ≡ false
      go j h l (yes s) = S.none j h s
      go j h l (no g) =
          let e : a * 8 + j ≡ a * 8 + (i + (j - i)) = omega arith in
          ap (λ (n : ℕ). bit bytes n) e
          ∙ ahead (j - i) (omega arith)
          ∙ ap (λ (n : ℕ). bit_of n (j - i)) z
          ∙ bit-zero (j - i)

  module _ (pitch t : ℕ) (L : Lowest (v / 2 ^ (i % 64)) t) where
    inside : Dec (i % 64 + t < 64) → i % 64 + t < 64
    inside (yes h) = h
    inside (no g) = not_both (sym (bit_shift v (i % 64) t) ∙ L.set) (bit_above 64 v (i % 64 + t) W.small (omega arith))

    near : i % 64 + t < 64
    near = inside (dec_lt (i % 64 + t) 64)

    pub sought_found : FirstWithin bytes a pitch k (i + t)
    sought_found = record {
      later = omega (arith, S.later);
      none = λ j h l. go j h l (dec_lt j i);
      set = λ l. ahead t near ∙ L.set;
    }
      where
        go : (j : ℕ) → k ≤ j → j < i + t → Dec (j < i) → bit bytes (a * 8 + j) ≡ false
        go j h l (yes s) = S.none j h s
        go j h l (no g) =
            let e : a * 8 + j ≡ a * 8 + (i + (j - i)) = omega arith in
            ap (λ (n : ℕ). bit bytes n) e ∙ ahead (j - i) (omega (arith, near)) ∙ L.none (j - i) (omega arith)

-- the same where a word begins at byte j of the line
module _ (bytes : List ℕ) (a k j v : ℕ) (S : Sought bytes a k (j * 8)) (W : Word (a + j) bytes v) (whole : j % 8 ≡ 0) where
  W' : Word (a + j * 8 / 64 * 8) bytes v
  W' = let e : a + j ≡ a + j * 8 / 64 * 8 = omega arith in subst (λ (n : ℕ). Word n bytes v) e W

  unshifted : v / 2 ^ (j * 8 % 64) ≡ v
  unshifted =
      let e : j * 8 % 64 ≡ 0 = omega arith in
      let f : v / 1 ≡ v = omega arith in
      ap (λ (n : ℕ). v / 2 ^ n) e ∙ f

  pub word_more : v ≡ 0 → Sought bytes a k ((j + 8) * 8)
  word_more z =
      let e : (j * 8 / 64 + 1) * 64 ≡ (j + 8) * 8 = omega arith in
      subst (Sought bytes a k) e (sought_more bytes a k (j * 8) v S W' (unshifted ∙ z))

  pub word_first : (pitch t : ℕ) → Lowest v t → FirstWithin bytes a pitch k (j * 8 + t)
  word_first pitch t L = sought_found bytes a k (j * 8) v S W' pitch t (subst (λ (n : ℕ). Lowest n t) (sym unshifted) L)

-- none before i, and then from i on
pub sought_on : (bytes : List ℕ) (a pitch k i r : ℕ) → Sought bytes a k i → FirstWithin bytes a pitch i r → FirstWithin bytes a pitch k r
sought_on bytes a pitch k i r S F = record {
  later = omega (arith, S.later, F.later);
  none = λ j h l. go j h l (dec_lt j i);
  set = F.set;
}
  where
    go : (j : ℕ) → k ≤ j → j < r → Dec (j < i) → bit bytes (a * 8 + j) ≡ false
    go j h l (yes s) = S.none j h s
    go j h l (no g) = F.none j (omega (arith, g)) l

-- the same state of the line by itself, or none
module _ (bytes : List ℕ) (a pitch k r : ℕ) (room : a + pitch ≤ length bytes) (F : FirstWithin bytes a pitch k r) where
  abbrev part : List ℕ
  part = between a (a + pitch) bytes

  size : length part ≡ pitch
  size = length-between bytes a (a + pitch) room ∙ omega arith

  pub first_of_part : r < pitch * 8 → FirstAt part k r
  first_of_part h = record {
    later = F.later;
    within = omega (arith, size);
    before = record { none = λ i g l. part_bit bytes a (a + pitch) i (omega arith) ∙ F.none i g l };
    set = part_bit bytes a (a + pitch) r (omega arith) ∙ F.set h;
  }

  pub none_of_part : pitch * 8 ≤ r → Lacks part k (length part * 8)
  none_of_part h = record { none = λ i g l. part_bit bytes a (a + pitch) i (omega (arith, size)) ∙ F.none i g (omega (arith, size)) }
