-- The bytes of a line and the bits of a word.
use mathlib.Core.Path.{◌≡◌, refl, sym, ap, ◌∙◌}
use mathlib.Core.Bool.{Bool, cond}
use mathlib.Core.List.{List, [], ◌∷◌}
use Prim.Native.Nat.{ℕ, zero, suc, ◌+◌, ◌*◌, ◌/◌, ◌%◌, ◌^◌, ◌≤◌, ◌<◌}
use native.Mathlib.Omega.{arith}
use borrow.Author.Count.{below_more}
use borrow.Author.Tests.{lt-ltb}
use lib.Dec.{ltb}
use lib.ListN.{length, get_or, set, length-set}
use lib.Seq.{get_or-set_same, get_or-set_other}
use Rattle.std.specs.Int.{w32, from_le_bytes, to_le_bytes}
use Rattle.std.proofs.lemmas.Nat.{le_bytes_4}
use Rattle.basics.specs.Bit.{bit_of}
use Rattle.planes.specs.Plane.{cell}
use Rattle.planes.specs.Lines.{Laid, Made}
use Rattle.basics.specs.Laws.Bits.{bit_shift, bit_low_byte}
use Rattle.planes.specs.Laws.Lines.{line_bit}
use Rattle.planes.specs.Laws.Planes.{made_more}
use Rattle.narrow.specs.Words.{Joins, test, byte_of}

-- the bits of the bytes of a word
word_bit : (v y : ℕ) → bit_of (byte_of v (y / 8)) (y % 8) ≡ bit_of v y
word_bit v y =
    let e : y / 8 * 8 + y % 8 ≡ y = omega arith in
    bit_low_byte (v / 2 ^ (y / 8 * 8)) (y % 8) (omega arith) ∙ bit_shift v (y / 8 * 8) (y % 8) ∙ ap (bit_of v) e

-- the bytes of a word, the lowest first
pub word_byte : (v j : ℕ) → j < 4 → get_or (to_le_bytes w32 v) j 0 ≡ byte_of v j
word_byte v zero h = let e : v / 1 ≡ v = omega arith in ap (λ (m : ℕ). m % 256) (sym e)
word_byte v (suc zero) h = refl
word_byte v (suc (suc zero)) h = refl
word_byte v (suc (suc (suc zero))) h = refl
word_byte v (suc (suc (suc (suc j)))) h = absurd (go h)
  where
    go : suc (suc (suc (suc j))) < 4 → ⊥
    go h = omega arith

-- the bits of a word that four bytes make
pub joined_bit : (v y : ℕ) (bytes : List ℕ) → length bytes ≡ 4 → ((i : ℕ) → get_or bytes i 0 < 256) → v ≡ from_le_bytes w32 bytes → y < 32
    → bit_of v y ≡ bit_of (get_or bytes (y / 8) 0) (y % 8)
joined_bit v y bytes len small is h =
    sym (word_bit v y)
    ∙ ap (λ (b : ℕ). bit_of b (y % 8)) (sym (word_byte v (y / 8) (omega arith)) ∙ ap (λ (l : List ℕ). get_or l (y / 8) 0) (le_bytes_4 bytes v len small is))

-- four bytes, of which the first of a line are those of a buffer
module _ (p : List ℕ) (at pitch a b c d : ℕ) where
  abbrev four : List ℕ
  four = a ∷ b ∷ c ∷ d ∷ []

  abbrev here : ℕ → ℕ
  here j = cond (ltb j pitch) (get_or p (at + j) 0) 0

  pub four_same : a ≡ here 0 → b ≡ here 1 → c ≡ here 2 → d ≡ here 3 → pitch ≤ 4 → (j : ℕ) → j < pitch → get_or four j 0 ≡ get_or p (at + j) 0
  four_same ea eb ec ed l j h = of j h (λ i e. ap (λ (t : Bool). cond t (get_or p (at + i) 0) 0) (lt-ltb i pitch e))
    where
      of : (j : ℕ) → j < pitch → ((i : ℕ) → i < pitch → here i ≡ get_or p (at + i) 0) → get_or four j 0 ≡ get_or p (at + j) 0
      of zero h e = ea ∙ e 0 h
      of (suc zero) h e = eb ∙ e 1 h
      of (suc (suc zero)) h e = ec ∙ e 2 h
      of (suc (suc (suc zero))) h e = ed ∙ e 3 h
      of (suc (suc (suc (suc j)))) h e = absurd (beyond h)
        where
          beyond : suc (suc (suc (suc j))) < pitch → ⊥
          beyond h = omega (arith, l)

  pub four_small : a < 256 → b < 256 → c < 256 → d < 256 → (i : ℕ) → get_or four i 0 < 256
  four_small ha hb hc hd zero = ha
  four_small ha hb hc hd (suc zero) = hb
  four_small ha hb hc hd (suc (suc zero)) = hc
  four_small ha hb hc hd (suc (suc (suc zero))) = hd
  four_small ha hb hc hd (suc (suc (suc (suc i)))) = omega arith

-- one more line is laid
pub lay_more : (words : List ℕ) (pitch to x : ℕ) (a l m : List ℕ) → Made (test words) pitch to x a l
    → Laid (byte_of (get_or words x 0)) (to + x * pitch) pitch l m → Made (test words) pitch to (x + 1) a m
lay_more words pitch to x a l m M L =
    made_more (test words) pitch to x a l m M L.len L.under L.over
    (λ y h. line_bit (byte_of (get_or words x 0)) (to + x * pitch) pitch m L.inside y h ∙ word_bit (get_or words x 0) y)

-- the first x words are lines of a plane
pub record Read (bytes : List ℕ) (from pitch x : ℕ) (words : List ℕ) : Type 0 where
  pub len : length words ≡ 32
  pub is : (i y : ℕ) → i < x → y < pitch * 8 → test words i y ≡ cell bytes from pitch i y

pub read_more : (bytes : List ℕ) (from pitch x v : ℕ) (words : List ℕ) → Read bytes from pitch x words → x < pitch * 8 → pitch ≤ 4
    → Joins bytes (from + x * pitch) pitch v → Read bytes from pitch (x + 1) (set words x v)
read_more bytes from pitch x v words R h w J = record {
  len = length-set words x v ∙ R.len;
  is = λ i y hi hy. below_more (λ (n : ℕ). test (set words x v) n y ≡ cell bytes from pitch n y) x
      (λ n l. ap (λ (c : ℕ). bit_of c y) (get_or-set_other words x n v 0 (λ e. omega arith)) ∙ R.is n y l hy)
      (ap (λ (c : ℕ). bit_of c y) (get_or-set_same words x v 0 (omega (arith, R.len))) ∙ J y hy)
      i hi;
}
