-- The bits of bytes that stay, of a line, and of a plane beside it.
use Rattle.std.specs.Prelude.{◌≡◌, refl, Bool, false, ◌||◌, List, ◌⊎◌, ℕ, zero, suc, ◌+◌, ◌*◌, ◌/◌, ◌%◌, ◌≤◌, ◌<◌, eqb, get_or, replicate}
use Rattle.std.proofs.Common.{sym, ap, ◌∙◌, inl, inr, arith, eq-eqb, ne_eqb}
use Rattle.std.proofs.Math.Decide.{ℕ_discrete, dec_lt}
use Rattle.std.specs.Int.Bits.{bit_or}
use Rattle.basics.specs.Bit.{bit_of}
use Rattle.planes.specs.Plane.{bit, cell, plane_size}
use Rattle.planes.specs.Lines.{BitSet, Laid, Cleared, Put, Ored, Loaded}
use Rattle.basics.specs.Laws.Bits.{bit_or_lem, bit-zero}
use Rattle.planes.specs.Laws.Places.{bit_at, line_before, in_line}

-- bytes that are zero, and their bits
pub no_byte : (n j : ℕ) → get_or {A = ℕ} (replicate n 0) j 0 ≡ 0
no_byte zero j = refl
no_byte (suc n) zero = refl
no_byte (suc n) (suc j) = no_byte n j

pub no_bit : (n y : ℕ) → bit (replicate n 0) y ≡ false
unfolding bit
no_bit n y = ap (λ (c : ℕ). bit_of c (y % 8)) (no_byte n (y / 8)) ∙ bit-zero (y % 8)

-- one bit that was set
pub set_bit : (k m : ℕ) (a b : List ℕ) → BitSet k a b → bit b m ≡ (eqb m k || bit a m)
set_bit k m a b S = go (ℕ_discrete m k)
  where
    go : Dec (m ≡ k) → bit b m ≡ (eqb m k || bit a m)
    go (yes e) = ap (bit b) e ∙ S.here ∙ ap (λ (x : Bool). x || bit a m) (sym (eq-eqb m k e))
    go (no e) = S.others m e ∙ ap (λ (x : Bool). x || bit a m) (sym (ne_eqb m k e))

-- the bits of a line of which each byte is f of its number
module _ (f : ℕ → ℕ) (at pitch : ℕ) (b : List ℕ) (is : (j : ℕ) → j < pitch → get_or b (at + j) 0 ≡ f j) where
  pub line_bit : (y : ℕ) → y < pitch * 8 → bit b (at * 8 + y) ≡ bit_of (f (y / 8)) (y % 8)
  line_bit y h = bit_at b at y ∙ ap (λ (v : ℕ). bit_of v (y % 8)) (is (y / 8) (in_line pitch y h))

-- the bits of a line that stayed
pub line_kept : (at pitch : ℕ) (a b : List ℕ) → ((j : ℕ) → j < pitch → get_or b (at + j) 0 ≡ get_or a (at + j) 0) → (y : ℕ) → y < pitch * 8 → bit b (at * 8 + y) ≡ bit a (at * 8 + y)
line_kept at pitch a b h y hy = line_bit (λ j. get_or a (at + j) 0) at pitch b h y hy ∙ sym (bit_at a at y)

-- the bits of a line that was copied, stored, ORed, cleared
pub loaded_bit : (at pitch : ℕ) (a line : List ℕ) → Loaded at pitch a line → (y : ℕ) → y < pitch * 8 → bit line y ≡ bit a (at * 8 + y)
unfolding bit
loaded_bit at pitch a line L y h = ap (λ (v : ℕ). bit_of v (y % 8)) (L.same (y / 8) (in_line pitch y h)) ∙ sym (bit_at a at y)

pub put_bit : (line : List ℕ) (at pitch : ℕ) (a b : List ℕ) → Put line at pitch a b → (y : ℕ) → y < pitch * 8 → bit b (at * 8 + y) ≡ bit line y
unfolding bit
put_bit line at pitch a b P y h = line_bit (λ j. get_or line j 0) at pitch b P.inside y h

pub ored_bit : (line : List ℕ) (at pitch : ℕ) (a b : List ℕ) → Ored line at pitch a b → (y : ℕ) → y < pitch * 8 → bit b (at * 8 + y) ≡ (bit a (at * 8 + y) || bit line y)
unfolding bit
ored_bit line at pitch a b O y h =
    line_bit (λ j. bit_or (get_or a (at + j) 0) (get_or line j 0)) at pitch b O.inside y h
    ∙ bit_or_lem (get_or a (at + y / 8) 0) (get_or line (y / 8) 0) (y % 8)
    ∙ ap (λ (t : Bool). t || bit line y) (sym (bit_at a at y))

pub cleared_bit : (at pitch : ℕ) (a b : List ℕ) → Cleared at pitch a b → (y : ℕ) → y < pitch * 8 → bit b (at * 8 + y) ≡ false
cleared_bit at pitch a b C y h = line_bit (λ j. 0) at pitch b C.inside y h ∙ bit-zero (y % 8)

-- a plane whose bytes stayed
module _ (base pitch : ℕ) (a b : List ℕ) (stayed : (m : ℕ) → base ≤ m → m < base + plane_size pitch → get_or b m 0 ≡ get_or a m 0) where
  pub plane_kept : (x y : ℕ) → x < pitch * 8 → y < pitch * 8 → cell b base pitch x y ≡ cell a base pitch x y
  plane_kept x y hx hy =
      line_kept (base + x * pitch) pitch a b (λ j hj. stayed (base + x * pitch + j) (omega arith) (omega (arith, line_before x (pitch * 8) pitch hx))) y hy

-- a plane that shares no byte with the n bytes from at on, outside of which nothing changed
module _ (at n : ℕ) (a b : List ℕ) (under : (m : ℕ) → m < at → get_or b m 0 ≡ get_or a m 0) (over : (m : ℕ) → at + n ≤ m → get_or b m 0 ≡ get_or a m 0) where
  pub plane_apart : (base pitch : ℕ) → (base + plane_size pitch ≤ at) ⊎ (at + n ≤ base) → (x y : ℕ) → x < pitch * 8 → y < pitch * 8 → cell b base pitch x y ≡ cell a base pitch x y
  plane_apart base pitch (inl h) = plane_kept base pitch a b (λ m lo hi. under m (omega arith))
  plane_apart base pitch (inr h) = plane_kept base pitch a b (λ m lo hi. over m (omega arith))

-- the other lines of a plane, where one line was laid
pub line_apart : (f : ℕ → ℕ) (base pitch i : ℕ) (a b : List ℕ) → Laid f (base + i * pitch) pitch a b → (x y : ℕ) → (x ≡ i → ⊥) → y < pitch * 8 → cell b base pitch x y ≡ cell a base pitch x y
line_apart f base pitch i a b P x y ne hy = line_kept (base + x * pitch) pitch a b (go (dec_lt x i)) y hy
  where
    go : Dec (x < i) → (j : ℕ) → j < pitch → get_or b (base + x * pitch + j) 0 ≡ get_or a (base + x * pitch + j) 0
    go (yes h) j hj = P.under (base + x * pitch + j) (omega (arith, line_before x i pitch h))
    go (no g) j hj =
        let h : i < x = omega (arith, ne) in
        P.over (base + x * pitch + j) (omega (arith, line_before i x pitch h))
