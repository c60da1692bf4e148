-- Blocks of eight by eight bits are read and written byte by byte, and a plane is exchanged block by block.
use mathlib.Core.Path.{◌≡◌, refl, sym, ap, ap₂, ◌∙◌}
use mathlib.Core.Bool.{◌||◌}
use mathlib.Core.List.{List}
use mathlib.Core.Logic.{◌⊎◌, inl, inr, ⊎_elim}
use Prim.Native.Nat.{ℕ, zero, suc, ◌+◌, ◌-◌, ◌*◌, ◌/◌, ◌%◌, ◌^◌, ◌<◌, ◌≤◌}
use native.Mathlib.Nat.{add-mul}
use native.Mathlib.Decide.{ℕ_discrete}
use native.Mathlib.Omega.{arith}
use lib.ListN.{length, get_or, set, length-set}
use lib.Seq.{get_or-set_same, get_or-set_other}
use lib.Bits.{bit_or}
use Rattle.std.specs.Int.{w64, to_le_bytes}
use Rattle.basics.specs.Bit.{bit_of}
use Rattle.planes.specs.Plane.{cell, plane_size}
use Rattle.basics.specs.Laws.Bits.{bit_or_lem, bit_above}
use Rattle.planes.specs.Laws.Places.{bit_at, line_before, same_place}
use Rattle.planes.specs.Laws.Lines.{plane_kept}
use Rattle.exchange.specs.Blocks.{Block, Turned, Spread, Blocked}
use Rattle.exchange.proofs.Masks.{bit_down, bit_cut, bit_under, bit_up, or_none}

-- v has the bits of the last of eight bytes, from the i-th on
pub record Read (a pitch : ℕ) (bytes : List ℕ) (i v : ℕ) : Type 0 where
  pub bits : (k j : ℕ) → i + k < 8 → j < 8 → bit_of v (k * 8 + j) ≡ bit_of (get_or bytes (a + (i + k) * pitch) 0) j

module _ (a pitch : ℕ) (bytes : List ℕ) where
  -- one byte more
  pub read_more : (i v b : ℕ) → 0 < i → b ≡ get_or bytes (a + (i - 1) * pitch) 0 → b < 256 → Read a pitch bytes i v
      → Read a pitch bytes (i - 1) (bit_or (v * 2 ^ 8 % 2 ^ 64) b)
  read_more i v b hi e s R = record { bits = λ k j h l. bit_or_lem (v * 2 ^ 8 % 2 ^ 64) b (k * 8 + j) ∙ go k j h l (ℕ_discrete k 0) }
    where
      go : (k j : ℕ) → i - 1 + k < 8 → j < 8 → Dec (k ≡ 0) → (bit_of (v * 2 ^ 8 % 2 ^ 64) (k * 8 + j) || bit_of b (k * 8 + j)) ≡ bit_of (get_or bytes (a + (i - 1 + k) * pitch) 0) j
      go k j h l (yes z) =
          let p : k * 8 + j ≡ j = omega arith in
          let q : i - 1 + k ≡ i - 1 = omega arith in
          rw (p, q) (ap₂ ◌||◌ (bit_under v 8 j (omega arith) l) (ap (λ (m : ℕ). bit_of m j) e))
      go k j h l (no n) =
          let p : k * 8 + j ≡ 8 + ((k - 1) * 8 + j) = omega (arith, n) in
          let q : i + (k - 1) ≡ i - 1 + k = omega (arith, n) in
          or_none _ _ (bit_above 8 b (k * 8 + j) s (omega (arith, n)))
          ∙ ap (bit_of (v * 2 ^ 8 % 2 ^ 64)) p
          ∙ bit_up v 8 ((k - 1) * 8 + j) (omega (arith, n))
          ∙ R.bits (k - 1) j (omega (arith, n)) l
          ∙ ap (λ (m : ℕ). bit_of (get_or bytes (a + m * pitch) 0) j) q

-- the bytes of a word, the lowest first
pub word_byte : (v j : ℕ) → j < 8 → get_or (to_le_bytes w64 v) j 0 ≡ v / 2 ^ (j * 8) % 256
word_byte v zero h = let e : v / 1 ≡ v = omega arith in ap (λ (m : ℕ). m % 256) (sym e)
word_byte v (suc zero) h = refl
word_byte v (suc (suc zero)) h = refl
word_byte v (suc (suc (suc zero))) h = refl
word_byte v (suc (suc (suc (suc zero)))) h = refl
word_byte v (suc (suc (suc (suc (suc zero))))) h = refl
word_byte v (suc (suc (suc (suc (suc (suc zero)))))) h = refl
word_byte v (suc (suc (suc (suc (suc (suc (suc zero))))))) h = refl
word_byte v (suc (suc (suc (suc (suc (suc (suc (suc j)))))))) h = absurd (go h)
  where
    go : suc (suc (suc (suc (suc (suc (suc (suc j))))))) < 8 → ⊥
    go h = omega arith

module _ (a pitch v : ℕ) (before : List ℕ) where
  -- one byte more
  pub spread_more : (n b : ℕ) (l : List ℕ) → 0 < pitch → a + n * pitch < length l → b ≡ v / 2 ^ (n * 8) % 256 → Spread a pitch n v before l
      → Spread a pitch (n + 1) v before (set l (a + n * pitch) b)
  spread_more n b l hp hn e S =
      record {
        len = length-set l (a + n * pitch) b ∙ S.len;
        here = λ i j h k. here i j h k (ℕ_discrete i n);
        others = λ m h. get_or-set_other l (a + n * pitch) m b 0 (λ q. h n (omega arith) q) ∙ S.others m (λ i k. h i (omega (arith, k)));
      }
    where
      here : (i j : ℕ) → i < n + 1 → j < 8 → Dec (i ≡ n) → bit_of (get_or (set l (a + n * pitch) b) (a + i * pitch) 0) j ≡ bit_of v (i * 8 + j)
      here i j h k (yes q) =
          rw q (ap (λ (m : ℕ). bit_of m j) (get_or-set_same l (a + n * pitch) b 0 hn ∙ e) ∙ bit_cut (v / 2 ^ (n * 8)) 8 j k ∙ bit_down v (n * 8) j)
      here i j h k (no q) =
          let less : i < n = omega (arith, q) in
          ap (λ (m : ℕ). bit_of m j) (get_or-set_other l (a + n * pitch) (a + i * pitch) b 0 (λ x. omega (arith, x, line_before i n pitch less)))
          ∙ S.here i j less k

-- byte q of line 8 * p + i of a plane
line_of : (base pitch p q i : ℕ) → base + p * 8 * pitch + q + i * pitch ≡ base + (p * 8 + i) * pitch + q
line_of base pitch p q i = omega (arith, add-mul (p * 8) i pitch)

-- it lies within the plane
pub line_within : (pitch p q i : ℕ) → p < pitch → q < pitch → i < 8 → p * 8 * pitch + q + i * pitch < plane_size pitch
line_within pitch p q i hp hq hi =
    let h : p * 8 + i < pitch * 8 = omega arith in
    omega (arith, line_of 0 pitch p q i, line_before (p * 8 + i) (pitch * 8) pitch h)

module _ (from to pitch : ℕ) where
  abbrev S : ℕ
  S = pitch * 8

  -- one block more
  module _ (apart : (from + plane_size pitch ≤ to) ⊎ (to + plane_size pitch ≤ from)) (c r v w : ℕ) (a l m : List ℕ) (hc : c < pitch) (hr : r < pitch)
      (B : Block (from + r * 8 * pitch + c) pitch l v) (U : Turned v w) (P : Spread (to + c * 8 * pitch + r) pitch 8 w l m) (T : Blocked from to pitch c r a l) where
    same_bits : (x y : ℕ) → x < S → y < S → cell l from pitch x y ≡ cell a from pitch x y
    same_bits = plane_kept from pitch a l (λ n lo hi. ⊎_elim (λ q. T.under n (omega arith)) (λ q. T.over n (omega arith)) apart)

    -- a bit of the block
    inside : (x y : ℕ) → x < S → y < S → x / 8 ≡ c → y / 8 ≡ r → cell m to pitch x y ≡ cell a from pitch y x
    inside x y hx hy e f =
        bit_at m (to + x * pitch) y
        ∙ ap (λ (n : ℕ). bit_of (get_or m n 0) (y % 8)) put
        ∙ P.here (x % 8) (y % 8) (omega arith) (omega arith)
        ∙ U.bits (y % 8) (x % 8) (omega arith) (omega arith)
        ∙ B.bits (y % 8) (x % 8) (omega arith) (omega arith)
        ∙ ap (λ (n : ℕ). bit_of (get_or l n 0) (x % 8)) got
        ∙ sym (bit_at l (from + y * pitch) x)
        ∙ same_bits y x hy hx
      where
        put : to + x * pitch + y / 8 ≡ to + c * 8 * pitch + r + x % 8 * pitch
        put =
            let q : c * 8 + x % 8 ≡ x = omega arith in
            omega (arith, line_of to pitch c r (x % 8), ap (λ (n : ℕ). n * pitch) q, f)

        got : from + r * 8 * pitch + c + y % 8 * pitch ≡ from + y * pitch + x / 8
        got =
            let q : r * 8 + y % 8 ≡ y = omega arith in
            omega (arith, line_of from pitch r c (y % 8), ap (λ (n : ℕ). n * pitch) q, e)

    -- any other bit of the plane
    outside : (x y : ℕ) → y < S → ((x / 8 ≡ c) × (y / 8 ≡ r) → ⊥) → cell m to pitch x y ≡ cell l to pitch x y
    outside x y hy other =
        bit_at m (to + x * pitch) y
        ∙ ap (λ (b : ℕ). bit_of b (y % 8)) (P.others (to + x * pitch + y / 8) (λ i hi e. other (met i hi e)))
        ∙ sym (bit_at l (to + x * pitch) y)
      where
        met : (i : ℕ) → i < 8 → to + x * pitch + y / 8 ≡ to + c * 8 * pitch + r + i * pitch → (x / 8 ≡ c) × (y / 8 ≡ r)
        met i hi e =
            let q = same_place to pitch x (y / 8 * 8) (c * 8 + i) (r * 8) (omega arith) (omega arith) (omega (arith, e, line_of to pitch c r i)) in
            (omega (arith, q.0), omega (arith, q.1))

    pub blocked_more : Blocked from to pitch c (r + 1) a m
    blocked_more =
        record {
          len = P.len ∙ T.len;
          under = λ n h. P.others n (λ i hi e. omega (arith, h, e)) ∙ T.under n h;
          over = λ n h. P.others n (λ i hi e. omega (arith, h, e, line_within pitch c r i hc hr hi)) ∙ T.over n h;
          done = λ x y hx hy k. go x y hx hy k (ℕ_discrete (x / 8) c) (ℕ_discrete (y / 8) r);
        }
      where
        before : (x y : ℕ) → (x / 8 < c) ⊎ ((x / 8 ≡ c) × (y / 8 < r + 1)) → ((x / 8 ≡ c) × (y / 8 ≡ r) → ⊥) → (x / 8 < c) ⊎ ((x / 8 ≡ c) × (y / 8 < r))
        before x y (inl k) other = inl k
        before x y (inr k) other = let ne : y / 8 ≡ r → ⊥ = λ e. other (k.0, e) in inr (k.0, omega (arith, k.1))

        go : (x y : ℕ) → x < S → y < S → (x / 8 < c) ⊎ ((x / 8 ≡ c) × (y / 8 < r + 1)) → Dec (x / 8 ≡ c) → Dec (y / 8 ≡ r) → cell m to pitch x y ≡ cell a from pitch y x
        go x y hx hy k (yes e) (yes f) = inside x y hx hy e f
        go x y hx hy k (no e) d = outside x y hy (λ q. e q.0) ∙ T.done x y hx hy (before x y k (λ q. e q.0))
        go x y hx hy k (yes e) (no f) = outside x y hy (λ q. f q.1) ∙ T.done x y hx hy (before x y k (λ q. f q.1))
