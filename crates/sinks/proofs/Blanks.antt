-- A line of which every byte is zero has no state.
use mathlib.Core.Path.{◌≡◌, sym, ap, ◌∙◌}
use mathlib.Core.Bool.{true}
use mathlib.Core.List.{List}
use Prim.Native.Nat.{ℕ, ◌+◌, ◌*◌, ◌/◌, ◌%◌, ◌≤◌, ◌<◌}
use native.Mathlib.Omega.{arith}
use borrow.Author.Count.{below_more}
use lib.ListN.{length, get_or}
use lib.Bits.{bit_or}
use Rattle.basics.specs.Bit.{bit_of}
use Rattle.basics.specs.Laws.Bits.{bit_or_lem, bit-zero}
use Rattle.planes.specs.Laws.Places.{in_line}
use Rattle.basics.specs.Laws.Tests.{or_left, or_right, not_both, false_of}
use Rattle.planes.specs.Plane.{bit}
use Rattle.words.specs.Words.{Lacks}
use Rattle.words.specs.Laws.Seeking.{front_bit}
use Rattle.std.specs.Array.{IsFirstChunk}
use Rattle.std.proofs.lemmas.List.{length-take-le}

-- b has the bits of each of the first j bytes
pub record Has (bytes : List ℕ) (j b : ℕ) : Type 0 where
  pub bits : (i : ℕ) → i < j → (s : ℕ) → bit_of (get_or bytes i 0) s ≡ true → bit_of b s ≡ true

pub has_more : (bytes : List ℕ) (j b : ℕ) → Has bytes j b → Has bytes (j + 1) (bit_or b (get_or bytes j 0))
has_more bytes j b H =
    let v = get_or bytes j 0 in
    record {
      bits = below_more (λ (i : ℕ). (s : ℕ) → bit_of (get_or bytes i 0) s ≡ true → bit_of (bit_or b v) s ≡ true) j
          (λ i h s t. bit_or_lem b v s ∙ or_left (bit_of b s) (bit_of v s) (H.bits i h s t))
          (λ s t. bit_or_lem b v s ∙ or_right (bit_of b s) (bit_of v s) t);
    }

pub has_blank : (bytes : List ℕ) (n j b : ℕ) → Has bytes j b → n ≤ j → b ≡ 0 → Lacks bytes 0 (n * 8)
unfolding bit
has_blank bytes n j b H h e =
    record {
      none = λ y g hy.
          false_of _ (λ t.
          not_both (H.bits (y / 8) (omega (arith, in_line n y hy)) (y % 8) t)
          (ap (λ (v : ℕ). bit_of v (y % 8)) e ∙ bit-zero (y % 8)));
    }

-- a line that is its own front
pub front_blank : (line front : List ℕ) → length line ≤ 128 → IsFirstChunk line front 128 → Lacks front 0 (length front * 8) → Lacks line 0 (length line * 8)
front_blank line front h F B =
    let len : length front ≡ 128 = ap length F.same ∙ length-take-le 128 line F.enough in
    record {
      none = λ y g hy.
          sym (front_bit line 128 y (omega arith))
          ∙ ap (λ (bytes : List ℕ). bit bytes y) (sym F.same)
          ∙ B.none y g (omega (arith, len));
    }
