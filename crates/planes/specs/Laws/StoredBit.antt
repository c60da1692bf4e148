-- The store that sets a bit.
use borrow.Author.Tests.{eq-eqb, ne_eqb}
use Rattle.std.specs.Prelude.{◌≡◌, refl, List, Bool, true, ◌||◌, ℕ, ◌/◌, ◌%◌, ◌^◌, ◌<◌, length, get_or, set}
use Rattle.std.proofs.Math.Path.{sym, ap, ap₂}
use Rattle.std.proofs.Common.{◌∙◌, arith, get_or-set_same}
use Rattle.std.proofs.Math.Bool.{or-true, or-false}
use Rattle.std.proofs.Math.Decide.{ℕ_discrete}
use Rattle.std.proofs.Math.ListN.{length-set}
use Rattle.std.proofs.Math.Seq.{get_or-set_other}
use Rattle.std.specs.Int.Bits.{bit_or}
use Rattle.basics.specs.Bit.{bit_of}
use Rattle.planes.specs.Plane.{bit}
use Rattle.planes.specs.Lines.{BitSet}
use Rattle.basics.specs.Laws.Bits.{bit_or_lem, bit_power}

-- bit n, which is bit i of byte b, is set by this store
module _ (l : List ℕ) (n b i : ℕ) (hb : n / 8 ≡ b) (hi : n % 8 ≡ i) (h : b < length l) where
  v : ℕ
  v = bit_or (get_or l b 0) (2 ^ i)

  at_b : get_or (set l b v) b 0 ≡ v
  at_b = get_or-set_same l b v 0 h

  here : bit_of (get_or (set l b v) (n / 8) 0) (n % 8) ≡ true
  unfolding v
  here =
      ap₂ (λ (c d : ℕ). bit_of (get_or (set l b v) c 0) d) hb hi
      ∙ ap (λ (u : ℕ). bit_of u i) at_b
      ∙ bit_or_lem (get_or l b 0) (2 ^ i) i
      ∙ ap (λ (t : Bool). bit_of (get_or l b 0) i || t) (bit_power i i ∙ eq-eqb i i refl)
      ∙ or-true (bit_of (get_or l b 0) i)

  others : (m : ℕ) → (m ≡ n → ⊥) → Dec (m / 8 ≡ b) → bit_of (get_or (set l b v) (m / 8) 0) (m % 8) ≡ bit_of (get_or l (m / 8) 0) (m % 8)
  unfolding v
  others m ne (yes e) =
      ap (λ (c : ℕ). bit_of (get_or (set l b v) c 0) (m % 8)) e
      ∙ ap (λ (u : ℕ). bit_of u (m % 8)) at_b
      ∙ bit_or_lem (get_or l b 0) (2 ^ i) (m % 8)
      ∙ ap (λ (t : Bool). bit_of (get_or l b 0) (m % 8) || t) (bit_power i (m % 8) ∙ ne_eqb (m % 8) i (λ q. ne (omega arith)))
      ∙ or-false (bit_of (get_or l b 0) (m % 8))
      ∙ ap (λ (c : ℕ). bit_of (get_or l c 0) (m % 8)) (sym e)
  others m ne (no g) = ap (λ (u : ℕ). bit_of u (m % 8)) (get_or-set_other l b (m / 8) v 0 g)

  pub bit_set : BitSet n l (set l b (bit_or (get_or l b 0) (2 ^ i)))
  unfolding v bit
  bit_set = record {
    len = length-set l b v;
    here = here;
    others = λ m ne. others m ne (ℕ_discrete (m / 8) b);
    bytes = λ m ne. get_or-set_other l b m v 0 (λ q. ne (q ∙ sym hb));
  }
