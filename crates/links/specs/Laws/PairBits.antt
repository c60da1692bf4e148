-- The bit of a pair of states in a plane.
use borrow.Author.Tests.{eq-eqb, eqb-true}
use Rattle.std.specs.Prelude.{◌≡◌, refl, true, ◌&&◌, ℕ, ◌+◌, ◌*◌, ◌/◌, ◌%◌, ◌<◌, ◌≤◌}
use Rattle.std.proofs.Common.{sym, ap, ◌∙◌, div-lt_iff_lt-mul, mul-le-mul_left, arith, pow_pos}
use Rattle.std.proofs.Math.Path.{ap₂}
use Rattle.std.proofs.Math.Dec.{eqb}
use Rattle.std.proofs.Math.Pow.{split, high, low}
use Rattle.planes.specs.Laws.Places.{line_before}
use Rattle.basics.specs.Laws.Tests.{same_test, and_both, both}
use Rattle.widths.specs.Widths.{width, states, within_limits}
use Rattle.format.specs.Laws.States.{few_states}
use Rattle.widths.specs.declared.Widths.{Widths}
use Rattle.links.specs.Carried.{pair}

-- the bit of a pair is that pair's alone
module _ (w : Widths) where
  pub pair_first : (s t : ℕ) → t < states w → pair w s t / states w ≡ s
  unfolding states
  pair_first s t h = high s (width w) h

  pub pair_second : (s t : ℕ) → t < states w → pair w s t % states w ≡ t
  unfolding states
  pair_second s t h = low s (width w) h

  pub first-lt : (n : ℕ) → n < states w * states w → n / states w < states w
  unfolding states
  first-lt n h = (div-lt_iff_lt-mul (pow_pos (width w))).1 h

  pub pair_is : (s t x y n : ℕ) → x ≡ s → n ≡ states w → y ≡ t → x * n + y ≡ pair w s t
  pair_is s t x y n e f g = rw (e, f, g) refl

  pub pair_lt : (s t : ℕ) → s < states w → t < states w → pair w s t < states w * states w
  pair_lt s t hs ht = omega (arith, line_before s (states w) (states w) hs)

  pub few_pairs : within_limits w ≡ true → states w * states w ≤ 1048576
  few_pairs e = let l = few_states w e in omega (arith, mul-le-mul_left (states w) l)

  pub one_pair : (s t n : ℕ) → t < states w → eqb n (pair w s t) ≡ (eqb (n / states w) s && eqb (n % states w) t)
  unfolding states
  one_pair s t n h =
      same_test (eqb n (pair w s t)) (eqb (n / states w) s && eqb (n % states w) t)
      (λ e. let q = eqb-true n (pair w s t) e in
      and_both _ _ (eq-eqb _ _ (ap (λ (m : ℕ). m / states w) q ∙ pair_first s t h)) (eq-eqb _ _ (ap (λ (m : ℕ). m % states w) q ∙ pair_second s t h)))
      (λ e. let q = both _ _ e in
      eq-eqb _ _ (sym (split n (width w)) ∙ ap₂ (λ (x y : ℕ). x * states w + y) (eqb-true _ _ q.0) (eqb-true _ _ q.1)))
