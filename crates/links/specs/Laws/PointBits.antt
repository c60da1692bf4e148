-- Points: the ports of switches, and their numbers.
use borrow.Author.Tests.{eq-eqb, eqb-true, ltb-true}
use Rattle.std.specs.Prelude.{◌≡◌, true, ◌&&◌, ℕ, ◌+◌, ◌/◌, ◌%◌, ◌^◌, ◌<◌, ◌≤◌, eqb, ltb}
use Rattle.std.proofs.Common.{sym, ap, ap₂, ◌∙◌, arith, pow-add, pow_mono}
use Rattle.std.proofs.Math.Arith.{digits_lt}
use Rattle.std.proofs.Math.Pow.{high, low}
use Rattle.basics.specs.Laws.Tests.{same_test, and_both, both, and_left, and_right}
use Rattle.format.specs.Fields.{point_good}
use Rattle.widths.specs.Widths.{within_limits}
use Rattle.widths.specs.Laws.Limits.{limits}
use Rattle.widths.specs.declared.Widths.{Widths}
use Rattle.links.specs.Carried.{point}

-- a point is within the widths
module _ (w : Widths) (sw p : ℕ) (good : point_good w sw p ≡ true) where
  pub point_switch : sw < 2 ^ w.w
  unfolding point_good
  point_switch = ltb-true sw (2 ^ w.w) (and_left (ltb sw (2 ^ w.w)) (ltb p (2 ^ w.p)) good)

  pub point_port : p < 2 ^ w.p
  unfolding point_good
  point_port = ltb-true p (2 ^ w.p) (and_right (ltb sw (2 ^ w.w)) (ltb p (2 ^ w.p)) good)

-- there are at most 256
pub point-lt : (w : Widths) (sw p : ℕ) → within_limits w ≡ true → sw < 2 ^ w.w → p < 2 ^ w.p → point w sw p < 256
point-lt w sw p e hs hp =
    let l = limits w e in
    let m : 2 ^ (w.w + w.p) ≤ 256 = pow_mono {j = 8} (omega arith) in
    omega (arith, digits_lt hs hp, pow-add 2 w.w w.p)

-- no two have one number
pub one_point : (w : Widths) (sw p a b : ℕ) → p < 2 ^ w.p → b < 2 ^ w.p → eqb (point w sw p) (point w a b) ≡ (eqb a sw && eqb b p)
one_point w sw p a b hp hb =
    same_test (eqb (point w sw p) (point w a b)) (eqb a sw && eqb b p)
    (λ e. let q = sym (eqb-true (point w sw p) (point w a b) e) in
    and_both _ _ (eq-eqb a sw (sym (high a w.p hb) ∙ ap (λ (n : ℕ). n / 2 ^ w.p) q ∙ high sw w.p hp)) (eq-eqb b p (sym (low a w.p hb) ∙ ap (λ (n : ℕ). n % 2 ^ w.p) q ∙ low sw w.p hp)))
    (λ e. let q = both (eqb a sw) (eqb b p) e in eq-eqb _ _ (sym (ap₂ (point w) (eqb-true a sw q.0) (eqb-true b p q.1))))
