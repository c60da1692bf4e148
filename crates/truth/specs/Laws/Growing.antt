-- An even formula that is true stays true with more steps, and an odd one with fewer.
use Rattle.std.proofs.Math.Path.{subst, subst⁻¹}
use Rattle.std.proofs.Math.Logic.{inl, inr, ⊎_elim}
use Rattle.std.specs.Prelude.{ℕ, suc, ◌<◌}
use Rattle.std.proofs.Common.{arith}
use Rattle.format.specs.Policy.{Formula, absent, BIT, R, E, NOT, AND, OR, SOME, ALL, TC}
use Rattle.walks.specs.Walk.{Walk}
use Rattle.walks.specs.Laws.Walks.{map_walk}
use Rattle.truth.specs.Truth.{Model, value, with_x, with_y, Truth}
use Rattle.truth.specs.Even.{here, under_NOT, left_AND, right_AND, left_OR, right_OR, under_SOME, under_ALL, under_TC, Even, Odd, Within}
use Rattle.truth.specs.Laws.Tables.{value-lt, with_x-lt, with_y-lt}

even_odd : {f : Formula} → Even (NOT f) → Odd f
even_odd e n w = omega (arith, e (suc n) (under_NOT w))

odd_even : {f : Formula} → Odd (NOT f) → Even f
odd_even o n w = omega (arith, o (suc n) (under_NOT w))

module _ (m k : Model) (s : Within m k) where
  -- an even formula that is true stays so with more steps, and an odd one with fewer
  pub grows : (f : Formula) (x y : ℕ) → x < m.count → y < m.count
      → (Even f → Truth m f x y → Truth k f x y) × (Odd f → Truth k f x y → Truth m f x y)
  unfolding Truth
  grows absent x y hx hy = (λ e t. t, λ o t. t)
  grows (BIT v i) x y hx hy = (λ e t. t, λ o t. t)
  grows (R u v) x y hx hy = (
    λ e t. s.steps (value u x y) (value v x y) (value-lt u hx hy) (value-lt v hx hy) t,
    λ o t. absurd (omega (arith, o 0 here)),
  )
  grows (E v) x y hx hy =
      let e = s.externals (value v x y) (value-lt v hx hy) in
      (λ p t. e.0 t, λ p t. e.1 t)
  grows (NOT f) x y hx hy =
      let g = grows f x y hx hy in
      (λ e t u. t (g.1 (even_odd e) u), λ o t u. t (g.0 (odd_even o) u))
  grows (AND f g) x y hx hy =
      let a = grows f x y hx hy in
      let b = grows g x y hx hy in (
        λ e t. (a.0 (λ n w. e n (left_AND w)) t.0, b.0 (λ n w. e n (right_AND w)) t.1),
        λ o t. (a.1 (λ n w. o n (left_AND w)) t.0, b.1 (λ n w. o n (right_AND w)) t.1),
      )
  grows (OR f g) x y hx hy =
      let a = grows f x y hx hy in
      let b = grows g x y hx hy in (
        λ e t. ⊎_elim (λ u. inl (a.0 (λ n w. e n (left_OR w)) u)) (λ u. inr (b.0 (λ n w. e n (right_OR w)) u)) t,
        λ o t. ⊎_elim (λ u. inl (a.1 (λ n w. o n (left_OR w)) u)) (λ u. inr (b.1 (λ n w. o n (right_OR w)) u)) t,
      )
  grows (SOME f v) x y hx hy = (
    λ e t. (
      t.0,
      subst (λ (n : ℕ). t.0 < n) s.counts t.1,
      (grows f (with_x v t.0 x) (with_y v t.0 y) (with_x-lt v t.1 hx) (with_y-lt v t.1 hy)).0 (λ n w. e n (under_SOME w)) t.2,
    ),
    λ o t. let h : t.0 < m.count = subst⁻¹ (λ (n : ℕ). t.0 < n) s.counts t.1 in (
      t.0,
      h,
      (grows f (with_x v t.0 x) (with_y v t.0 y) (with_x-lt v h hx) (with_y-lt v h hy)).1 (λ n w. o n (under_SOME w)) t.2,
    ),
  )
  grows (ALL f v) x y hx hy = (
    λ e t z hz. let h : z < m.count = subst⁻¹ (λ (n : ℕ). z < n) s.counts hz in
        (grows f (with_x v z x) (with_y v z y) (with_x-lt v h hx) (with_y-lt v h hy)).0 (λ n w. e n (under_ALL w)) (t z h),
    λ o t z hz. (grows f (with_x v z x) (with_y v z y) (with_x-lt v hz hx) (with_y-lt v hz hy)).1 (λ n w. o n (under_ALL w))
        (t z (subst (λ (n : ℕ). z < n) s.counts hz)),
  )
  grows (TC f u v) x y hx hy = (
    λ e t. subst (λ (n : ℕ). Walk n (Truth k f) (value u x y) (value v x y)) s.counts
        (map_walk (λ a b ha hb r. (grows f a b ha hb).0 (λ n w. e n (under_TC w)) r) t),
    λ o t. map_walk (λ a b ha hb r. (grows f a b ha hb).1 (λ n w. o n (under_TC w)) r)
        (subst⁻¹ (λ (n : ℕ). Walk n (Truth k f) (value u x y) (value v x y)) s.counts t),
  )
