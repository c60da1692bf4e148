-- The truth of a formula goes by the values of its free variables alone.
use Rattle.std.specs.Prelude.{◌≡◌, refl, Bool, true, false, not, ◌&&◌, ◌↔◌, ℕ}
use Rattle.std.proofs.Math.Path.{sym, subst, subst₂}
use Rattle.std.proofs.Math.Logic.{inl, inr, ⊎_elim}
use Rattle.basics.specs.Bit.{bit_of}
use Rattle.basics.specs.Laws.Tests.{not_both, and_both, or_left, or_right}
use Rattle.format.specs.Policy.{Formula, absent, BIT, R, E, NOT, AND, OR, SOME, ALL, TC, same_var, free}
use Rattle.format.specs.declared.kinds.Var.{Var}
use Rattle.format.specs.declared.kinds.Var.TheVariants.{X, Y}
use Rattle.walks.specs.Walk.{Walk}
use Rattle.truth.specs.Truth.{Model, value, with_x, with_y, Truth}

same_self : (v : Var) → same_var v v ≡ true
same_self X = refl
same_self Y = refl

-- under a quantifier over u: v is u itself, or is as before
under : (u v : Var) (z x y x' y' : ℕ) (b : Bool) → b ≡ true → ((b && not (same_var v u)) ≡ true → value v x y ≡ value v x' y')
    → value v (with_x u z x) (with_y u z y) ≡ value v (with_x u z x') (with_y u z y')
under X X z x y x' y' b t h = refl
under X Y z x y x' y' b t h = h (and_both b true t refl)
under Y X z x y x' y' b t h = h (and_both b true t refl)
under Y Y z x y x' y' b t h = refl

module _ (m : Model) where
  -- values that agree on the free variables give the same truth
  pub coincide : (f : Formula) (x y x' y' : ℕ) → ((v : Var) → free v f ≡ true → value v x y ≡ value v x' y') → Truth m f x y → Truth m f x' y'
  unfolding Truth free
  coincide absent x y x' y' h t = t
  coincide (BIT v i) x y x' y' h t = subst (λ (s : ℕ). bit_of s i ≡ true) (h v (same_self v)) t
  coincide (R u v) x y x' y' h t =
      subst₂ m.Steps (h u (or_left (same_var u u) (same_var u v) (same_self u))) (h v (or_right (same_var v u) (same_var v v) (same_self v))) t
  coincide (E v) x y x' y' h t = subst m.External (h v (same_self v)) t
  coincide (NOT f) x y x' y' h t = λ t'. t (coincide f x' y' x y (λ v k. sym (h v k)) t')
  coincide (AND f g) x y x' y' h t = (
    coincide f x y x' y' (λ v k. h v (or_left (free v f) (free v g) k)) t.0,
    coincide g x y x' y' (λ v k. h v (or_right (free v f) (free v g) k)) t.1,
  )
  coincide (OR f g) x y x' y' h t =
      ⊎_elim (λ s. inl (coincide f x y x' y' (λ v k. h v (or_left (free v f) (free v g) k)) s))
      (λ s. inr (coincide g x y x' y' (λ v k. h v (or_right (free v f) (free v g) k)) s)) t
  coincide (SOME f u) x y x' y' h t = (
    t.0,
    t.1,
    coincide f (with_x u t.0 x) (with_y u t.0 y) (with_x u t.0 x') (with_y u t.0 y')
        (λ v k. under u v t.0 x y x' y' (free v f) k (h v)) t.2,
  )
  coincide (ALL f u) x y x' y' h t =
      λ z hz. coincide f (with_x u z x) (with_y u z y) (with_x u z x') (with_y u z y') (λ v k. under u v z x y x' y' (free v f) k (h v)) (t z hz)
  coincide (TC f u v) x y x' y' h t =
      subst₂ (Walk m.count (Truth m f)) (h u (or_left (same_var u u) (same_var u v) (same_self u)))
      (h v (or_right (same_var v u) (same_var v v) (same_self v))) t

  -- where Y is not free its value does not matter
  pub any_Y : (f : Formula) → free Y f ≡ false → (x y y' : ℕ) → Truth m f x y ↔ Truth m f x y'
  any_Y f e x y y' = (coincide f x y x y' (go y y'), coincide f x y' x y (go y' y))
    where
      go : (a b : ℕ) (v : Var) → free v f ≡ true → value v x a ≡ value v x b
      go a b X k = refl
      go a b Y k = not_both k e
