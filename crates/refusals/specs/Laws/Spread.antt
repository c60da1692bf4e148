-- How many elements a list has, by a number that each of them has: at most the sum of how many have each number.
use Rattle.std.specs.Prelude.{◌≡◌, Bool, true, false, cond, ◌&&◌, ℕ, zero, suc, ◌+◌, ◌<◌, ◌≤◌, length}
use Rattle.std.proofs.Math.Path.{refl, ap}
use Rattle.std.proofs.Common.{subst, ◌∙◌, arith, ltb-true, ltb-false, lt-ltb, le-ltb, eqb-true}
use mathlib.Core.List.{List, [], ◌∷◌, ◌++◌}
use Rattle.std.proofs.lemmas.Bool.{eqb-false}
use Rattle.std.proofs.Math.Dec.{eqb, ltb}
use Rattle.basics.specs.Laws.Tests.{and_left, and_right}
use Rattle.basics.specs.Lists.{keep, all}

-- the sum of f below m
abbrev pub total : ℕ → (ℕ → ℕ) → ℕ
total zero f = 0
total (suc m) f = total m f + f m

pub total_ones : (m : ℕ) → total m (λ v. 1) ≡ m
total_ones zero = refl
total_ones (suc m) = omega (arith, total_ones m)

and_assoc : (a b c : Bool) → (a && (b && c)) ≡ ((a && b) && c)
and_assoc true b c = refl
and_assoc false b c = refl

module _ {A : Type 0} where
  keep_all : (g : A → Bool) (xs : List A) → all g xs ≡ true → keep g xs ≡ xs
  unfolding keep all
  keep_all g [] e = refl
  keep_all g (x ∷ xs) e = rw (and_left (g x) (all g xs) e) (ap (λ (l : List A). x ∷ l) (keep_all g xs (and_right (g x) (all g xs) e)))

  pub all_append : (g : A → Bool) (xs ys : List A) → all g (xs ++ ys) ≡ (all g xs && all g ys)
  unfolding all
  all_append g [] ys = refl
  all_append g (x ∷ xs) ys = ap (λ (b : Bool). g x && b) (all_append g xs ys) ∙ and_assoc (g x) (all g xs) (all g ys)

module _ {A : Type 0} (f : A → ℕ) where
  count_step : (a b c : Bool) (x : A) (k l n : List A) → cond a 1 0 ≡ cond b 1 0 + cond c 1 0 → length k ≡ length l + length n
      → length (cond a (x ∷ k) k) ≡ length (cond b (x ∷ l) l) + length (cond c (x ∷ n) n)
  count_step true true true x k l n q e = absurd (omega (arith, q))
  count_step true true false x k l n q e = omega (arith, e)
  count_step true false true x k l n q e = omega (arith, e)
  count_step true false false x k l n q e = absurd (omega (arith, q))
  count_step false true true x k l n q e = absurd (omega (arith, q))
  count_step false true false x k l n q e = absurd (omega (arith, q))
  count_step false false true x k l n q e = absurd (omega (arith, q))
  count_step false false false x k l n q e = omega (arith, e)

  one_more : (m v : ℕ) → cond (ltb v (suc m)) 1 0 ≡ cond (ltb v m) 1 0 + cond (eqb v m) 1 0
  one_more m v = go (ltb v m) refl (eqb v m) refl
    where
      go : (b : Bool) → ltb v m ≡ b → (c : Bool) → eqb v m ≡ c → cond (ltb v (suc m)) 1 0 ≡ cond b 1 0 + cond c 1 0
      go true l true e = absurd (omega (arith, ltb-true v m l, eqb-true v m e))
      go true l false e = rw (lt-ltb v (suc m) (omega (arith, ltb-true v m l)))
      go false l true e = rw (lt-ltb v (suc m) (omega (arith, eqb-true v m e)))
      go false l false e =
          let n : (v ≡ m → ⊥) = eqb-false v m e in
          let k : m ≤ v = ltb-false v m l in
          rw (le-ltb v (suc m) (omega (arith, n)))

  -- one number more
  below_suc : (m : ℕ) (xs : List A) → length (keep (λ x. ltb (f x) (suc m)) xs) ≡ length (keep (λ x. ltb (f x) m) xs) + length (keep (λ x. eqb (f x) m) xs)
  unfolding keep
  below_suc m [] = refl
  below_suc m (x ∷ xs) =
      count_step (ltb (f x) (suc m)) (ltb (f x) m) (eqb (f x) m) x (keep (λ x. ltb (f x) (suc m)) xs) (keep (λ x. ltb (f x) m) xs) (keep (λ x. eqb (f x) m) xs)
      (one_more m (f x)) (below_suc m xs)

  none_below : (xs : List A) → length (keep (λ x. ltb (f x) 0) xs) ≡ 0
  unfolding keep
  none_below [] = refl
  none_below (x ∷ xs) = rw (le-ltb (f x) 0 (omega arith)) (none_below xs)

  spread_below : (b : ℕ → ℕ) (m : ℕ) (xs : List A) → ((v : ℕ) → v < m → length (keep (λ x. eqb (f x) v) xs) ≤ b v) → length (keep (λ x. ltb (f x) m) xs) ≤ total m b
  spread_below b zero xs h = omega (arith, none_below xs)
  spread_below b (suc m) xs h = omega (arith, below_suc m xs, h m (omega arith), spread_below b m xs (λ v l. h v (omega arith)))

  pub spread : (b : ℕ → ℕ) (m : ℕ) (xs : List A) → all (λ x. ltb (f x) m) xs ≡ true
      → ((v : ℕ) → v < m → length (keep (λ x. eqb (f x) v) xs) ≤ b v) → length xs ≤ total m b
  spread b m xs a h = subst (λ (l : List A). length l ≤ total m b) (keep_all (λ x. ltb (f x) m) xs a) (spread_below b m xs h)
