-- A path need not come twice by a state: cut, it has at most as many steps as there are states.
use Rattle.std.specs.Prelude.{◌≡◌, Bool, ℕ, ◌≤◌, length}
use Rattle.std.proofs.Math.Path.{refl}
use Rattle.std.proofs.Common.{sym, subst, arith}
use Rattle.std.proofs.Math.Bool.{true, false}
use Rattle.std.proofs.lemmas.Bool.{false≢true}
use mathlib.Core.List.{List, [], ◌∷◌}
use borrow.Author.Tests.{eqb-true, eqb-false, lt-ltb, ne_eqb}
use Rattle.std.proofs.Math.Dec.{eqb, ltb}
use Rattle.basics.specs.Laws.Tests.{and_both, or_none}
use Rattle.basics.specs.Lists.{keep, any, all, member}
use Rattle.refusals.specs.Laws.Spread.{total, total_ones, spread}
use Rattle.refusals.specs.Laws.Points.{times}
use Rattle.trails.specs.Laws.Leading.{Leads}

-- no number stands twice
abbrev Simple : List ℕ → Type 0
Simple [] = Unit {0}
Simple (x ∷ l) = (member x l ≡ false) × Simple l

absent : (v : ℕ) (l : List ℕ) → member v l ≡ false → times v l ≡ 0
unfolding member any keep
absent v [] e = refl
absent v (x ∷ l) e =
    let q = or_none (eqb v x) (any (eqb v) l) e in
    rw (ne_eqb x v (λ h. eqb-false v x q.0 (sym h))) (absent v l q.1)

once : (v : ℕ) (l : List ℕ) → Simple l → times v l ≤ 1
unfolding keep
once v [] s = omega arith
once v (x ∷ l) s = go (eqb x v) refl (once v l s.1)
  where
    go : (b : Bool) → eqb x v ≡ b → times v l ≤ 1 → times v (x ∷ l) ≤ 1
    go true e h = rw e (omega (arith, absent v l (subst (λ (n : ℕ). member n l ≡ false) (eqb-true x v e) s.0)))
    go false e h = rw e h

module _ (S : ℕ) (R : ℕ → ℕ → Type 0) (b : ℕ) where
  all_below_lem : (x : ℕ) (l : List ℕ) → Leads S R b x l → all (λ y. ltb y S) l ≡ true
  unfolding all
  all_below_lem x [] e = refl
  all_below_lem x (y ∷ l) e = and_both (ltb y S) (all (λ y. ltb y S) l) (lt-ltb y S e.0) (all_below_lem y l e.2)

  -- with no state twice there are at most as many as there are states
  few : (x : ℕ) (l : List ℕ) → Leads S R b x l → Simple l → length l ≤ S
  few x l e s =
      let h : length l ≤ total S (λ v. 1) = spread (λ (y : ℕ). y) (λ v. 1) S l (all_below_lem x l e) (λ v k. once v l s) in
      omega (arith, total_ones S)

  -- from the place where y stands the rest leads on from y
  after : (x y : ℕ) (l : List ℕ) → member y l ≡ true → Leads S R b x l → Simple l → (q : List ℕ) × Leads S R b y q × Simple (y ∷ q)
  unfolding member any
  after x y [] m e s = absurd (false≢true m)
  after x y (z ∷ l) m e s = go (eqb y z) refl (λ k. after z y l k e.2 s.1)
    where
      go : (c : Bool) → eqb y z ≡ c → (member y l ≡ true → (q : List ℕ) × Leads S R b y q × Simple (y ∷ q))
          → (q : List ℕ) × Leads S R b y q × Simple (y ∷ q)
      go true t ih = let p = eqb-true y z t in (l, rw p e.2, (rw p s.0, s.1))
      go false t ih = ih (rw t at m)

  simple : (x : ℕ) (l : List ℕ) → Leads S R b x l → (q : List ℕ) × Leads S R b x q × Simple q × (1 ≤ length l → 1 ≤ length q)
  simple x [] e = ([], e, tt, λ h. h)
  simple x (y ∷ l) e = let p = simple y l e.2 in go p.0 p.1 p.2 (member y p.0) refl
    where
      go : (q : List ℕ) → Leads S R b y q → Simple q → (c : Bool) → member y q ≡ c
          → (q : List ℕ) × Leads S R b x q × Simple q × (1 ≤ length (y ∷ l) → 1 ≤ length q)
      go q k s true m = let a = after y y q m k s in (y ∷ a.0, (e.0, e.1, a.1), a.2, λ h. omega arith)
      go q k s false m = (y ∷ q, (e.0, e.1, k), (m, s), λ h. omega arith)

  -- where a path leads on, one of at most as many steps as there are states does
  pub short : (x : ℕ) (l : List ℕ) → 1 ≤ length l → Leads S R b x l → (q : List ℕ) × Leads S R b x q × (1 ≤ length q) × (length q ≤ S)
  short x l h e = let p = simple x l e in (p.0, p.1, p.3 h, few x p.0 p.1 p.2)
