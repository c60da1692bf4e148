-- Paths by recursion: the states after the first, and their relation to walks.
use Rattle.std.specs.Prelude.{◌≡◌, refl, List, [], ◌∷◌, ℕ, zero, suc, ◌-◌, ◌<◌, ◌≤◌, length, get_or}
use Rattle.std.proofs.Common.{subst, arith}
use Rattle.walks.specs.Walk.{Walk, one, more}
use Rattle.trails.specs.Route.{Trail}

-- the states of l lead on from x to b, all below S
abbrev pub Leads : (S : ℕ) (R : ℕ → ℕ → Type 0) (b : ℕ) → ℕ → List ℕ → Type 0
Leads S R b x [] = x ≡ b
Leads S R b x (y ∷ l) = (y < S) × R x y × Leads S R b y l

less_one : (n : ℕ) → suc n - 1 ≡ n
less_one n = omega arith

module _ (S : ℕ) (R : ℕ → ℕ → Type 0) (b : ℕ) where
  last_of : (x : ℕ) (l : List ℕ) → Leads S R b x l → get_or (x ∷ l) (length l) 0 ≡ b
  last_of x [] e = e
  last_of x (y ∷ l) e = last_of y l e.2

  below_of : (x : ℕ) (l : List ℕ) → x < S → Leads S R b x l → (i : ℕ) → i < suc (length l) → get_or (x ∷ l) i 0 < S
  below_of x l hx e zero h = hx
  below_of x [] hx e (suc i) h = absurd (omega arith)
  below_of x (y ∷ l) hx e (suc i) h = below_of y l e.0 e.2 i (omega arith)

  steps_of : (x : ℕ) (l : List ℕ) → Leads S R b x l → (i : ℕ) → i < length l → R (get_or (x ∷ l) i 0) (get_or l i 0)
  steps_of x [] e i h = absurd (omega arith)
  steps_of x (y ∷ l) e zero h = e.1
  steps_of x (y ∷ l) e (suc i) h = steps_of y l e.2 i (omega arith)

  -- a path from its states after the first
  pub trail : (a : ℕ) (l : List ℕ) → a < S → 1 ≤ length l → Leads S R b a l → Trail S R a b (a ∷ l)
  trail a l ha h e =
      record {
        two = omega arith;
        first = refl;
        last = rw (less_one (length l)) (last_of a l e);
        below = below_of a l ha e;
        steps = λ i k. steps_of a l e i (omega arith);
      }

  leads_of : (x : ℕ) (l : List ℕ) → get_or (x ∷ l) (length l) 0 ≡ b → ((i : ℕ) → i < suc (length l) → get_or (x ∷ l) i 0 < S)
      → ((i : ℕ) → suc i < suc (length l) → R (get_or (x ∷ l) i 0) (get_or l i 0)) → Leads S R b x l
  leads_of x [] e h s = e
  leads_of x (y ∷ l) e h s =
      (h 1 (omega arith), s 0 (omega arith), leads_of y l e (λ i k. h (suc i) (omega arith)) (λ i k. s (suc i) (omega arith)))

  -- the states of a path after the first
  pub untrail : {a : ℕ} (m : List ℕ) → Trail S R a b m → (l : List ℕ) × (m ≡ a ∷ l) × (a < S) × (1 ≤ length l) × Leads S R b a l
  untrail [] t = absurd (omega (arith, t.two))
  untrail {a} (x ∷ l) t = go t.first
    where
      go : x ≡ a → (k : List ℕ) × (x ∷ l ≡ a ∷ k) × (a < S) × (1 ≤ length k) × Leads S R b a k
      go e = (
        l,
        cc,
        subst (λ (n : ℕ). n < S) e (t.below 0 (omega (arith, t.two))),
        omega (arith, t.two),
        subst (λ (n : ℕ). Leads S R b n l) e (leads_of x l (rw (less_one (length l)) at t.last) t.below t.steps),
      )

  -- a walk from the states after the first
  pub walk : (a y : ℕ) (l : List ℕ) → a < S → Leads S R b a (y ∷ l) → Walk S R a b
  walk a y [] ha e = subst (λ (n : ℕ). Walk S R a n) e.2 (one ha e.0 e.1)
  walk a y (z ∷ l) ha e = more ha e.1 (walk y z l e.0 e.2)

-- the states of a walk after the first
pub unwalk : {S : ℕ} {R : ℕ → ℕ → Type 0} {a b : ℕ} → Walk S R a b → (a < S) × ((l : List ℕ) × (1 ≤ length l) × Leads S R b a l)
unwalk (one {a} {b} ha hb r) = (ha, (b ∷ [], omega arith, (hb, r, refl)))
unwalk (more {a} {b} {c} ha r p) = let q = unwalk p in (ha, (b ∷ q.1.0, omega arith, (q.0, r, q.1.2)))
