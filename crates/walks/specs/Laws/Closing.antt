-- The computed closure relates two states exactly if a walk leads from one to the other: for any relation and any count of states.
use Rattle.std.specs.Prelude.{◌≡◌, refl, Bool, true, false, ◌&&◌, ◌||◌, ◌↔◌, ◌⊎◌, List, [], ◌∷◌, get_or}
use Rattle.std.proofs.Common.{sym, ap, ap₂, subst, ◌∙◌, not-suc-le-zero, arith}
use Rattle.std.proofs.Math.Path.{subst⁻¹}
use Rattle.std.proofs.Math.Bool.{So, or-false}
use Rattle.std.proofs.Math.Logic.{inl, inr, ⊎_elim}
use Prim.Native.Nat.{ℕ, zero, suc, ◌<◌, ◌≤◌}
use Rattle.std.proofs.Math.Decide.{ℕ_discrete}
use Rattle.std.proofs.Math.ListN.{get_or-map}
use Rattle.basics.specs.Laws.Tests.{and_both, and_left, and_right, or_left, or_right, or_cases}
use Rattle.walks.specs.Walk.{Walk, one, more}
use Rattle.basics.specs.Tabulated.{Grid, grid_test, grid}
use Rattle.basics.specs.Laws.Tabulated.{grid_at}
use Rattle.walks.specs.Computed.{or_line, add_line, round, rounds, closed}
use Rattle.walks.specs.Laws.Walks.{start, join, map_walk}

-- related by way of states below k alone
thru : (ℕ → ℕ → Bool) → ℕ → ℕ → ℕ → Bool
thru r zero i j = r i j
thru r (suc k) i j = thru r k i j || (thru r k i k && thru r k k j)

module _ (S : ℕ) (r : ℕ → ℕ → Bool) where
  thru_sound : (k : ℕ) → k ≤ S → (i j : ℕ) → i < S → j < S → So (thru r k i j) → Walk S (λ a b. So (r a b)) i j
  unfolding thru
  thru_sound zero hk i j hi hj t = one hi hj t
  thru_sound (suc k) hk i j hi hj t =
      ⊎_elim (λ u. thru_sound k (omega arith) i j hi hj u)
      (λ u. join (thru_sound k (omega arith) i k hi hk (and_left (thru r k i k) (thru r k k j) u))
      (thru_sound k (omega arith) k j hk hj (and_right (thru r k i k) (thru r k k j) u)))
      (or_cases (thru r k i j) (thru r k i k && thru r k k j) t)

  -- from the middle: the last line and column are not changed by their own round
  to_mid : (k i : ℕ) → So (thru r (suc k) i k) → So (thru r k i k)
  unfolding thru
  to_mid k i t = ⊎_elim (λ u. u) (λ u. and_left (thru r k i k) (thru r k k k) u) (or_cases (thru r k i k) (thru r k i k && thru r k k k) t)

  from_mid : (k j : ℕ) → So (thru r (suc k) k j) → So (thru r k k j)
  unfolding thru
  from_mid k j t = ⊎_elim (λ u. u) (λ u. and_right (thru r k k k) (thru r k k j) u) (or_cases (thru r k k j) (thru r k k k && thru r k k j) t)

  keep : (k i j : ℕ) → So (thru r k i j) → So (thru r (suc k) i j)
  unfolding thru
  keep k i j t = or_left (thru r k i j) (thru r k i k && thru r k k j) t

  by_mid : (k i j : ℕ) → So (thru r k i k) → So (thru r k k j) → So (thru r (suc k) i j)
  unfolding thru
  by_mid k i j s t = or_right (thru r k i j) (thru r k i k && thru r k k j) (and_both (thru r k i k) (thru r k k j) s t)

  split : (k i j : ℕ) → So (thru r (suc k) i j) → So (thru r k i j) ⊎ (So (thru r k i k) × So (thru r k k j))
  unfolding thru
  split k i j t =
      ⊎_elim (λ u. inl u) (λ u. inr (and_left (thru r k i k) (thru r k k j) u, and_right (thru r k i k) (thru r k k j) u))
      (or_cases (thru r k i j) (thru r k i k && thru r k k j) t)

  -- a relation that goes by way of any state below k
  abbrev By : ℕ → Type 0
  By k = (b : ℕ) → b < k → (i j : ℕ) → So (thru r k i b) → So (thru r k b j) → So (thru r k i j)

  by_suc : (k : ℕ) → By k → (b : ℕ) → b < suc k → (i j : ℕ) → So (thru r (suc k) i b) → So (thru r (suc k) b j) → Dec (b ≡ k) → So (thru r (suc k) i j)
  by_suc k ih b hb i j s t (yes e) =
      by_mid k i j (to_mid k i (subst (λ (x : ℕ). So (thru r (suc k) i x)) e s))
      (from_mid k j (subst (λ (x : ℕ). So (thru r (suc k) x j)) e t))
  by_suc k ih b hb i j s t (no n) =
      let h : b < k = omega (arith, n) in
      ⊎_elim
      (λ s1. ⊎_elim (λ t1. keep k i j (ih b h i j s1 t1)) (λ t2. by_mid k i j (ih b h i k s1 t2.0) t2.1) (split k b j t))
      (λ s2. ⊎_elim (λ t1. by_mid k i j s2.0 (ih b h k j s2.1 t1)) (λ t2. by_mid k i j s2.0 t2.1) (split k b j t))
      (split k i b s)

  thru_trans : (k : ℕ) → By k
  thru_trans zero b hb i j s t = absurd (not-suc-le-zero hb)
  thru_trans (suc k) b hb i j s t = by_suc k (thru_trans k) b hb i j s t (ℕ_discrete b k)

  thru_keeps : (k i j : ℕ) → So (r i j) → So (thru r k i j)
  unfolding thru
  thru_keeps zero i j t = t
  thru_keeps (suc k) i j t = keep k i j (thru_keeps k i j t)

  thru_complete : {i j : ℕ} → Walk S (λ a b. So (r a b)) i j → So (thru r S i j)
  thru_complete (one {a} {b} ha hb t) = thru_keeps S a b t
  thru_complete (more {a} {b} {c} ha t p) = thru_trans S b (start p) a c (thru_keeps S a b t) (thru_complete p)

or_line-at : (xs ys : List Bool) (j : ℕ) → get_or (or_line xs ys) j false ≡ (get_or xs j false || get_or ys j false)
unfolding or_line
or_line-at [] ys j = refl
or_line-at (x ∷ xs) [] zero = sym (or-false x)
or_line-at (x ∷ xs) [] (suc j) = sym (or-false (get_or xs j false))
or_line-at (x ∷ xs) (y ∷ ys) zero = refl
or_line-at (x ∷ xs) (y ∷ ys) (suc j) = or_line-at xs ys j

add_line-at : (b : Bool) (xs ys : List Bool) (j : ℕ) → get_or (add_line b xs ys) j false ≡ (get_or xs j false || (b && get_or ys j false))
unfolding add_line
add_line-at true xs ys j = or_line-at xs ys j
add_line-at false xs ys j = sym (or-false (get_or xs j false))

pub round_at : (k : ℕ) (g : Grid) (i j : ℕ) → grid_test (round k g) i j ≡ (grid_test g i j || (grid_test g i k && grid_test g k j))
unfolding round grid_test add_line
round_at k g i j =
    ap (λ (l : List Bool). get_or l j false) (get_or-map (λ (line : List Bool). add_line (get_or line k false) line (get_or g k [])) g i [])
    ∙ add_line-at (get_or (get_or g i []) k false) (get_or g i []) (get_or g k []) j

rounds_at : (k : ℕ) (g : Grid) (i j : ℕ) → grid_test (rounds k g) i j ≡ thru (grid_test g) k i j
unfolding rounds thru
rounds_at zero g i j = refl
rounds_at (suc k) g i j =
    round_at k (rounds k g) i j
    ∙ ap₂ ◌||◌ (rounds_at k g i j) (ap₂ ◌&&◌ (rounds_at k g i k) (rounds_at k g k j))

-- the computed closure is true exactly where a walk leads
pub closed_iff : (S : ℕ) (r : ℕ → ℕ → Bool) (i j : ℕ) → i < S → j < S → So (grid_test (closed S r) i j) ↔ Walk S (λ a b. So (r a b)) i j
unfolding closed
closed_iff S r i j hi hj = (
  λ t. map_walk (λ a b ha hb u. subst So (grid_at S r a b ha hb) u)
      (thru_sound S (grid_test (grid S r)) S (omega arith) i j hi hj (subst So (rounds_at S (grid S r) i j) t)),
  λ p. subst⁻¹ So (rounds_at S (grid S r) i j)
      (thru_complete S (grid_test (grid S r)) (map_walk (λ a b ha hb u. subst⁻¹ So (grid_at S r a b ha hb) u) p)),
)
