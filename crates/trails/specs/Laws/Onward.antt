-- The smallest states that lead on: what the forward reading by distances finds.
use Rattle.std.specs.Prelude.{◌≡◌, refl, true, ◌↔◌, ◌⊎◌, get_or}
use Rattle.std.proofs.Common.{ap, subst, inl, inr, ⊎_elim, arith, eqb-true, eq-eqb}
use Rattle.std.proofs.Math.Bool.{Bool}
use mathlib.Core.List.{List, [], ◌∷◌}
use Rattle.std.proofs.Math.Option.{Option, none, some}
use Prim.Native.Nat.{ℕ, zero, suc, ◌+◌, ◌<◌, ◌≤◌}
use Rattle.std.proofs.Math.ListN.{length}
use Rattle.basics.specs.Laws.Tests.{and_both, and_left, and_right}
use Rattle.judgement.specs.Computed.{first_from}
use Rattle.judgement.specs.Laws.FirstState.{FirstPassing, first_is}
use Rattle.trails.specs.Route.{Before}
use Rattle.trails.specs.Computed.{is_away, is_onward, or_count, next_state, onward}
use Rattle.trails.specs.Distances.{Away, In, Near}
use Rattle.trails.specs.Laws.Leading.{Leads}
use Rattle.trails.specs.Laws.Searching.{in_more, in_less, in_none, away_in, in_away}

-- lists of which one is before the other, by their first states
pub before_cases : {x y : ℕ} {l m : List ℕ} → Before (x ∷ l) (y ∷ m) → (x < y) ⊎ ((x ≡ y) × Before l m)
before_cases {x} {y} {l} {m} o = go o.place o.inside o.same o.smaller
  where
    go : (k : ℕ) → k < suc (length l) → ((i : ℕ) → i < k → get_or (x ∷ l) i 0 ≡ get_or (y ∷ m) i 0) → get_or (x ∷ l) k 0 < get_or (y ∷ m) k 0
        → (x < y) ⊎ ((x ≡ y) × Before l m)
    go zero h s t = inl t
    go (suc k) h s t = inr (s 0 (omega arith), record { place = k; inside = omega arith; same = λ i j. s (suc i) (omega arith); smaller = t })

-- the test decides
pub away_iff : (ds : List ℕ) (b k x : ℕ) → is_away ds b k x ≡ true ↔ Away ds b k x
unfolding is_away
away_iff ds b zero x = (eqb-true x b, eq-eqb x b)
away_iff ds b (suc k) x = (eqb-true (get_or ds x 0) (suc k), eq-eqb (get_or ds x 0) (suc k))

-- the state after the first j of them is the next one
pub onward_at : (S : ℕ) (r : ℕ → ℕ → Bool) (ds : List ℕ) (b k x j i : ℕ) → j + suc i ≡ k
    → get_or (x ∷ onward S r ds b k x) (suc j) 0 ≡ next_state S r ds b i (get_or (x ∷ onward S r ds b k x) j 0)
unfolding onward
onward_at S r ds b zero x j i e = absurd (omega (arith, e))
onward_at S r ds b (suc k) x zero i e = ap (λ (n : ℕ). next_state S r ds b n x) (omega (arith, e))
onward_at S r ds b (suc k) x (suc j) i e = onward_at S r ds b k (next_state S r ds b k x) j i (omega (arith, e))

-- as many states as steps
pub onward_length : (S : ℕ) (r : ℕ → ℕ → Bool) (ds : List ℕ) (b k x : ℕ) → length (onward S r ds b k x) ≡ k
unfolding onward
onward_length S r ds b zero x = refl
onward_length S r ds b (suc k) x = omega (arith, onward_length S r ds b k (next_state S r ds b k x))

module _ (S : ℕ) (R : ℕ → ℕ → Type 0) (r : ℕ → ℕ → Bool) (agree : (x y : ℕ) → x < S → y < S → r x y ≡ true ↔ R x y) (b : ℕ) where
  pub onward_iff : (ds : List ℕ) (k : ℕ) {x y : ℕ} → x < S → y < S → is_onward r ds b k x y ≡ true ↔ (R x y × Away ds b k y)
  unfolding is_onward
  onward_iff ds k {x} {y} hx hy = (
    λ e. ((agree x y hx hy).0 (and_left (r x y) (is_away ds b k y) e), (away_iff ds b k y).0 (and_right (r x y) (is_away ds b k y) e)),
    λ p. and_both (r x y) (is_away ds b k y) ((agree x y hx hy).1 p.0) ((away_iff ds b k y).1 p.1),
  )

  -- l leads on in k steps, and nothing that does is before it
  pub record Smallest (k x : ℕ) (l : List ℕ) : Type 0 where
    pub steps : length l ≡ k
    pub lead : Leads S R b x l
    pub least : (m : List ℕ) → length m ≡ k → Leads S R b x m → Before m l → ⊥

  -- k steps lead from x to b, and no fewer do
  pub record Fewest (k x : ℕ) : Type 0 where
    pub leads : In S R b k x
    pub no_fewer : (i : ℕ) → 1 ≤ i → i < k → In S R b i x → ⊥

  -- from the next state one fewer
  fewest_next : {k x y : ℕ} → y < S → R x y → Fewest (suc k) x → In S R b k y → Fewest k y
  fewest_next {k} {x} {y} hy r f p =
      record { leads = p; no_fewer = λ i m n q. f.no_fewer (suc i) (omega arith) (omega arith) (in_more S R b hy r q) }

  module _ (K : ℕ) (ds : List ℕ) (near : Near S R b K ds) where
    -- the states that are read on from x are the smallest
    pub onward_is : (k : ℕ) → k ≤ K → (x : ℕ) → x < S → Fewest k x → Smallest k x (onward S r ds b k x)
    unfolding onward next_state
    onward_is zero hk x hx f = record { steps = refl; lead = in_none S R b f.leads; least = λ m e p o. none_before m e o }
      where
        none_before : (m : List ℕ) → length m ≡ 0 → Before m [] → ⊥
        none_before m e o = omega (arith, o.inside)
    onward_is (suc k) hk x hx f = go (first_from S 0 test) (first_is S 0 test) (λ y hy p. onward_is k (omega arith) y hy p)
      where
        test : ℕ → Bool
        test = is_onward r ds b k x

        -- a state by which k + 1 steps lead on passes
        passes : (y : ℕ) → y < S → R x y → In S R b k y → test y ≡ true
        passes y hy q p =
            (onward_iff ds k hx hy).1 (q, in_away S R b K ds near k (omega arith) hy p (fewest_next hy q f p).no_fewer)

        least : (y : ℕ) (g : List ℕ) → ((z : ℕ) → 0 ≤ z → z < y → test z ≡ true → ⊥) → Smallest k y g
            → (m : List ℕ) → length m ≡ suc k → Leads S R b x m → Before m (y ∷ g) → ⊥
        least y g low s [] e p o = omega (arith, e)
        least y g low s (z ∷ m) e p o =
            ⊎_elim (λ h. low z (omega arith) h (passes z p.0 p.1 (m, omega (arith, e), p.2)))
            (λ h. s.least m (omega (arith, e)) (subst (λ (n : ℕ). Leads S R b n m) h.0 p.2) h.1)
            (before_cases o)

        go : (o : Option ℕ) → FirstPassing test 0 S o → ((y : ℕ) → y < S → Fewest k y → Smallest k y (onward S r ds b k y))
            → Smallest (suc k) x (or_count S o ∷ onward S r ds b k (or_count S o))
        go none n ih =
            let (y, hy, q, p) = in_less S R b f.leads in
            absurd (n y (omega arith) (omega (arith, hy)) (passes y hy q p))
        go (some y) n ih =
            let hy : y < S = omega (arith, n.1) in
            let q = (onward_iff ds k hx hy).0 n.2 in
            let s = ih y hy (fewest_next hy q.0 f (away_in S R b K ds near k hy q.1)) in
            record {
              steps = omega (arith, s.steps);
              lead = (hy, q.0, s.lead);
              least = least y (onward S r ds b k y) n.3 s;
            }
