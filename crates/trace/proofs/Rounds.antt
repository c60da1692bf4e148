-- A round of the search, state by state.
use mathlib.Core.Path.{◌≡◌, refl, sym, ap₂, subst, ◌∙◌}
use mathlib.Core.Bool.{Bool, true, false, false≢true}
use mathlib.Core.List.{List}
use mathlib.Core.Logic.{◌⊎◌, inl, inr, ⊎_elim}
use Prim.Native.Nat.{ℕ, zero, suc, ◌+◌, ◌*◌, ◌<◌, ◌≤◌}
use native.Mathlib.Nat.{not-suc-le-zero}
use native.Mathlib.Decide.{ℕ_discrete}
use native.Mathlib.Omega.{arith}
use borrow.Author.Count.{below_more}
use lib.ListN.{get_or}
use Rattle.planes.specs.Plane.{cell}
use Rattle.trails.specs.Computed.{or_one_more}
use Rattle.trails.specs.Distances.{Away, Farther}
use Rattle.trace.specs.Search.{Steps, Marked, Advanced}
use Rattle.trails.specs.Laws.Searching.{at_distance, of_distance}

-- a state that has a distance keeps it
has_distance : (d : ℕ) (steps : Bool) (k : ℕ) → (d ≡ 0 → ⊥) → or_one_more d steps k ≡ d
has_distance zero steps k h = absurd (h refl)
has_distance (suc d) steps k h = refl

module _ (work : List ℕ) (pitch b k : ℕ) (before : List ℕ) where
  abbrev S : ℕ
  S = pitch * 8

  abbrev Round : ℕ → List ℕ → Type 0
  Round n after = Farther S (Steps work pitch) b k n before after

  pub round_none : Round 0 before
  round_none = record { kept = λ y hy p. refl; reached = λ y x hy e h. absurd (not-suc-le-zero h); only = λ y hy e. inl e }

  -- a state that is not k steps away adds nothing
  pub round_off : (n : ℕ) (l : List ℕ) → Round n l → (Away before b k n → ⊥) → Round (n + 1) l
  round_off n l F none =
      record { kept = F.kept; reached = λ y x hy e h a r. more y x hy e h a r (ℕ_discrete x n); only = F.only }
    where
      more : (y x : ℕ) → y < S → get_or before y 0 ≡ 0 → x < n + 1 → Away before b k x → Steps work pitch y x → Dec (x ≡ n) → get_or l y 0 ≡ suc k
      more y x hy e h a r (yes q) = absurd (none (subst (Away before b k) q a))
      more y x hy e h a r (no q) = F.reached y x hy e (omega (arith, q)) a r

  -- after a state that is, the states that step to it are marked
  module _ (n m x : ℕ) (l after : List ℕ) (F : Round n l) (hx : x < S) (away : Away before b k x)
      (all : (z : ℕ) → z < m → Away before b k z → (z < n) ⊎ (z ≡ x)) (M : Marked work pitch x k S l after) where
    -- a state that had a distance keeps it
    had : (y : ℕ) → y < S → 1 ≤ get_or l y 0 → get_or after y 0 ≡ get_or l y 0
    had y hy h = M.here y hy ∙ has_distance (get_or l y 0) (cell work 0 pitch y x) k (λ e. omega (arith, e, h))

    kept : (y : ℕ) → y < S → 1 ≤ get_or before y 0 → get_or after y 0 ≡ get_or before y 0
    kept y hy h = let q = F.kept y hy h in had y hy (omega (arith, q)) ∙ q

    reached : (y z : ℕ) → y < S → get_or before y 0 ≡ 0 → z < m → Away before b k z → Steps work pitch y z → get_or after y 0 ≡ suc k
    reached y z hy e hz a r = ⊎_elim fresh old (F.only y hy e)
      where
        old : (get_or l y 0 ≡ suc k) × ((x : ℕ) × (x < S) × Away before b k x × Steps work pitch y x) → get_or after y 0 ≡ suc k
        old q = had y hy (omega (arith, q.0)) ∙ q.0

        fresh : get_or l y 0 ≡ 0 → get_or after y 0 ≡ suc k
        fresh q =
            ⊎_elim (λ h. absurd (omega (arith, q, F.reached y z hy e h a r)))
            (λ p. M.here y hy ∙ ap₂ (λ (d : ℕ) (s : Bool). or_one_more d s k) q (subst (Steps work pitch y) p r))
            (all z hz a)

    only : (y : ℕ) → y < S → get_or before y 0 ≡ 0
        → (get_or after y 0 ≡ 0) ⊎ ((get_or after y 0 ≡ suc k) × ((x : ℕ) × (x < S) × Away before b k x × Steps work pitch y x))
    only y hy e = ⊎_elim (λ q. fresh q (cell work 0 pitch y x) refl) (λ q. inr (had y hy (omega (arith, q.0)) ∙ q.0, q.1)) (F.only y hy e)
      where
        fresh : get_or l y 0 ≡ 0 → (c : Bool) → cell work 0 pitch y x ≡ c
            → (get_or after y 0 ≡ 0) ⊎ ((get_or after y 0 ≡ suc k) × ((x : ℕ) × (x < S) × Away before b k x × Steps work pitch y x))
        fresh q true c = inr (M.here y hy ∙ ap₂ (λ (d : ℕ) (s : Bool). or_one_more d s k) q c, (x, hx, away, c))
        fresh q false c = inl (M.here y hy ∙ ap₂ (λ (d : ℕ) (s : Bool). or_one_more d s k) q c)

    pub round_on : Round m after
    round_on = record { kept = kept; reached = reached; only = only }

  -- the first round marks the states that step to b
  pub round_first : (after : List ℕ) → b < S → k ≡ 0 → Marked work pitch b k S before after → Round S after
  round_first after hb e M =
      round_on 0 S b before after round_none hb (subst (λ (k : ℕ). Away before b k b) (sym e) refl)
      (λ z hz a. inr (subst (λ (k : ℕ). Away before b k z) e a)) M

  -- in the middle of a round a state is at the distance k exactly if it was before
  module _ (n : ℕ) (l : List ℕ) (F : Round n l) (hk : 1 ≤ k) where
    pub was_at : (x : ℕ) → x < S → get_or l x 0 ≡ k → get_or before x 0 ≡ k
    was_at x hx e = go (ℕ_discrete (get_or before x 0) 0)
      where
        go : Dec (get_or before x 0 ≡ 0) → get_or before x 0 ≡ k
        go (yes z) = ⊎_elim (λ q. absurd (omega (arith, q, e, hk))) (λ q. absurd (omega (arith, q.0, e))) (F.only x hx z)
        go (no z) = sym (F.kept x hx (omega (arith, z))) ∙ e

    pub is_at : (x : ℕ) → x < S → get_or before x 0 ≡ k → get_or l x 0 ≡ k
    is_at x hx e = F.kept x hx (omega (arith, e, hk)) ∙ e

-- the loop over the states of a round
module _ (work : List ℕ) (pitch k : ℕ) (hk : 1 ≤ k) (before : List ℕ) where
  pub advanced_none : Advanced work pitch k 0 before false before
  advanced_none = record { len = refl; farther = λ b. round_none work pitch b k before; none = λ e x h. absurd (not-suc-le-zero h) }

  module _ (n : ℕ) (some : Bool) (l : List ℕ) (A : Advanced work pitch k n before some l) (hn : n < pitch * 8) where
    pub advanced_off : (get_or l n 0 ≡ k → ⊥) → Advanced work pitch k (n + 1) before some l
    advanced_off h =
        record {
          len = A.len;
          farther = λ b. round_off work pitch b k before n l (A.farther b) (λ a. no (at_distance before b k n hk a));
          none = λ e. below_more (λ (x : ℕ). get_or before x 0 ≡ k → ⊥) n (A.none e) no;
        }
      where
        no : get_or before n 0 ≡ k → ⊥
        no e = h (is_at work pitch 0 k before n l (A.farther 0) hk n hn e)

    pub advanced_on : (after : List ℕ) → get_or l n 0 ≡ k → Marked work pitch n k (pitch * 8) l after → Advanced work pitch k (n + 1) before true after
    advanced_on after e M =
        record {
          len = M.len ∙ A.len;
          farther = λ b.
              round_on work pitch b k before n (n + 1) n l after (A.farther b) hn
              (of_distance before b k n hk (was_at work pitch 0 k before n l (A.farther 0) hk n hn e)) (λ z hz a. last z hz) M;
          none = λ t. absurd (false≢true (sym t));
        }
      where
        last : (z : ℕ) → z < n + 1 → (z < n) ⊎ (z ≡ n)
        last z h = go (ℕ_discrete z n)
          where
            go : Dec (z ≡ n) → (z < n) ⊎ (z ≡ n)
            go (yes q) = inr q
            go (no q) = inl (omega (arith, q))
