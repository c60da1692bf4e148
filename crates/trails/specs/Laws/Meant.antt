-- The computed route is the one that is meant, and no other is: for any relation that a test decides, and any count of states.
use Rattle.std.specs.Prelude.{◌≡◌, cond, List, [], ◌∷◌, ◌↔◌, ◌⊎◌, length, get_or}
use Rattle.std.proofs.Math.Path.{refl}
use Rattle.std.proofs.Common.{sym, ap, subst, ◌∙◌, inl, inr, ⊎_elim, zero-add, arith}
use Rattle.std.proofs.Math.Bool.{Bool, true, false}
use Rattle.std.proofs.Math.Option.{Option, none, some}
use Prim.Native.Nat.{ℕ, zero, suc, ◌+◌, ◌<◌, ◌≤◌}
use Rattle.std.proofs.Math.Decide.{dec_lt}
use borrow.Author.Tests.{eqb-true, eqb-false}
use Rattle.std.proofs.Math.Dec.{eqb}
use Rattle.basics.specs.Tabulated.{tab}
use Rattle.basics.specs.Laws.Tabulated.{tab_at}
use Rattle.walks.specs.Walk.{Walk}
use Rattle.walks.specs.Laws.Walks.{start, map_walk}
use Rattle.basics.specs.Below.{any_below}
use Rattle.basics.specs.Laws.Below.{any_iff}
use Rattle.trails.specs.Route.{Trail, Before, Route, Is}
use Rattle.trails.specs.Computed.{is_onward, or_one_more, farther_at, distances, onward, route_by, route_of}
use Rattle.trails.specs.Distances.{Away, Near, Farther}
use Rattle.trails.specs.Laws.Leading.{Leads, trail, untrail, walk, unwalk}
use Rattle.trails.specs.Laws.Cutting.{short}
use Rattle.trails.specs.Laws.Searching.{near_start, near_more}
use Rattle.trails.specs.Laws.Onward.{before_cases, onward_iff, Smallest, Fewest, onward_is}

-- of two lists of one length that differ, one is before the other
compare : (l m : List ℕ) → length l ≡ length m → (l ≡ m) ⊎ (Before l m ⊎ Before m l)
compare [] [] e = inl refl
compare [] (y ∷ m) e = absurd (omega (arith, e))
compare (x ∷ l) [] e = absurd (omega (arith, e))
compare (x ∷ l) (y ∷ m) e = go (dec_lt x y) (dec_lt y x) (compare l m (omega (arith, e)))
  where
    at_once : (x y : ℕ) (l m : List ℕ) → x < y → Before (x ∷ l) (y ∷ m)
    at_once x y l m h = record { place = 0; inside = omega arith; same = λ i k. absurd (none i k); smaller = h }
      where
        none : (i : ℕ) → i < 0 → ⊥
        none i k = omega arith

    later : (x y : ℕ) (l m : List ℕ) → x ≡ y → Before l m → Before (x ∷ l) (y ∷ m)
    later x y l m h o = record { place = suc o.place; inside = omega (arith, o.inside); same = same; smaller = o.smaller }
      where
        same : (i : ℕ) → i < suc o.place → get_or (x ∷ l) i 0 ≡ get_or (y ∷ m) i 0
        same zero k = h
        same (suc i) k = o.same i (omega arith)

    go : Dec (x < y) → Dec (y < x) → (l ≡ m) ⊎ (Before l m ⊎ Before m l) → (x ∷ l ≡ y ∷ m) ⊎ (Before (x ∷ l) (y ∷ m) ⊎ Before (y ∷ m) (x ∷ l))
    go (yes h) d r = inr (inl (at_once x y l m h))
    go (no h) (yes k) r = inr (inr (at_once y x m l k))
    go (no h) (no k) r =
        let q : x ≡ y = omega (arith, h, k) in
        ⊎_elim (λ p. inl (cc)) (λ s. inr (⊎_elim (λ o. inl (later x y l m q o)) (λ o. inr (later y x m l (sym q) o)) s)) r

module _ (S : ℕ) (R : ℕ → ℕ → Type 0) where
  -- there is at most one route
  pub one_route : {a b : ℕ} {l m : List ℕ} → Route S R a b l → Route S R a b m → l ≡ m
  one_route {a} {b} {l} {m} p q =
      ⊎_elim (λ h. h)
      (λ h. ⊎_elim (λ o. absurd (q.smallest l p.path e o)) (λ o. absurd (p.smallest m q.path (sym e) o)) h)
      (compare l m e)
    where
      e : length l ≡ length m
      e = omega (arith, p.fewest m q.path, q.fewest l p.path)

  -- a walk leads where a path does
  pub trail_walk : {a b : ℕ} {l : List ℕ} → Trail S R a b l → Walk S R a b
  trail_walk {a} {b} {l} t = let u = untrail S R b l t in go u.0 u.2 u.3 u.4
    where
      go : (k : List ℕ) → a < S → 1 ≤ length k → Leads S R b a k → Walk S R a b
      go [] ha h e = absurd (omega (arith, h))
      go (y ∷ k) ha h e = walk S R b a y k ha e

  -- where a walk leads, a path of at most count + 1 states does
  pub short_trail : {a b : ℕ} → Walk S R a b → (l : List ℕ) × Trail S R a b l × (length l ≤ S + 1)
  short_trail {a} {b} w =
      let u = unwalk w in
      let s = short S R b a u.1.0 u.1.1 u.1.2 in
      (a ∷ s.0, trail S R b a s.0 u.0 s.2 s.1, omega (arith, s.3))

  -- a route has at most count + 1 states
  pub route_short : {a b : ℕ} {l : List ℕ} → Route S R a b l → length l ≤ S + 1
  route_short p = let s = short_trail (trail_walk p.path) in omega (arith, p.fewest s.0 s.1, s.2)

  -- at most one answer is meant
  pub only : (a b : ℕ) (o p : Option (List ℕ)) → Is S R a b o → Is S R a b p → o ≡ p
  only a b none none h k = refl
  only a b none (some m) h k = absurd (h (trail_walk k.path))
  only a b (some l) none h k = absurd (k (trail_walk h.path))
  only a b (some l) (some m) h k = ap {B = Option (List ℕ)} some (one_route h k)

-- two relations that agree have the same routes
module _ (S : ℕ) (R Q : ℕ → ℕ → Type 0) (same : (x y : ℕ) → x < S → y < S → R x y ↔ Q x y) (a b : ℕ) where
  to : {l : List ℕ} → Trail S R a b l → Trail S Q a b l
  to {l} t =
      record {
        two = t.two;
        first = t.first;
        last = t.last;
        below = t.below;
        steps = λ i h. (same (get_or l i 0) (get_or l (suc i) 0) (t.below i (omega arith)) (t.below (suc i) h)).0 (t.steps i h);
      }

  of : {l : List ℕ} → Trail S Q a b l → Trail S R a b l
  of {l} t =
      record {
        two = t.two;
        first = t.first;
        last = t.last;
        below = t.below;
        steps = λ i h. (same (get_or l i 0) (get_or l (suc i) 0) (t.below i (omega arith)) (t.below (suc i) h)).1 (t.steps i h);
      }

  -- the answer meant over one is that over the other
  pub is_same : (o : Option (List ℕ)) → Is S R a b o → Is S Q a b o
  is_same none h = λ w. h (map_walk (λ x y hx hy. (same x y hx hy).1) w)
  is_same (some l) h =
      record { path = to h.path; fewest = λ m t. h.fewest m (of t); smallest = λ m t. h.smallest m (of t) }

module _ (S : ℕ) (R : ℕ → ℕ → Type 0) (r : ℕ → ℕ → Bool) (agree : (x y : ℕ) → x < S → y < S → r x y ≡ true ↔ R x y) (a b : ℕ) where
  -- the smallest states after a, of the fewest steps to b, are the route
  route_is : (d : ℕ) (g : List ℕ) → a < S → 1 ≤ d → Fewest S R r agree b d a → Smallest S R r agree b d a g → Route S R a b (a ∷ g)
  route_is d g ha hd f s = record { path = trail S R b a g ha (omega (arith, hd, s.steps)) s.lead; fewest = fewest; smallest = smallest }
    where
      fewest : (m : List ℕ) → Trail S R a b m → length (a ∷ g) ≤ length m
      fewest m t = let u = untrail S R b m t in go u.0 u.1 u.3 u.4 (dec_lt (length u.0) d)
        where
          go : (l : List ℕ) → m ≡ a ∷ l → 1 ≤ length l → Leads S R b a l → Dec (length l < d) → length (a ∷ g) ≤ length m
          go l e h p (yes k) = absurd (f.no_fewer (length l) h k (l, refl, p))
          go l e h p (no k) = omega (arith, k, ap length e, s.steps)

      smallest : (m : List ℕ) → Trail S R a b m → length m ≡ length (a ∷ g) → Before m (a ∷ g) → ⊥
      smallest m t e o =
          let u = untrail S R b m t in
          ⊎_elim (λ h. omega (arith, h)) (λ h. s.least u.0 (omega (arith, e, ap length u.1, s.steps)) u.4 h.1)
          (before_cases (subst (λ (m : List ℕ). Before m (a ∷ g)) u.1 o))

  module _ (k : ℕ) (ds : List ℕ) (near : Near S R b k ds) (ha : a < S) where
    -- a distance of a is the fewest steps
    fewest_at : 1 ≤ get_or ds a 0 → Fewest S R r agree b (get_or ds a 0) a
    fewest_at h =
        record {
          leads = near.leads a ha h;
          no_fewer = λ i m n p. none i n (near.found a i ha m (omega (arith, n, near.up_to a ha)) p).1;
        }
      where
        none : (i : ℕ) → i < get_or ds a 0 → get_or ds a 0 ≤ i → ⊥
        none i n m = omega arith

    -- the route by the distance of a
    pub route_by_lem : 1 ≤ get_or ds a 0 → Route S R a b (a ∷ onward S r ds b (get_or ds a 0) a)
    route_by_lem h =
        route_is (get_or ds a 0) (onward S r ds b (get_or ds a 0) a) ha h (fewest_at h)
        (onward_is S R r agree b k ds near (get_or ds a 0) (near.up_to a ha) a ha (fewest_at h))

    -- nothing leads from a where it has no distance and none is farther
    pub no_walk : S ≤ k → get_or ds a 0 ≡ 0 → Walk S R a b → ⊥
    no_walk far e w =
        let u = unwalk w in
        let s = short S R b a u.1.0 u.1.1 u.1.2 in
        omega (arith, e, (near.found a (length s.0) ha s.2 (omega (arith, s.3, far)) (s.0, refl, s.1)).0)

    -- the answer by distances of which none is farther
    by_distances : S ≤ k → Is S R a b (route_by S r ds a b)
    unfolding route_by
    by_distances far = go (eqb (get_or ds a 0) 0) refl
      where
        go : (c : Bool) → eqb (get_or ds a 0) 0 ≡ c → Is S R a b (cond c none (some (a ∷ onward S r ds b (get_or ds a 0) a)))
        go true c = no_walk far (eqb-true (get_or ds a 0) 0 c)
        go false c = route_by_lem (omega (arith, eqb-false (get_or ds a 0) 0 c))

  -- the computed round is one
  farther : (k : ℕ) (ds : List ℕ) → Farther S R b k S ds (tab S 0 (farther_at S r b k ds))
  unfolding farther_at
  farther k ds =
      record {
        kept = λ y hy p. at y hy ∙ kept y (get_or ds y 0) refl p;
        reached = λ y x hy e hx w q. at y hy ∙ reached y x hy e hx w q;
        only = λ y hy e. only_new y hy e (any y) refl;
      }
    where
      any : ℕ → Bool
      any y = any_below S (is_onward r ds b k y)

      now_at : ℕ → ℕ
      now_at y = or_one_more (get_or ds y 0) (any y) k

      at : (y : ℕ) → y < S → get_or (tab S 0 (farther_at S r b k ds)) y 0 ≡ now_at y
      at y hy = tab_at S 0 (farther_at S r b k ds) y 0 hy ∙ ap (farther_at S r b k ds) (zero-add y)

      kept : (y d : ℕ) → get_or ds y 0 ≡ d → 1 ≤ d → or_one_more d (any y) k ≡ d
      kept y zero e p = absurd (omega (arith, p))
      kept y (suc d) e p = refl

      reached : (y x : ℕ) → y < S → get_or ds y 0 ≡ 0 → x < S → Away ds b k x → R y x → now_at y ≡ suc k
      reached y x hy e hx w q = rw e (rw ((any_iff S (is_onward r ds b k y)).1 (x, hx, (onward_iff S R r agree b ds k hy hx).1 (q, w))) refl)

      only_new : (y : ℕ) → y < S → get_or ds y 0 ≡ 0 → (c : Bool) → any y ≡ c
          → (get_or (tab S 0 (farther_at S r b k ds)) y 0 ≡ 0)
          ⊎ ((get_or (tab S 0 (farther_at S r b k ds)) y 0 ≡ suc k) × ((x : ℕ) × (x < S) × Away ds b k x × R y x))
      only_new y hy e false c = inl (at y hy ∙ rw e (rw c refl))
      only_new y hy e true c =
          let (x, hx, t) = (any_iff S (is_onward r ds b k y)).0 c in
          let q = (onward_iff S R r agree b ds k hy hx).0 t in
          inr (at y hy ∙ rw e (rw c refl), (x, hx, q.1, q.0))

  -- so that the computed distances are those up to k
  distances_near : (k : ℕ) → Near S R b k (distances S r b k)
  unfolding distances
  distances_near zero = near_start S R b (tab S 0 (λ y. 0)) (λ x hx. tab_at S 0 (λ y. 0) x 0 hx)
  distances_near (suc k) = near_more S R b k (distances S r b k) (distances_near k) (tab S 0 (farther_at S r b k (distances S r b k))) (farther k (distances S r b k))

  -- the computed answer is the one that is meant
  pub route_meant : a < S → Is S R a b (route_of S r a b)
  unfolding route_of
  route_meant ha = by_distances S (distances S r b S) (distances_near S) ha (omega arith)

  -- there is a route exactly if there is a walk
  pub route_iff : ((l : List ℕ) × Route S R a b l) ↔ Walk S R a b
  route_iff = (λ p. trail_walk S R p.1.path, λ w. go (route_of S r a b) (route_meant (start w)) w)
    where
      go : (o : Option (List ℕ)) → Is S R a b o → Walk S R a b → (l : List ℕ) × Route S R a b l
      go none h w = absurd (h w)
      go (some l) h w = (l, h)
