-- The distances after a round of the search.
use Rattle.std.specs.Prelude.{◌≡◌, refl, List, [], ◌∷◌, ◌⊎◌, ℕ, zero, suc, ◌+◌, ◌<◌, ◌≤◌, get_or}
use Rattle.std.proofs.Common.{sym, subst, inl, inr, ⊎_elim, arith}
use Rattle.std.proofs.Math.Decide.{ℕ_discrete, dec_le}
use Rattle.trails.specs.Distances.{Away, In, Near, Farther}

-- one step or more away is a distance
pub at_distance : (ds : List ℕ) (b k x : ℕ) → 1 ≤ k → Away ds b k x → get_or ds x 0 ≡ k
at_distance ds b zero x h a = absurd (omega (arith, h))
at_distance ds b (suc k) x h a = a

pub of_distance : (ds : List ℕ) (b k x : ℕ) → 1 ≤ k → get_or ds x 0 ≡ k → Away ds b k x
of_distance ds b zero x h a = absurd (omega (arith, h))
of_distance ds b (suc k) x h a = a

module _ (S : ℕ) (R : ℕ → ℕ → Type 0) (b : ℕ) where
  -- one step more
  pub in_more : {k x y : ℕ} → y < S → R x y → In S R b k y → In S R b (suc k) x
  in_more {k} {x} {y} hy r (l, e, p) = (y ∷ l, omega (arith, e), (hy, r, p))

  -- and one less: the first step
  pub in_less : {k x : ℕ} → In S R b (suc k) x → (y : ℕ) × (y < S) × R x y × In S R b k y
  in_less ([], e, p) = absurd (omega (arith, e))
  in_less (y ∷ l, e, p) = (y, p.0, p.1, (l, omega (arith, e), p.2))

  -- no steps lead only from b
  pub in_none : {x : ℕ} → In S R b 0 x → x ≡ b
  in_none ([], e, p) = p
  in_none (y ∷ l, e, p) = absurd (omega (arith, e))

  -- at first no distance is known
  pub near_start : (ds : List ℕ) → ((x : ℕ) → x < S → get_or ds x 0 ≡ 0) → Near S R b 0 ds
  near_start ds h =
      record {
        up_to = λ x hx. omega (arith, h x hx);
        leads = λ x hx p. absurd (omega (arith, p, h x hx));
        found = λ x i hx p q. absurd (omega (arith, p, q));
      }

  module _ (K : ℕ) (ds : List ℕ) (near : Near S R b K ds) where
    -- from a state that is k steps away k steps lead to b
    pub away_in : (k : ℕ) {x : ℕ} → x < S → Away ds b k x → In S R b k x
    away_in zero {x} hx a = ([], refl, a)
    away_in (suc k) {x} hx a = subst (λ (n : ℕ). In S R b n x) a (near.leads x hx (omega (arith, a)))

    -- a state from which k steps lead to b, and no fewer, is k steps away
    pub in_away : (k : ℕ) → k ≤ K → {x : ℕ} → x < S → In S R b k x → ((i : ℕ) → 1 ≤ i → i < k → In S R b i x → ⊥) → Away ds b k x
    in_away zero hk {x} hx p few = in_none p
    in_away (suc k) hk {x} hx p few =
        let q = near.found x (suc k) hx (omega arith) hk p in
        eq (ℕ_discrete (get_or ds x 0) (suc k)) q.0 q.1
      where
        eq : Dec (get_or ds x 0 ≡ suc k) → 1 ≤ get_or ds x 0 → get_or ds x 0 ≤ suc k → get_or ds x 0 ≡ suc k
        eq (yes e) m n = e
        eq (no e) m n = absurd (few (get_or ds x 0) m (omega (arith, n, e)) (near.leads x hx m))

    module _ (after : List ℕ) (f : Farther S R b K S ds after) where
      cases : (y : ℕ) → (get_or ds y 0 ≡ 0) ⊎ (1 ≤ get_or ds y 0)
      cases y = go (ℕ_discrete (get_or ds y 0) 0)
        where
          go : Dec (get_or ds y 0 ≡ 0) → (get_or ds y 0 ≡ 0) ⊎ (1 ≤ get_or ds y 0)
          go (yes e) = inl e
          go (no e) = inr (omega (arith, e))

      up_to : (y : ℕ) → y < S → get_or after y 0 ≤ suc K
      up_to y hy =
          ⊎_elim (λ e. ⊎_elim (λ q. omega (arith, q)) (λ q. omega (arith, q.0)) (f.only y hy e))
          (λ h. omega (arith, f.kept y hy h, near.up_to y hy))
          (cases y)

      leads : (y : ℕ) → y < S → 1 ≤ get_or after y 0 → In S R b (get_or after y 0) y
      leads y hy p = ⊎_elim new old (cases y)
        where
          old : 1 ≤ get_or ds y 0 → In S R b (get_or after y 0) y
          old h = subst (λ (n : ℕ). In S R b n y) (sym (f.kept y hy h)) (near.leads y hy h)

          new : get_or ds y 0 ≡ 0 → In S R b (get_or after y 0) y
          new e =
              ⊎_elim (λ q. absurd (omega (arith, p, q)))
              (λ q. subst (λ (n : ℕ). In S R b n y) (sym q.0) (in_more q.1.1 q.1.3 (away_in K q.1.1 q.1.2)))
              (f.only y hy e)

      -- a state without a distance from which K + 1 steps lead to b has it now
      first : (y : ℕ) → y < S → get_or ds y 0 ≡ 0 → In S R b (suc K) y → get_or after y 0 ≡ suc K
      first y hy e p =
          let (z, hz, r, q) = in_less p in
          f.reached y z hy e hz (in_away K (omega arith) hz q (λ i m n o. none i m n (in_more hz r o))) r
        where
          none : (i : ℕ) → 1 ≤ i → i < K → In S R b (suc i) y → ⊥
          none i m n o = omega (arith, (near.found y (suc i) hy (omega arith) (omega arith) o).0, e)

      found : (y i : ℕ) → y < S → 1 ≤ i → i ≤ suc K → In S R b i y → (1 ≤ get_or after y 0) × (get_or after y 0 ≤ i)
      found y i hy m n p = go (dec_le i K) (cases y)
        where
          go : Dec (i ≤ K) → (get_or ds y 0 ≡ 0) ⊎ (1 ≤ get_or ds y 0) → (1 ≤ get_or after y 0) × (get_or after y 0 ≤ i)
          go (yes h) c =
              let q = near.found y i hy m h p in
              (omega (arith, q.0, f.kept y hy q.0), omega (arith, q.1, f.kept y hy q.0))
          go (no h) (inr c) = (omega (arith, c, f.kept y hy c), omega (arith, h, f.kept y hy c, near.up_to y hy))
          go (no h) (inl e) =
              let j : i ≡ suc K = omega (arith, h, n) in
              let q = first y hy e (subst (λ (n : ℕ). In S R b n y) j p) in
              (omega (arith, q), omega (arith, q, j))

      -- a round makes the distances up to K those up to K + 1
      pub near_more : Near S R b (suc K) after
      near_more = record { up_to = up_to; leads = leads; found = found }

  -- where no state is k steps away, none is farther
  pub near_all : (n k : ℕ) (ds : List ℕ) → 1 ≤ k → Near S R b k ds → ((x : ℕ) → x < S → get_or ds x 0 ≡ k → ⊥) → Near S R b (n + k) ds
  near_all zero k ds h near none = subst (λ (k : ℕ). Near S R b k ds) (omega arith) near
  near_all (suc n) k ds h near none =
      subst (λ (k : ℕ). Near S R b k ds) (omega arith)
      (near_all n (suc k) ds (omega arith) (near_more k ds near ds same) (λ x hx e. omega (arith, e, near.up_to x hx)))
    where
      same : Farther S R b k S ds ds
      same =
          record {
            kept = λ y hy p. refl;
            reached = λ y x hy e hx a r. absurd (none x hx (at_distance ds b k x h a));
            only = λ y hy e. inl e;
          }
