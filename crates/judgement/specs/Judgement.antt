-- The verdict on a network, with the proof that it is the one that is meant, and that no other is.
use Rattle.std.specs.Prelude.{◌≡◌, refl, ◌⊎◌}
use Rattle.std.proofs.Math.Path.{sym, subst⁻¹}
use Rattle.std.proofs.Common.{◌∙◌, inl, inr, ⊎_elim, not-suc-le-zero, suc-add, add-suc, arith}
use Rattle.std.proofs.Math.Option.{Option, none, some}
use Prim.Native.Nat.{ℕ, zero, suc, ◌+◌, ◌<◌}
use Rattle.std.proofs.Math.Decide.{ℕ_discrete, dec_lt}
use Rattle.std.proofs.Math.Pow.{pow_pos}
use Rattle.format.specs.Record.{Net, widths_of}
use Rattle.widths.specs.Widths.{width, states}
use Rattle.format.specs.Policy.{forbidden, policy_count}
use Rattle.judgement.specs.Verdict.{Verdict, holds, violated, Breaks, Lowest, Is}
use Rattle.truth.specs.Computed.{truth}
use Rattle.judgement.specs.Computed.{first_from, lowest_state, verdict_from, table_of}
use Rattle.judgement.specs.Laws.FirstState.{FirstPassing, first_is}
use Rattle.judgement.specs.Laws.Tabled.{truth_iff}

module _ (net : Net) where
  pub a_state : 0 < states (widths_of net)
  unfolding states
  a_state = pow_pos (width (widths_of net))

  -- the lowest state that breaks p, or none does
  abbrev LowestOf : ℕ → Option ℕ → Type 0
  LowestOf p none = (z : ℕ) → z < states (widths_of net) → Breaks net p z → ⊥
  LowestOf p (some x) = (x < states (widths_of net)) × Breaks net p x × ((z : ℕ) → z < x → Breaks net p z → ⊥)

  meant : (p : ℕ) (o : Option ℕ) → FirstPassing (λ x. truth (table_of net) (forbidden net p) x 0) 0 (states (widths_of net)) o → LowestOf p o
  meant p none f = λ z hz b. f z (omega arith) (omega arith) ((truth_iff net (forbidden net p) z 0 hz a_state).1 b)
  meant p (some x) f =
      let hx : x < states (widths_of net) = omega (arith, f.1) in (
        hx,
        (truth_iff net (forbidden net p) x 0 hx a_state).0 f.2,
        λ z hz b. f.3 z (omega arith) hz ((truth_iff net (forbidden net p) z 0 (omega arith) a_state).1 b),
      )

  lowest_is : (p : ℕ) → LowestOf p (lowest_state net (table_of net) p)
  unfolding lowest_state table_of
  lowest_is p =
      meant p (first_from (states (widths_of net)) 0 (λ x. truth (table_of net) (forbidden net p) x 0))
      (first_is (states (widths_of net)) 0 (λ x. truth (table_of net) (forbidden net p) x 0))

  -- no policy below p is broken
  abbrev Sound : ℕ → Type 0
  Sound p = (q : ℕ) → q < p → (z : ℕ) → z < states (widths_of net) → Breaks net q z → ⊥

  one_more : (p : ℕ) → Sound p → LowestOf p none → Sound (suc p)
  one_more p s l q hq = go (ℕ_discrete q p)
    where
      go : Dec (q ≡ p) → (z : ℕ) → z < states (widths_of net) → Breaks net q z → ⊥
      go (yes e) = subst⁻¹ (λ (q : ℕ). (z : ℕ) → z < states (widths_of net) → Breaks net q z → ⊥) e l
      go (no e) = s q (omega (arith, e))

  from_policy : (k p : ℕ) → p + k ≡ policy_count net → Sound p → Is net (verdict_from net (table_of net) k p)
  unfolding verdict_from
  from_policy zero p e s = λ q hq. s q (omega (arith, e))
  from_policy (suc k) p e s = go (lowest_state net (table_of net) p) (lowest_is p) (from_policy k (suc p) (suc-add p k ∙ sym (add-suc p k) ∙ e))
    where
      go : (o : Option ℕ) → LowestOf p o → (Sound (suc p) → Is net (verdict_from net (table_of net) k (suc p)))
          → Is net (elim o [ none ↦ verdict_from net (table_of net) k (suc p) | some x ↦ violated p x ])
      go none l ih = ih (one_more p s l)
      go (some x) l ih = record { a_policy = omega (arith, e); a_state = l.0; broken = l.1; no_state_below = l.2; no_policy_below = s }

  none_below : Sound 0
  none_below q hq = absurd (not-suc-le-zero hq)

  pub computed_is : Is net (verdict_from net (table_of net) (policy_count net) 0)
  computed_is = from_policy (policy_count net) 0 (omega arith) none_below

-- the verdict that is meant, with the proof that it is
unfoldable pub judgement : (net : Net) → (v : Verdict) × Is net v
judgement net = (verdict_from net (table_of net) (policy_count net) 0, computed_is net)

-- the verdict on a network
unfoldable pub verdict : Net → Verdict
verdict net = (judgement net).0

-- it is the one that is meant
pub verdict_meant : (net : Net) → Is net (verdict net)
unfolding verdict
verdict_meant net = (judgement net).1

order : (a b : ℕ) → (a < b) ⊎ ((a ≡ b) ⊎ (b < a))
order a b = go (dec_lt a b) (dec_lt b a)
  where
    go : Dec (a < b) → Dec (b < a) → (a < b) ⊎ ((a ≡ b) ⊎ (b < a))
    go (yes h) d = inl h
    go (no h) (yes k) = inr (inr k)
    go (no h) (no k) = inr (inl (omega (arith, h, k)))

one_lowest : (net : Net) (p x q y : ℕ) → Lowest net p x → Lowest net q y → violated p x ≡ violated q y
one_lowest net p x q y a b =
    ⊎_elim (λ h. absurd (b.no_policy_below p h x a.a_state a.broken))
    (λ r. ⊎_elim
    (λ e. let b2 : Lowest net p y = subst⁻¹ (λ (q : ℕ). Lowest net q y) e b in
    ⊎_elim (λ h. absurd (b2.no_state_below x h a.broken))
    (λ r2. ⊎_elim (λ e2. cc) (λ h. absurd (a.no_state_below y h b2.broken)) r2)
    (order x y))
    (λ h. absurd (a.no_policy_below q h y b.a_state b.broken)) r)
    (order p q)

-- at most one verdict is meant
pub only : (net : Net) (v w : Verdict) → Is net v → Is net w → v ≡ w
only net holds holds a b = refl
only net holds (violated q y) a b = absurd (a q b.a_policy y b.a_state b.broken)
only net (violated p x) holds a b = absurd (b p a.a_policy x a.a_state a.broken)
only net (violated p x) (violated q y) a b = one_lowest net p x q y a b
