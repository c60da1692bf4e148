-- What tests of all the numbers below one say.
use Rattle.std.specs.Prelude.{◌≡◌, refl, Bool, true, false, ◌↔◌, ℕ, zero, suc, ◌<◌}
use Rattle.std.proofs.Common.{sym, ap, ◌∙◌, not-suc-le-zero, arith}
use Rattle.std.proofs.lemmas.Bool.{false≢true}
use Rattle.std.proofs.Math.Decide.{ℕ_discrete}
use Rattle.basics.specs.Below.{any_below, all_below}

-- a number below suc k is k, or is below k
below : {P : Type 0} (z k : ℕ) → z < suc k → (z ≡ k → P) → (z < k → P) → P
below {P} z k h f g = go (ℕ_discrete z k)
  where
    go : Dec (z ≡ k) → P
    go (yes e) = f e
    go (no e) = g (omega (arith, e))

pub any_iff : (k : ℕ) (f : ℕ → Bool) → any_below k f ≡ true ↔ ((z : ℕ) × (z < k) × (f z ≡ true))
unfolding any_below
any_iff zero f = (λ t. absurd (false≢true t), λ r. absurd (not-suc-le-zero r.1))
any_iff (suc k) f = go (f k) refl (any_iff k f)
  where
    go : (b : Bool) → f k ≡ b → any_below k f ≡ true ↔ ((z : ℕ) × (z < k) × (f z ≡ true))
        → ◌≡◌ {A = Bool} (elim b [ true ↦ true | false ↦ any_below k f ]) true ↔ ((z : ℕ) × (z < suc k) × (f z ≡ true))
    go true e ih = (λ t. (k, omega arith, e), λ r. refl)
    go false e ih = (
      λ t. let r = ih.0 t in (r.0, omega (arith, r.1), r.2),
      λ r. below r.0 k r.1 (λ q. absurd (false≢true (sym e ∙ ap f (sym q) ∙ r.2))) (λ l. ih.1 (r.0, l, r.2)),
    )

pub all_iff : (k : ℕ) (f : ℕ → Bool) → all_below k f ≡ true ↔ ((z : ℕ) → z < k → f z ≡ true)
unfolding all_below
all_iff zero f = (λ t z h. absurd (not-suc-le-zero h), λ r. refl)
all_iff (suc k) f = go (f k) refl (all_iff k f)
  where
    go : (b : Bool) → f k ≡ b → all_below k f ≡ true ↔ ((z : ℕ) → z < k → f z ≡ true)
        → ◌≡◌ {A = Bool} (elim b [ true ↦ all_below k f | false ↦ false ]) true ↔ ((z : ℕ) → z < suc k → f z ≡ true)
    go true e ih = (λ t z h. below z k h (λ q. ap f q ∙ e) (λ l. ih.0 t z l), λ r. ih.1 (λ z h. r z (omega arith)))
    go false e ih = (λ t. absurd (false≢true t), λ r. absurd (false≢true (sym e ∙ r k (omega arith))))
