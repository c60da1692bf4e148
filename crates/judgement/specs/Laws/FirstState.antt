-- The first number that passes a test.
use Rattle.std.specs.Prelude.{◌≡◌, refl, Bool, true, false, ℕ, zero, suc, ◌+◌, ◌<◌, ◌≤◌}
use Rattle.std.proofs.Common.{sym, ap, ◌∙◌, arith}
use Rattle.std.proofs.lemmas.Bool.{false≢true}
use Rattle.std.proofs.Math.Option.{Option, none, some}
use Rattle.std.proofs.Math.Decide.{ℕ_discrete}
use Rattle.judgement.specs.Computed.{first_from}

-- it is the first of the k numbers from i on that passes, or none does
abbrev pub FirstPassing : (ℕ → Bool) → ℕ → ℕ → Option ℕ → Type 0
FirstPassing f i k none = (z : ℕ) → i ≤ z → z < i + k → f z ≡ true → ⊥
FirstPassing f i k (some x) = (i ≤ x) × (x < i + k) × (f x ≡ true) × ((z : ℕ) → i ≤ z → z < x → f z ≡ true → ⊥)

-- a number from i on is i, or from suc i on
from_next : {P : Type 0} (i z : ℕ) → i ≤ z → (z ≡ i → P) → (suc i ≤ z → P) → P
from_next {P} i z h f g = go (ℕ_discrete z i)
  where
    go : Dec (z ≡ i) → P
    go (yes e) = f e
    go (no e) = g (omega (arith, e))

skip : (f : ℕ → Bool) (i k : ℕ) → f i ≡ false → (o : Option ℕ) → FirstPassing f (suc i) k o → FirstPassing f i (suc k) o
skip f i k e none h = λ z hz hk t. from_next i z hz (λ q. false≢true (sym e ∙ ap f (sym q) ∙ t)) (λ l. h z l (omega arith) t)
skip f i k e (some x) h = (
  omega (arith, h.0),
  omega (arith, h.1),
  h.2,
  λ z hz hx t. from_next i z hz (λ q. false≢true (sym e ∙ ap f (sym q) ∙ t)) (λ l. h.3 z l hx t),
)

pub first_is : (k i : ℕ) (f : ℕ → Bool) → FirstPassing f i k (first_from k i f)
unfolding first_from
first_is zero i f = λ z h l t. go z h l
  where
    go : (z : ℕ) → i ≤ z → z < i + 0 → ⊥
    go z h l = omega arith
first_is (suc k) i f = go (f i) refl (first_is k (suc i) f)
  where
    none_between : (z : ℕ) → i ≤ z → z < i → ⊥
    none_between z h l = omega arith

    go : (b : Bool) → f i ≡ b → FirstPassing f (suc i) k (first_from k (suc i) f) → FirstPassing f i (suc k) (elim b [ true ↦ some i | false ↦ first_from k (suc i) f ])
    go true e ih = (omega arith, omega arith, e, λ z h l t. none_between z h l)
    go false e ih = skip f i k e (first_from k (suc i) f) ih
