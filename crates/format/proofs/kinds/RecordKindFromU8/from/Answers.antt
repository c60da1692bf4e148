use Prim.Native.Nat.{ℕ, zero, suc}
use native.Mathlib.Omega.{arith}
use mathlib.Core.Path.{◌≡◌, refl}
use Rattle.format.specs.Record.{record_kind}
use Rattle.format.specs.declared.kinds.RecordKind.TheVariants.{Unknown as k_no_record}
use Rattle.format.proofs.kinds.RecordKindFromU8.from.Goals as goal

-- a byte that names no kind
unnamed : (k : ℕ) → (k ≡ 1 → ⊥) → (k ≡ 2 → ⊥) → (k ≡ 3 → ⊥) → (k ≡ 4 → ⊥) → (k ≡ 5 → ⊥) → (k ≡ 9 → ⊥) → k_no_record ≡ record_kind k
unfolding record_kind
unnamed zero h1 h2 h3 h4 h5 h9 = refl
unnamed (suc zero) h1 h2 h3 h4 h5 h9 = absurd (h1 refl)
unnamed (suc (suc zero)) h1 h2 h3 h4 h5 h9 = absurd (h2 refl)
unnamed (suc (suc (suc zero))) h1 h2 h3 h4 h5 h9 = absurd (h3 refl)
unnamed (suc (suc (suc (suc zero)))) h1 h2 h3 h4 h5 h9 = absurd (h4 refl)
unnamed (suc (suc (suc (suc (suc zero))))) h1 h2 h3 h4 h5 h9 = absurd (h5 refl)
unnamed (suc (suc (suc (suc (suc (suc zero)))))) h1 h2 h3 h4 h5 h9 = refl
unnamed (suc (suc (suc (suc (suc (suc (suc zero))))))) h1 h2 h3 h4 h5 h9 = refl
unnamed (suc (suc (suc (suc (suc (suc (suc (suc zero)))))))) h1 h2 h3 h4 h5 h9 = refl
unnamed (suc (suc (suc (suc (suc (suc (suc (suc (suc zero))))))))) h1 h2 h3 h4 h5 h9 = absurd (h9 refl)
unnamed (suc (suc (suc (suc (suc (suc (suc (suc (suc (suc k)))))))))) h1 h2 h3 h4 h5 h9 = refl

pub returns-in-1 : goal.returns-in-1
unfolding record_kind
returns-in-1 c = rw c.in-1.is

pub returns-in-2 : goal.returns-in-2
unfolding record_kind
returns-in-2 c = rw c.in-2.is

pub returns-in-3 : goal.returns-in-3
unfolding record_kind
returns-in-3 c = rw c.in-3.is

pub returns-in-4 : goal.returns-in-4
unfolding record_kind
returns-in-4 c = rw c.in-4.is

pub returns-in-5 : goal.returns-in-5
unfolding record_kind
returns-in-5 c = rw c.in-5.is

pub returns-in-9 : goal.returns-in-9
unfolding record_kind
returns-in-9 c = rw c.in-9.is

pub returns-in-0 : goal.returns-in-0
returns-in-0 c = unnamed c.args.b (λ h. omega arith) (λ h. omega arith) (λ h. omega arith) (λ h. omega arith) (λ h. omega arith) (λ h. omega arith)

pub returns-in-0-2 : goal.returns-in-0-2
returns-in-0-2 c = unnamed c.args.b (λ h. omega arith) (λ h. omega arith) (λ h. omega arith) (λ h. omega arith) (λ h. omega arith) (λ h. omega arith)
