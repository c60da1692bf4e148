use Prim.Native.Nat.{ℕ, zero, suc}
use native.Mathlib.Omega.{arith}
use mathlib.Core.Path.{◌≡◌, refl}
use Rattle.format.specs.Policy.{node_kind}
use Rattle.format.specs.declared.kinds.NodeKind.TheVariants.{Unknown as k_none}
use Rattle.format.proofs.kinds.NodeKindFromU8.from.Goals as goal

-- a byte that names no kind
unnamed : (k : ℕ) → (k ≡ 0 → ⊥) → (k ≡ 1 → ⊥) → (k ≡ 2 → ⊥) → (k ≡ 3 → ⊥) → (k ≡ 4 → ⊥) → (k ≡ 5 → ⊥) → (k ≡ 6 → ⊥) → (k ≡ 7 → ⊥) → (k ≡ 8 → ⊥) → k_none ≡ node_kind k
unfolding node_kind
unnamed zero h0 h1 h2 h3 h4 h5 h6 h7 h8 = absurd (h0 refl)
unnamed (suc zero) h0 h1 h2 h3 h4 h5 h6 h7 h8 = absurd (h1 refl)
unnamed (suc (suc zero)) h0 h1 h2 h3 h4 h5 h6 h7 h8 = absurd (h2 refl)
unnamed (suc (suc (suc zero))) h0 h1 h2 h3 h4 h5 h6 h7 h8 = absurd (h3 refl)
unnamed (suc (suc (suc (suc zero)))) h0 h1 h2 h3 h4 h5 h6 h7 h8 = absurd (h4 refl)
unnamed (suc (suc (suc (suc (suc zero))))) h0 h1 h2 h3 h4 h5 h6 h7 h8 = absurd (h5 refl)
unnamed (suc (suc (suc (suc (suc (suc zero)))))) h0 h1 h2 h3 h4 h5 h6 h7 h8 = absurd (h6 refl)
unnamed (suc (suc (suc (suc (suc (suc (suc zero))))))) h0 h1 h2 h3 h4 h5 h6 h7 h8 = absurd (h7 refl)
unnamed (suc (suc (suc (suc (suc (suc (suc (suc zero)))))))) h0 h1 h2 h3 h4 h5 h6 h7 h8 = absurd (h8 refl)
unnamed (suc (suc (suc (suc (suc (suc (suc (suc (suc k))))))))) h0 h1 h2 h3 h4 h5 h6 h7 h8 = refl

pub returns-in-0 : goal.returns-in-0
unfolding node_kind
returns-in-0 c = rw c.in-0.is

pub returns-in-1 : goal.returns-in-1
unfolding node_kind
returns-in-1 c = rw c.in-1.is

pub returns-in-2 : goal.returns-in-2
unfolding node_kind
returns-in-2 c = rw c.in-2.is

pub returns-in-3 : goal.returns-in-3
unfolding node_kind
returns-in-3 c = rw c.in-3.is

pub returns-in-4 : goal.returns-in-4
unfolding node_kind
returns-in-4 c = rw c.in-4.is

pub returns-in-5 : goal.returns-in-5
unfolding node_kind
returns-in-5 c = rw c.in-5.is

pub returns-in-6 : goal.returns-in-6
unfolding node_kind
returns-in-6 c = rw c.in-6.is

pub returns-in-7 : goal.returns-in-7
unfolding node_kind
returns-in-7 c = rw c.in-7.is

pub returns-in-8 : goal.returns-in-8
unfolding node_kind
returns-in-8 c = rw c.in-8.is

pub returns-in-9-to-255 : goal.returns-in-9-to-255
returns-in-9-to-255 c = unnamed c.args.b (λ h. omega arith) (λ h. omega arith) (λ h. omega arith) (λ h. omega arith) (λ h. omega arith) (λ h. omega arith) (λ h. omega arith) (λ h. omega arith) (λ h. omega arith)
