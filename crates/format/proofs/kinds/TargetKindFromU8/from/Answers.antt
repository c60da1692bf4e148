use Prim.Native.Nat.{ℕ, zero, suc}
use native.Mathlib.Omega.{arith}
use mathlib.Core.Path.{◌≡◌, refl}
use Rattle.format.specs.Group.{target_kind}
use Rattle.format.specs.declared.kinds.TargetKind.TheVariants.{Unknown as k_no_target}
use Rattle.format.proofs.kinds.TargetKindFromU8.from.Goals as goal

-- a byte that names no kind
unnamed : (k : ℕ) → (k ≡ 1 → ⊥) → (k ≡ 2 → ⊥) → k_no_target ≡ target_kind k
unfolding target_kind
unnamed zero h1 h2 = refl
unnamed (suc zero) h1 h2 = absurd (h1 refl)
unnamed (suc (suc zero)) h1 h2 = absurd (h2 refl)
unnamed (suc (suc (suc k))) h1 h2 = refl

pub returns-in-1 : goal.returns-in-1
unfolding target_kind
returns-in-1 c = rw c.in-1.is

pub returns-in-2 : goal.returns-in-2
unfolding target_kind
returns-in-2 c = rw c.in-2.is

pub returns-in-0 : goal.returns-in-0
returns-in-0 c = unnamed c.args.b (λ h. omega arith) (λ h. omega arith)

pub returns-in-0-2 : goal.returns-in-0-2
returns-in-0-2 c = unnamed c.args.b (λ h. omega arith) (λ h. omega arith)
