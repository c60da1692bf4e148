use Prim.Native.Nat.{ℕ, zero, suc}
use native.Mathlib.Omega.{arith}
use mathlib.Core.Path.{◌≡◌, refl}
use Rattle.format.specs.Record.{command_kind}
use Rattle.format.specs.declared.kinds.CommandKind.TheVariants.{Unknown as k_no_command}
use Rattle.format.proofs.kinds.CommandKindFromU8.from.Goals as goal

-- a byte that names no kind
unnamed : (k : ℕ) → (k ≡ 6 → ⊥) → (k ≡ 7 → ⊥) → (k ≡ 8 → ⊥) → k_no_command ≡ command_kind k
unfolding command_kind
unnamed zero h6 h7 h8 = refl
unnamed (suc zero) h6 h7 h8 = refl
unnamed (suc (suc zero)) h6 h7 h8 = refl
unnamed (suc (suc (suc zero))) h6 h7 h8 = refl
unnamed (suc (suc (suc (suc zero)))) h6 h7 h8 = refl
unnamed (suc (suc (suc (suc (suc zero))))) h6 h7 h8 = refl
unnamed (suc (suc (suc (suc (suc (suc zero)))))) h6 h7 h8 = absurd (h6 refl)
unnamed (suc (suc (suc (suc (suc (suc (suc zero))))))) h6 h7 h8 = absurd (h7 refl)
unnamed (suc (suc (suc (suc (suc (suc (suc (suc zero)))))))) h6 h7 h8 = absurd (h8 refl)
unnamed (suc (suc (suc (suc (suc (suc (suc (suc (suc k))))))))) h6 h7 h8 = refl

pub returns-in-6 : goal.returns-in-6
unfolding command_kind
returns-in-6 c = rw c.in-6.is

pub returns-in-7 : goal.returns-in-7
unfolding command_kind
returns-in-7 c = rw c.in-7.is

pub returns-in-8 : goal.returns-in-8
unfolding command_kind
returns-in-8 c = rw c.in-8.is

pub returns-in-0-to-5 : goal.returns-in-0-to-5
returns-in-0-to-5 c = unnamed c.args.b (λ h. omega arith) (λ h. omega arith) (λ h. omega arith)
