-- Laws of numbers.
use Rattle.std.specs.Prelude.{◌≡◌, ℕ, suc, ◌≤◌}
use Rattle.std.proofs.Common.{arith}

-- a number from m on that is not m
pub from_next : {m n : ℕ} → m ≤ n → (n ≡ m → ⊥) → suc m ≤ n
from_next h e = omega (arith, e)
