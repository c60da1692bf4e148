-- Tests of all the numbers below one.
use Rattle.std.specs.Prelude.{Bool, true, false, ℕ, zero, suc}

-- some number below k passes a test
unfoldable pub any_below : ℕ → (ℕ → Bool) → Bool
any_below zero f = false
any_below (suc k) f = elim (f k) [ true ↦ true | false ↦ any_below k f ]

-- every number below k passes a test
unfoldable pub all_below : ℕ → (ℕ → Bool) → Bool
all_below zero f = true
all_below (suc k) f = elim (f k) [ true ↦ all_below k f | false ↦ false ]
