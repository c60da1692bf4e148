use mathlib.Core.Path.{◌≡◌}
use Prim.Native.Nat.{ℕ, ◌<◌}
use lib.ListN.{length, get_or}
use Rattle.planes.proofs.copy.Given as goal

-- the first j bytes are copied
abbrev pub invariant-loop-j : goal.invariant-loop-j
invariant-loop-j l = (length l.to ≡ length l.initial.to) × ((i : ℕ) → i < l.j → get_or l.to i 0 ≡ get_or l.from i 0)
