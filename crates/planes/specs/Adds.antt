-- What adding bits to a line of a lent buffer leaves.
use Rattle.std.specs.Prelude.{◌≡◌, Bool, true, ◌||◌, List, ℕ, ◌+◌, ◌*◌, ◌<◌, ◌≤◌, length, get_or}
use Rattle.planes.specs.Plane.{bit}
use Rattle.basics.specs.Lists.{member}

-- the bits t that pass are set in the n bytes from byte `at` on; every other bit and byte is as before
pub record Adds (passes : ℕ → Bool) (at n : ℕ) (before after : List ℕ) : Type 0 where
  pub len : length after ≡ length before
  pub bits : (t : ℕ) → t < n * 8 → bit after (at * 8 + t) ≡ (passes t || bit before (at * 8 + t))
  pub under : (m : ℕ) → m < at → get_or after m 0 ≡ get_or before m 0
  pub over : (m : ℕ) → at + n ≤ m → get_or after m 0 ≡ get_or before m 0

-- the bits of the numbers in l are set in the line of n bytes at byte line
abbrev pub Added : List ℕ → ℕ → ℕ → List ℕ → List ℕ → Type 0
Added l line n before after = Adds (λ t. member t l) line n before after

-- the bit of each number in l is set in the line of n bytes at byte line
abbrev pub Within : List ℕ → ℕ → ℕ → List ℕ → Type 0
Within l line n work = (t : ℕ) → t < n * 8 → member t l ≡ true → bit work (line * 8 + t) ≡ true
