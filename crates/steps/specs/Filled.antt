-- What filling leaves in a plane of a lent buffer.
use Rattle.std.specs.Prelude.{◌≡◌, List, ℕ, ◌+◌, ◌*◌, ◌<◌, ◌≤◌, length, get_or}
use Rattle.planes.specs.Plane.{bit}
use Rattle.planes.specs.Lines.{Made}
use Rattle.basics.specs.Lists.{member}
use Rattle.format.specs.Record.{Net, widths_of}
use Rattle.widths.specs.Widths.{states, line_bytes}
use Rattle.onestep.specs.Step.{next}

-- the line of n bytes at byte `at` has the bits of the states in l, and no other; every byte outside of it is as before
pub record LineOf (l : List ℕ) (at n : ℕ) (before after : List ℕ) : Type 0 where
  pub len : length after ≡ length before
  pub bits : (t : ℕ) → t < n * 8 → bit after (at * 8 + t) ≡ member t l
  pub under : (m : ℕ) → m < at → get_or after m 0 ≡ get_or before m 0
  pub over : (m : ℕ) → at + n ≤ m → get_or after m 0 ≡ get_or before m 0

-- the plane at byte base is the step relation: bit (s, t) is set exactly if s steps to t; every other byte is as before
abbrev pub Filled : Net → ℕ → List ℕ → List ℕ → Type 0
Filled net base before after = let w = widths_of net in Made (λ s t. member t (next net s)) (line_bytes w) base (states w) before after
