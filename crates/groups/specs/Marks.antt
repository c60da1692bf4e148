-- Runs with marks, whatever they send: send g h is what the complete run of the pair (g, h) sends.
use Rattle.std.specs.Prelude.{◌≡◌, true, List, ℕ, ◌+◌, ◌*◌, ◌<◌, length}
use Rattle.planes.specs.Plane.{bit}
use Rattle.planes.specs.Adds.{Added, Within}

-- the number of the mark of the pair (g, h), h being a header of at most 6 bits
abbrev pub mark : ℕ → ℕ → ℕ
mark g h = g * 64 + h

-- whatever is marked has all its copies in the line, which has n bytes
pub record Done (send : ℕ → ℕ → List ℕ) (n : ℕ) (line marks : List ℕ) : Type 0 where
  pub within : (g h : ℕ) → h < 64 → bit marks (mark g h) ≡ true → Within (send g h) 0 n line

-- the same of a line of n bytes at a byte of a buffer
unfoldable pub DoneAt : (ℕ → ℕ → List ℕ) → ℕ → ℕ → List ℕ → List ℕ → Type 0
DoneAt send line n work marks = (g h : ℕ) → h < 64 → bit marks (mark g h) ≡ true → Within (send g h) line n work

-- exactly the copies in l were added to that line, and whatever is marked then is done
pub record RanAt (send : ℕ → ℕ → List ℕ) (line n : ℕ) (l work marks work' marks' : List ℕ) : Type 0 where
  pub copies : Added l line n work work'
  pub marks_len : length marks' ≡ length marks
  pub done : DoneAt send line n work' marks'
