-- What the functions that make a line leave.
use Rattle.std.specs.Prelude.{◌≡◌, List, ◌++◌, ℕ, ◌+◌, ◌≤◌, length, take}
use Rattle.io.specs.Counts.{IsPrefixLen}

-- the text stands behind the first at bytes of the line, which then has r
pub record TextAdded (text : List ℕ) (at : ℕ) (before after : List ℕ) (r : ℕ) : Type 0 where
  pub size : r ≡ at + length text
  pub within : r ≤ length after
  pub len : length after ≡ length before
  pub line : take r after ≡ take at before ++ text

-- the line is the first r bytes
pub record Written (text : List ℕ) (after : List ℕ) (r : ℕ) : Type 0 where
  pub counts : IsPrefixLen r after
  pub line : take r after ≡ text
