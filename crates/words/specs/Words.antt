-- Bits of words, and the search for a bit of a line.
use Rattle.std.specs.Prelude.{◌≡◌, true, false, List, ℕ, ◌+◌, ◌*◌, ◌^◌, ◌<◌, ◌≤◌, length, Option, MatchOption, IfSome}
use Rattle.basics.specs.Bit.{bit_of}
use Rattle.planes.specs.Plane.{bit}

-- v has the 64 bits of the bytes from a on
pub record Word (a : ℕ) (bytes : List ℕ) (v : ℕ) : Type 0 where
  pub small : v < 2 ^ 64
  pub bits : (i : ℕ) → i < 64 → bit_of v i ≡ bit bytes (a * 8 + i)

-- r is the lowest bit of v that is set
pub record Lowest (v r : ℕ) : Type 0 where
  pub small : r < 64
  pub set : bit_of v r ≡ true
  pub none : (i : ℕ) → i < r → bit_of v i ≡ false

-- line has no state from k on that is below n
pub record Lacks (line : List ℕ) (k n : ℕ) : Type 0 where
  pub none : (i : ℕ) → k ≤ i → i < n → bit line i ≡ false

-- r is the first state of line from k on
pub record FirstAt (line : List ℕ) (k r : ℕ) : Type 0 where
  pub later : k ≤ r
  pub within : r < length line * 8
  pub before : Lacks line k r
  pub set : bit line r ≡ true

-- r is the first state of line from k on, if there is one
abbrev pub First : List ℕ → ℕ → Option ℕ → Type 0
First line k r = MatchOption r (Lacks line k (length line * 8)) (FirstAt line k)

-- r is the first state of line from k on, and the next one is looked for after it
pub record Stepped (line : List ℕ) (k : ℕ) (r : Option ℕ) (line' : List ℕ) (k' : ℕ) : Type 0 where
  pub same : line' ≡ line
  pub first : First line k r
  pub after : IfSome r (λ y. k' ≡ y + 1)

-- of the states below n, done has those of line that are in among
pub record Spent (line done among : List ℕ) (n : ℕ) : Type 0 where
  pub done_too : (i : ℕ) → i < n → bit line i ≡ true → bit among i ≡ true → bit done i ≡ true

-- r is a state of line
pub record StateOf (line : List ℕ) (pitch r : ℕ) : Type 0 where
  pub within : r < pitch * 8
  pub set : bit line r ≡ true

-- r is a state of line; where there is none, done has every state of line that is in among
abbrev pub Open : List ℕ → List ℕ → List ℕ → ℕ → Option ℕ → Type 0
Open line done among pitch r = MatchOption r (Spent line done among (pitch * 8)) (StateOf line pitch)
