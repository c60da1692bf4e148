-- The lines of a plane as words, and what the functions on them leave.
use Rattle.std.specs.Prelude.{◌≡◌, Bool, ◌&&◌, ◌||◌, List, ℕ, ◌+◌, ◌*◌, ◌/◌, ◌%◌, ◌^◌, ◌≤◌, ◌<◌, length, get_or}
use Rattle.basics.specs.Bit.{bit_of}
use Rattle.planes.specs.Plane.{bit}
use Rattle.basics.specs.Tabulated.{grid_test}
use Rattle.walks.specs.Computed.{closed}

-- v has the bits of the pitch bytes from at on
abbrev pub Joins : List ℕ → ℕ → ℕ → ℕ → Type 0
Joins bytes at pitch v = (i : ℕ) → i < pitch * 8 → bit_of v i ≡ bit bytes (at * 8 + i)

-- bit y of word x
abbrev pub test : List ℕ → ℕ → ℕ → Bool
test words x y = bit_of (get_or words x 0) y

-- the first n words are f, in their first n bits
pub record Lines (f : ℕ → ℕ → Bool) (n : ℕ) (words : List ℕ) : Type 0 where
  pub at : (x y : ℕ) → x < n → y < n → test words x y ≡ f x y

-- each of the first n words that has bit k has had line put into it; all other words are as before
pub record Spread (k line n : ℕ) (before after : List ℕ) : Type 0 where
  pub len : length after ≡ length before
  pub done : (x y : ℕ) → x < n → test after x y ≡ (test before x y || (test before x k && bit_of line y))
  pub rest : (x : ℕ) → n ≤ x → get_or after x 0 ≡ get_or before x 0

-- where the first n words were a relation on the states below n, they are its closure
abbrev pub ClosedWords : ℕ → List ℕ → List ℕ → Type 0
ClosedWords n before after = (f : ℕ → ℕ → Bool) → Lines f n before → Lines (λ x y. grid_test (closed n f) x y) n after

-- byte j of a word
abbrev pub byte_of : ℕ → ℕ → ℕ
byte_of v j = v / 2 ^ (j * 8) % 256
