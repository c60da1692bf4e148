-- What the functions on bits and on lines of bytes leave.
use Rattle.std.specs.Prelude.{◌≡◌, Bool, true, List, ℕ, ◌+◌, ◌*◌, ◌/◌, ◌<◌, ◌≤◌, length, get_or}
use Rattle.std.specs.Int.Bits.{bit_or}
use Rattle.planes.specs.Plane.{bit, cell}

-- bit n is set; every other bit, and every other byte, is as before
pub record BitSet (n : ℕ) (before after : List ℕ) : Type 0 where
  pub len : length after ≡ length before
  pub here : bit after n ≡ true
  pub others : (m : ℕ) → (m ≡ n → ⊥) → bit after m ≡ bit before m
  pub bytes : (m : ℕ) → (m ≡ n / 8 → ⊥) → get_or after m 0 ≡ get_or before m 0

-- the pitch bytes from at on are f 0, f 1, ..; every other byte is as before
pub record Laid (f : ℕ → ℕ) (at pitch : ℕ) (before after : List ℕ) : Type 0 where
  pub len : length after ≡ length before
  pub inside : (j : ℕ) → j < pitch → get_or after (at + j) 0 ≡ f j
  pub under : (m : ℕ) → m < at → get_or after m 0 ≡ get_or before m 0
  pub over : (m : ℕ) → at + pitch ≤ m → get_or after m 0 ≡ get_or before m 0

-- the pitch bytes from at on are zero
abbrev pub Cleared : ℕ → ℕ → List ℕ → List ℕ → Type 0
Cleared at pitch before after = Laid (λ j. 0) at pitch before after

-- the pitch bytes from at on are the first of the line
abbrev pub Put : List ℕ → ℕ → ℕ → List ℕ → List ℕ → Type 0
Put line at pitch before after = Laid (λ j. get_or line j 0) at pitch before after

-- the pitch bytes from at on have had the first of the line ORed in
abbrev pub Ored : List ℕ → ℕ → ℕ → List ℕ → List ℕ → Type 0
Ored line at pitch before after = Laid (λ j. bit_or (get_or before (at + j) 0) (get_or line j 0)) at pitch before after

-- the line has the pitch bytes from at on, then zeros
pub record Loaded (at pitch : ℕ) (bytes line : List ℕ) : Type 0 where
  pub same : (j : ℕ) → j < pitch → get_or line j 0 ≡ get_or bytes (at + j) 0
  pub rest : (j : ℕ) → pitch ≤ j → get_or line j 0 ≡ 0

-- the first n lines of the plane at base are f; every byte outside of them is as before
pub record Made (f : ℕ → ℕ → Bool) (pitch base n : ℕ) (before after : List ℕ) : Type 0 where
  pub len : length after ≡ length before
  pub here : (x y : ℕ) → x < n → y < pitch * 8 → cell after base pitch x y ≡ f x y
  pub under : (m : ℕ) → m < base → get_or after m 0 ≡ get_or before m 0
  pub over : (m : ℕ) → base + n * pitch ≤ m → get_or after m 0 ≡ get_or before m 0
