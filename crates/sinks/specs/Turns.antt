-- What the search from a state leaves, and that from all states.
use Rattle.std.specs.Prelude.{◌≡◌, Bool, true, false, ◌||◌, List, ◌⊎◌, ℕ, ◌+◌, ◌*◌, ◌<◌, ◌≤◌, length, get_or}
use Rattle.planes.specs.Plane.{bit, cell, On, plane_size}
use Rattle.walks.specs.Walk.{Walk}

-- line has line k of the plane at to; done has no more than k and, where k is met, the states of that line
pub record Taken (bytes : List ℕ) (to pitch k : ℕ) (met line done line' done' : List ℕ) : Type 0 where
  pub joins : (y : ℕ) → y < pitch * 8 → bit line' y ≡ (bit line y || cell bytes to pitch k y)
  pub notes : (j : ℕ) → j < pitch * 8 → bit done' j ≡ true → (bit done j ≡ true) ⊎ ((j ≡ k) ⊎ ((bit met k ≡ true) × On bytes to pitch k j))

-- no idle state has a state in its line of the plane at to
abbrev pub Idle : ℕ → ℕ → List ℕ → List ℕ → Type 0
Idle to pitch idle bytes = (x y : ℕ) → x < pitch * 8 → y < pitch * 8 → bit idle x ≡ true → On bytes to pitch x y → ⊥

-- the line at `at` has no state
abbrev pub Blank : List ℕ → ℕ → ℕ → Type 0
Blank bytes at pitch = (y : ℕ) → y < pitch * 8 → bit bytes (at * 8 + y) ≡ false

-- idle has no more than x, and this only if the line at `at` has no state
abbrev pub Noted : List ℕ → ℕ → ℕ → ℕ → List ℕ → List ℕ → Type 0
Noted bytes at pitch x idle idle' = (j : ℕ) → bit idle' j ≡ true → (bit idle j ≡ true) ⊎ ((j ≡ x) × Blank bytes at pitch)

-- line x of the plane at to has the lines of its states
abbrev pub Stable : ℕ → ℕ → List ℕ → ℕ → Type 0
Stable to pitch bytes x = (z y : ℕ) → z < pitch * 8 → y < pitch * 8 → On bytes to pitch x z → On bytes to pitch z y → On bytes to pitch x y

-- the lines that are met have the lines of their states
abbrev pub Through : ℕ → ℕ → List ℕ → List ℕ → Type 0
Through to pitch met bytes = (x : ℕ) → x < pitch * 8 → bit met x ≡ true → Stable to pitch bytes x

-- line has kept its states and has got others that a walk leads to from one of them; where the search has ended, it has the lines of all its states
pub record Searched (bytes : List ℕ) (to pitch : ℕ) (line : List ℕ) (ended : Bool) (line' : List ℕ) : Type 0 where
  pub keeps : (y : ℕ) → y < pitch * 8 → bit line y ≡ true → bit line' y ≡ true
  pub only : (y : ℕ) → y < pitch * 8 → bit line' y ≡ true → (bit line y ≡ true) ⊎ ((z : ℕ) × (bit line z ≡ true) × Walk (pitch * 8) (On bytes to pitch) z y)
  pub closed : ended ≡ true → (z y : ℕ) → z < pitch * 8 → y < pitch * 8 → bit line' z ≡ true → On bytes to pitch z y → bit line' y ≡ true

-- the plane at to of now lies between the plane at from of start and its closure; all other bytes are as at the start
pub record Between (from to pitch : ℕ) (start now : List ℕ) : Type 0 where
  pub len : length now ≡ length start
  pub sound : (x y : ℕ) → x < pitch * 8 → y < pitch * 8 → On now to pitch x y → Walk (pitch * 8) (On start from pitch) x y
  pub grows : (x y : ℕ) → x < pitch * 8 → y < pitch * 8 → On start from pitch x y → On now to pitch x y
  pub under : (m : ℕ) → m < to → get_or now m 0 ≡ get_or start m 0
  pub over : (m : ℕ) → to + plane_size pitch ≤ m → get_or now m 0 ≡ get_or start m 0

-- the plane at to lies between what it was and its closure, and the lines that are met have the lines of their states
pub record Met (to pitch : ℕ) (before met after : List ℕ) : Type 0 where
  pub between : Between to to pitch before after
  pub through : Through to pitch met after

-- the same, with every line met where the answer is true
pub record MetAll (to pitch : ℕ) (before : List ℕ) (all : Bool) (after : List ℕ) : Type 0 where
  pub between : Between to to pitch before after
  pub stable : all ≡ true → (x : ℕ) → x < pitch * 8 → Stable to pitch after x
