-- What exchanging a plane has done so far.
use Rattle.std.specs.Prelude.{◌≡◌, false, List, ◌⊎◌, ℕ, ◌+◌, ◌*◌, ◌<◌, ◌≤◌, length, get_or}
use Rattle.planes.specs.Plane.{cell, plane_size}

-- the lines below x of the plane at from, and the states below y of line x, are set exchanged in the plane at to, and no others; every byte outside of it is as before
pub record Swapped (from to pitch x y : ℕ) (before after : List ℕ) : Type 0 where
  pub len : length after ≡ length before
  pub under : (m : ℕ) → m < to → get_or after m 0 ≡ get_or before m 0
  pub over : (m : ℕ) → to + plane_size pitch ≤ m → get_or after m 0 ≡ get_or before m 0
  pub done : (u v : ℕ) → u < pitch * 8 → v < pitch * 8 → (v < x) ⊎ ((v ≡ x) × (u < y)) → cell after to pitch u v ≡ cell before from pitch v u
  pub clear : (u v : ℕ) → u < pitch * 8 → v < pitch * 8 → (x < v) ⊎ ((v ≡ x) × (y ≤ u)) → cell after to pitch u v ≡ false
