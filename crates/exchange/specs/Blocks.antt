-- Blocks of eight by eight bits, as numbers of 64 bits, and what exchanging a plane by blocks has done so far.
use Rattle.std.specs.Prelude.{◌≡◌, List, ◌⊎◌, ℕ, ◌+◌, ◌*◌, ◌/◌, ◌<◌, ◌≤◌, length, get_or}
use Rattle.basics.specs.Bit.{bit_of}
use Rattle.planes.specs.Plane.{cell, plane_size}

-- v has the bits of eight bytes, pitch apart, of which the first is at a
pub record Block (a pitch : ℕ) (bytes : List ℕ) (v : ℕ) : Type 0 where
  pub bits : (i j : ℕ) → i < 8 → j < 8 → bit_of v (i * 8 + j) ≡ bit_of (get_or bytes (a + i * pitch) 0) j

-- w is v with lines and columns exchanged
pub record Turned (v w : ℕ) : Type 0 where
  pub bits : (i j : ℕ) → i < 8 → j < 8 → bit_of w (j * 8 + i) ≡ bit_of v (i * 8 + j)

-- the first n of eight bytes, pitch apart, have the bits of v; every other byte is as before
pub record Spread (a pitch n v : ℕ) (before after : List ℕ) : Type 0 where
  pub len : length after ≡ length before
  pub here : (i j : ℕ) → i < n → j < 8 → bit_of (get_or after (a + i * pitch) 0) j ≡ bit_of v (i * 8 + j)
  pub others : (m : ℕ) → ((i : ℕ) → i < n → m ≡ a + i * pitch → ⊥) → get_or after m 0 ≡ get_or before m 0

-- the lines below 8 * c of the plane at to, and of its next eight lines the first r bytes, are exchanged; every byte outside of the plane is as before
pub record Blocked (from to pitch c r : ℕ) (before after : List ℕ) : Type 0 where
  pub len : length after ≡ length before
  pub under : (m : ℕ) → m < to → get_or after m 0 ≡ get_or before m 0
  pub over : (m : ℕ) → to + plane_size pitch ≤ m → get_or after m 0 ≡ get_or before m 0
  pub done : (u v : ℕ) → u < pitch * 8 → v < pitch * 8 → (u / 8 < c) ⊎ ((u / 8 ≡ c) × (v / 8 < r)) → cell after to pitch u v ≡ cell before from pitch v u
