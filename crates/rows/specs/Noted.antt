-- What is noted of the records before, so that they need not be searched: the keys of rules, and the points where links end.
use Rattle.std.specs.Prelude.{◌≡◌, true, List, ℕ, ◌+◌, ◌*◌, ◌%◌, ◌<◌}
use Rattle.planes.specs.Plane.{bit}
use Rattle.format.specs.Record.{Rec, Net, at, present, linked}
use Rattle.rows.specs.Table.{table_bit}

-- a number below 4096 that seven bytes make
abbrev pub spread : ℕ → ℕ → ℕ → ℕ → ℕ → ℕ → ℕ → ℕ
spread a b c d e f g = (a * 3851 + b * 2651 + c * 1989 + d * 1793 + e * 3253 + f * 1389 + g * 3885) % 4096

-- the bit of a rule's key, bytes 1 to 7, which is one for the same rules
unfoldable pub key_bit : Rec → ℕ
key_bit r = spread (at r 1) (at r 2) (at r 3) (at r 4) (at r 5) (at r 6) (at r 7)

-- every rule of a network has the bit of its key set; other rules may have the same bit
pub record KeysNoted (net : Net) (keys : List ℕ) : Type 0 where
  pub set : (c : Rec) → present c net ≡ true → bit keys (key_bit c) ≡ true

-- a table has the bits of the points where links end
pub record PointsNoted (net : Net) (points : List ℕ) : Type 0 where
  pub is : (sw p : ℕ) → sw < 16 → p < 16 → bit points (table_bit sw p) ≡ linked net sw p

-- the points where a link ends have bits
pub record EndsNamed (r : Rec) : Type 0 where
  pub one : (at r 1 < 16) × (at r 2 < 16)
  pub other : (at r 3 < 16) × (at r 4 < 16)
