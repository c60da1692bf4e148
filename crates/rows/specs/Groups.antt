-- What is known of a network's groups as its records are read: which are there, and the last one.
use Rattle.std.specs.Prelude.{◌≡◌, ◌&&◌, ◌||◌, List, ℕ, ◌<◌, eqb, length}
use Rattle.planes.specs.Plane.{bit}
use Rattle.format.specs.Record.{Rec, Net, at, kind, of_kind}
use Rattle.format.specs.Group.{is_group, has_group}
use Rattle.refusals.specs.Rows.{last_group}
use Rattle.rows.specs.Table.{table_bit}
use Rattle.rows.specs.declared.groups.Groups.{Groups}

-- a table has the bits of the groups that are there
pub record There (net : Net) (table : List ℕ) : Type 0 where
  pub is : (sw g : ℕ) → sw < 16 → g < 16 → bit table (table_bit sw g) ≡ has_group net sw g

-- the group that a record is has its bit set, if it is one; the other bits are as before
pub record Noted (r : Rec) (before after : List ℕ) : Type 0 where
  pub is : (sw g : ℕ) → sw < 16 → g < 16 → bit after (table_bit sw g) ≡ ((eqb (kind r) 9 && is_group sw g r) || bit before (table_bit sw g))

-- how many groups there are before, and the switch and number of the last
pub record GroupsOf (before : Net) (s : Groups) : Type 0 where
  pub count : s.count ≡ length (of_kind 9 before)
  pub switch : s.switch ≡ at (last_group before) 1
  pub number : s.number ≡ at (last_group before) 2
