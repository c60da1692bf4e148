-- The record of a group by its place.
use Rattle.std.specs.Prelude.{◌≡◌, Option, Some, None, [], ℕ, ◌<◌, ◌≤◌, length, get_or}
use Rattle.format.specs.Record.{Net, at}
use Rattle.scan.specs.declared.Layout.{Layout}
use Rattle.onestep.specs.Groups.{group_record}

-- the record of group g of a switch stands at place i, among the groups
pub record GroupAt (net : Net) (l : Layout) (sw g i : ℕ) : Type 0 where
  pub is : group_record net sw g ≡ get_or net i []
  pub number : at (get_or net i []) 2 ≡ g
  pub low : l.groups ≤ i
  pub high : i < length net

-- it was found at its place, or there is none
abbrev pub GroupFound : Net → Layout → ℕ → ℕ → Option ℕ → Type 0
GroupFound net l sw g (Some i) = GroupAt net l sw g i
GroupFound net l sw g None = group_record net sw g ≡ []
