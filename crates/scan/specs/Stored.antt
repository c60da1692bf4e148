-- What is known of a network in a store that no row refuses.
use Rattle.std.specs.Prelude.{◌≡◌, true, List, [], ℕ, ◌*◌, ◌<◌, ◌≤◌, length, get_or}
use Rattle.std.proofs.Math.Option.{none}
use Rattle.format.specs.Record.{records}
use Rattle.format.specs.Fields.{fields_good}
use Rattle.refusals.specs.Refusal.{file_row}
use Rattle.scan.specs.Layout.{LayoutOf}
use Rattle.scan.specs.declared.Layout.{Layout}

-- a store holds n records that stand as the layout says, and the fields of all but the first are good
pub record Stored (n : ℕ) (l : Layout) (store : List ℕ) : Type 0 where
  pub room : n * 24 ≤ length store
  pub laid : LayoutOf (records n store) l
  pub fields : (i : ℕ) → 1 ≤ i → i < n → fields_good l.widths (get_or (records n store) i []) ≡ true

-- a store holds `end` records that no row refuses, and they stand as the layout says
pub record CleanStore (end : ℕ) (l : Layout) (store : List ℕ) : Type 0 where
  pub room : end * 24 ≤ length store
  pub laid : LayoutOf (records end store) l
  pub passes : file_row [] (records end store) ≡ none
