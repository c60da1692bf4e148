-- What is known of a network before a command is looked at, and what its rows answer.
use Rattle.std.specs.Prelude.{◌≡◌, true, List, ℕ, ◌*◌, ◌≤◌, length, Result, Ok, Err}
use Rattle.std.proofs.Math.Option.{none, some}
use Rattle.format.specs.Record.{records, of_kind, widths_of}
use Rattle.format.specs.Version.{version_of}
use Rattle.format.specs.declared.Version.{Version}
use Rattle.widths.specs.Widths.{within_limits}
use Rattle.widths.specs.declared.Widths.{Widths}
use Rattle.refusals.specs.Refusal.{Refusal}
use Rattle.refusals.specs.declared.Row.{Row}
use Rattle.refusals.specs.Numbers.{row_number}

-- what is known of a network that no row below 12 refuses: its widths, its version and how many rules it has
pub record Known (w : Widths) (v : Version) (store : List ℕ) (n rules : ℕ) : Type 0 where
  pub stored : n * 24 ≤ length store
  pub widths : w ≡ widths_of (records n store)
  pub version : v ≡ version_of (records n store)
  pub limits : within_limits w ≡ true
  pub rules_are : rules ≡ length (of_kind 4 (records n store))

-- the refusal that each answer stands for: by its row's number, at place 0
abbrev pub admission_refusal : {A : Type 0} → Result A Row → Refusal
admission_refusal (Err row) = some (row_number row, 0)
admission_refusal (Ok passed) = none
