-- What a call that no row refuses has passed.
use Rattle.std.proofs.Common.{ltb-false, arith}
use Rattle.std.specs.Prelude.{◌≡◌, refl, Bool, true, false, List, [], ℕ, ◌≤◌}
use Rattle.std.proofs.Math.Option.{none}
use Rattle.format.specs.Record.{Rec, records}
use Rattle.refusals.specs.Rows.{row11, work_needed}
use Rattle.refusals.specs.Refusal.{row, file_row, arguments_row, network_row, check_refusal, command_row, command_refusal}
use Rattle.refusals.specs.Laws.Passing.{neither, not_empty}
use Rattle.effect.specs.Apply.{would_leave}
use Rattle.effect.specs.NeverStuck.{GoesOn, never_stuck}
use Rattle.book.specs.Laws.Store.{Arguments, arguments, installed_whole}

-- a row that does not refuse is not met
row_none : (met : Bool) (number place : ℕ) → row met number place ≡ none → met ≡ false
row_none true number place e = let z : ◌≡◌ {A = ℕ} 0 1 = cc in absurd (omega arith)
row_none false number place e = refl

-- the check call's rows
pub record Checks (store : List ℕ) (n work : ℕ) : Type 0 where
  pub arguments : Arguments store n
  pub file : file_row [] (records n store) ≡ none
  pub enough : work_needed (records n store) ≤ work

pub checks : (store : List ℕ) (n work : ℕ) → check_refusal store n work ≡ none → Checks store n work
unfolding check_refusal network_row row11
checks store n work e =
    let a = neither (arguments_row store n) (network_row (records n store) work) e in
    let f = neither (file_row [] (records n store)) (row (row11 (records n store) work) 11 0) a.1 in
    record { arguments = arguments store n a.0; file = f.0; enough = ltb-false work (work_needed (records n store)) (row_none (row11 (records n store) work) 11 0 f.1) }

-- the command call's rows
pub record Passed (store : List ℕ) (n work : ℕ) (c : Rec) : Type 0 where
  pub check : Checks store n work
  pub command : command_row (records n store) c ≡ none

pub passed : (store : List ℕ) (n work : ℕ) (c : Rec) → command_refusal store n work c ≡ none → Passed store n work c
unfolding command_refusal
passed store n work c e =
    let a = neither (check_refusal store n work) (command_row (records n store) c) e in
    record { check = checks store n work a.0; command = a.1 }

-- so the series goes on with the network that the command would leave
pub goes_on : (store : List ℕ) (n work : ℕ) (c : Rec) → command_refusal store n work c ≡ none
    → GoesOn (records n store) (would_leave c (records n store))
goes_on store n work c e =
    let p = passed store n work c e in
    never_stuck (records n store) c (installed_whole store n p.check.arguments) (not_empty (records n store) p.check.file) p.check.file p.command
