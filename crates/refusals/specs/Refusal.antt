-- Which refusal is answered: number and place. Rows are checked downwards; in the file, the first faulty record counts, and in it the lowest number.
use Rattle.std.specs.Prelude.{Bool, cond, List, [], ◌∷◌, ◌++◌, ℕ, length}
use Rattle.std.proofs.Math.Option.{Option, none, some}
use Rattle.format.specs.Record.{Rec, Net, records}
use Rattle.refusals.specs.Rows.{row1, row2, row3, row4, row5, row6, row7, row8, row9, row10, row11, row12, row13, row16, row16_command, misses_incomplete}

-- number and place, or none
abbrev pub Refusal : Type 0
Refusal = Option (ℕ × ℕ)

-- the first of two refusals
abbrev pub or_else : Refusal → Refusal → Refusal
or_else (some f) later = some f
or_else none later = later

-- a row that is met refuses at a place
abbrev pub row : Bool → ℕ → ℕ → Refusal
row met number place = cond met (some (number, place)) none

-- the lowest row that a record meets
unfoldable pub record_row : Net → Rec → Net → Refusal
record_row before r after =
    let place = length before in
    or_else (row (row3 before r) 3 place)
    (or_else (row (row4 r) 4 place)
    (or_else (row (row5 before r) 5 place)
    (or_else (row (row6 before r) 6 place)
    (or_else (row (row7 before r) 7 place)
    (or_else (row (row8 before r) 8 place)
    (or_else (row (row9 before r after) 9 place)
    (or_else (row (row10 before r) 10 place) (row (row16 before r after) 16 place))))))))

-- the first faulty record of those from r on; row 7 at the end, with place n
unfoldable pub file_row : Net → Net → Refusal
file_row before [] = row (misses_incomplete before) 7 (length before)
file_row before (r ∷ after) = let later = file_row (before ++ (r ∷ [])) after in or_else (record_row before r after) later

-- rows 1 and 2, of the arguments (document 01 calls this the door)
unfoldable pub arguments_row : List ℕ → ℕ → Refusal
arguments_row store n = or_else (row (row1 n) 1 0) (row (row2 store) 2 0)

-- rows 3 to 10, 16 and 11, of a network and a length of work
unfoldable pub network_row : Net → ℕ → Refusal
network_row net work = let short = row (row11 net work) 11 0 in or_else (file_row [] net) short

-- what the check call refuses: rows 1 to 11 and 16
unfoldable pub check_refusal : List ℕ → ℕ → ℕ → Refusal
check_refusal store n work = let inside = network_row (records n store) work in or_else (arguments_row store n) inside

-- rows 12, 16 and 13, of a command
unfoldable pub command_row : Net → Rec → Refusal
command_row net c =
    let full = row (row13 net c) 13 0 in
    let absent = or_else (row (row16_command net c) 16 0) full in
    or_else (row (row12 net c) 12 0) absent

-- what the command call refuses: rows 1 to 13 and 16
unfoldable pub command_refusal : List ℕ → ℕ → ℕ → Rec → Refusal
command_refusal store n work c = let own = command_row (records n store) c in or_else (check_refusal store n work) own
