-- What the types of a refusal stand for: the number of a row, and a number with a place.
use Rattle.std.specs.Prelude.{ℕ}
use Rattle.std.proofs.Math.Option.{some}
use Rattle.refusals.specs.Refusal.{Refusal}
use Rattle.refusals.specs.declared.Row.{Row}
use Rattle.refusals.specs.declared.Row.TheVariants.{Count, Store, Kind, Widths, Field, Link, Miss, SameRule, Node, Limit, Work, Command, Full, State, List, Group}
use Rattle.refusals.specs.declared.Refused.{Refused}

-- the number of a row
abbrev pub row_number : Row → ℕ
row_number Count = 1
row_number Store = 2
row_number Kind = 3
row_number Widths = 4
row_number Field = 5
row_number Link = 6
row_number Miss = 7
row_number SameRule = 8
row_number Node = 9
row_number Limit = 10
row_number Work = 11
row_number Command = 12
row_number Full = 13
row_number State = 14
row_number List = 15
row_number Group = 16

-- a refusal by its row's number and its place
abbrev pub refusal_of : Refused → Refusal
refusal_of r = some (row_number r.row, r.place)
