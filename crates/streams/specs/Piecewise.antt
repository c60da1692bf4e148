-- The program's output as it is made, piece by piece.
use Rattle.std.specs.Prelude.{List, [], ◌∷◌, ◌++◌, ℕ, suc, length}
use Rattle.format.specs.Record.{Rec, Net}
use Rattle.book.specs.Answer.{CheckAnswer}
use Rattle.book.specs.Reference.{Installed, outcome_of}
use Rattle.streams.specs.declared.input.Next.{Next}
use Rattle.streams.specs.declared.input.Next.TheVariants as next
use Rattle.streams.specs.declared.input.Later.{Later}
use Rattle.streams.specs.declared.input.Later.TheVariants as later
use Rattle.streams.specs.Line.{start_line, answer_line, end_short}
use Rattle.streams.specs.Reading.{next_of, later_of}
use Rattle.streams.specs.Output.{work_bytes, started}

-- what a piece makes the program print, behind a network: `behind` are the whole records after it, `rest` the bytes after these
unfoldable pub prints : Next → Net → List ℕ → List Rec → List ℕ → List ℕ → List ℕ
prints next.Network net piece behind rest read_on = read_on
prints next.TooMany net piece behind rest read_on = start_line (CheckAnswer.refused 1 0)
prints next.Command net piece behind rest read_on = started (record { network = net; commands = piece ∷ behind; rest = rest })
prints next.CutCommand net piece behind rest read_on = started (record { network = net; commands = []; rest = piece })
prints next.Cut net piece behind rest read_on = end_short
prints next.End net piece behind rest read_on = started (record { network = net; commands = []; rest = [] })
prints next.Failed net piece behind rest read_on = []

-- the output from some whole records and the bytes after them, behind a network
unfoldable pub piecewise : Net → List Rec → List ℕ → List ℕ
piecewise net [] rest = prints (next_of (length net) rest) net rest [] [] []
piecewise net (r ∷ rs) rest =
    let read_on = piecewise (net ++ (r ∷ [])) rs rest in
    prints (next_of (length net) r) net r rs rest read_on

-- what a piece behind a command makes the program print
unfoldable pub prints_later : Later → List ℕ → List ℕ
prints_later later.Command read_on = read_on
prints_later later.Cut read_on = end_short
prints_later later.End read_on = []
prints_later later.Failed read_on = []

-- the output from command number turn on: `behind` are the whole records after it, `rest` the bytes after these
unfoldable pub commandwise : ℕ → Installed → Rec → List Rec → List ℕ → List ℕ
commandwise turn i c [] rest = answer_line turn (outcome_of i c work_bytes).answer ++ prints_later (later_of rest) []
commandwise turn i c (r ∷ rs) rest =
    let o = outcome_of i c work_bytes in
    let read_on = commandwise (suc turn) o.after r rs rest in
    answer_line turn o.answer ++ prints_later (later_of r) read_on
