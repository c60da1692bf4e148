-- Demand 3, proved: one claim about a whole series of command calls.
use Rattle.std.specs.Prelude.{List}
use Rattle.book.specs.Reference.{Installed}
use Rattle.book.specs.Command.{Call}
use Rattle.series.specs.Series.{Series, SaidToHold, Kept}
use Rattle.series.specs.Laws.Series.{said_holds, from_holding}

-- from any network that the check call said to hold, by any finite series of command calls, each acting on what the one before left
pub kept : {start : Installed} {cs : List Call} {final : Installed} → SaidToHold start → Series start cs final → Kept start cs final
kept {start} said series = from_holding series (said_holds start said)
