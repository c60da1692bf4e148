-- Where the same rule stands.
use Rattle.std.specs.Prelude.{cond, Option, Some, None, ℕ}
use Rattle.format.specs.Record.{Rec, Net, same_rule, present}
use Rattle.format.specs.Search.{first_at}

-- the place of the same rule as c among the records
unfoldable pub found_rule : Rec → Net → Option ℕ
found_rule c net = cond (present c net) (Some (first_at (same_rule c) net)) None
