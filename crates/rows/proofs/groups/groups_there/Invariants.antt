use Rattle.format.specs.Record.{records}
use Rattle.rows.specs.Groups.{There}
use Rattle.rows.proofs.groups.groups_there.Given as goal

-- the table has the groups of the records passed
abbrev pub invariant-loop-i : goal.invariant-loop-i
invariant-loop-i l = There (records l.i l.store) l.there
