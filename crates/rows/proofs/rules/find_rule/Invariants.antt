use Rattle.std.proofs.Common.{◌≡◌, false}
use Rattle.basics.specs.Lists.{any}
use Rattle.format.specs.Record.{records, same_rule}
use Rattle.rows.proofs.rules.find_rule.Given as goal

-- none of the records passed is the same rule
abbrev pub invariant-loop-i : goal.invariant-loop-i
invariant-loop-i l = any (same_rule l.c) (records l.i l.store) ≡ false
