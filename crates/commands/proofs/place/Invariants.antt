use Rattle.std.proofs.Common.{◌≡◌, false}
use Rattle.basics.specs.Lists.{any}
use Rattle.format.specs.Record.{records}
use Rattle.commands.specs.Effect.{above_rules}
use Rattle.commands.proofs.place.Given as goal

-- none of the records passed has a higher kind
abbrev pub invariant-loop-i : goal.invariant-loop-i
invariant-loop-i l = any above_rules (records l.i l.before.store.now) ≡ false
