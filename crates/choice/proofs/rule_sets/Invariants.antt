use mathlib.Core.Path.{◌≡◌}
use lib.ListN.{length}
use Rattle.format.specs.Record.{most_rules, records}
use Rattle.choice.specs.RuleSets.{SetsBefore}
use Rattle.choice.proofs.rule_sets.Given as goal

-- the rules before number j are worked out
abbrev pub invariant-loop-j : goal.invariant-loop-j
invariant-loop-j l = (length l.sets ≡ most_rules) × SetsBefore l.j (records l.net.n l.net.store.now) l.l.widths l.sets
