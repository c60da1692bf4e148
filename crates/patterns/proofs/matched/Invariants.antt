use Rattle.patterns.specs.Matched.{MatchedSet}
use Rattle.patterns.proofs.matched.Given as goal

-- the set has the numbers of so many bits that match
abbrev pub invariant-loop-bits : goal.invariant-loop-bits
invariant-loop-bits l = MatchedSet l.bits l.value l.care l.set
