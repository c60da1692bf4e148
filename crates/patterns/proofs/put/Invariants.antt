use mathlib.Core.Path.{◌≡◌}
use Rattle.format.specs.Pattern.{put_bits}
use Rattle.patterns.proofs.put.Given as goal

-- the bits below i are written
abbrev pub invariant-loop-i : goal.invariant-loop-i
invariant-loop-i l = l.result ≡ put_bits l.i l.value l.care l.x
