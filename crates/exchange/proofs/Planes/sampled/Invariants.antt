-- The count is at most that of the bits read.
use Prim.Native.Nat.{◌*◌, ◌≤◌}
use Rattle.exchange.proofs.Planes.sampled.Given as goal

abbrev pub invariant-loop-i : goal.invariant-loop-i
invariant-loop-i l = l.count ≤ l.i * 64
