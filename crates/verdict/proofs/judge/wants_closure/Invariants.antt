-- The loop's invariant: a policy begins no later than its nodes.
use Prim.Native.Nat.{◌≤◌}
use Rattle.verdict.proofs.judge.wants_closure.Given as goal

abbrev pub invariant-loop-i : goal.invariant-loop-i
invariant-loop-i l = l.start ≤ l.i
