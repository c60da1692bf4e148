-- `verdict::judge::policy_end` meets its contract. The loop's invariant: the records from start up to i name one policy.
use mathlib.Core.Path.{◌≡◌}
use Prim.Native.Nat.{ℕ, ◌≤◌, ◌<◌}
use Rattle.verdict.specs.Judge.{policy_at}
use Rattle.verdict.proofs.judge.policy_end.Given as goal

abbrev pub invariant-loop-i : goal.invariant-loop-i
invariant-loop-i l = (j : ℕ) → j < l.i → l.start ≤ j → policy_at l.net.store.now j ≡ policy_at l.net.store.now l.start
