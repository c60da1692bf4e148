-- `run_bucket` and `run_group` meet their contracts together; the group number falls.
use Prim.Native.Nat.{◌+◌, ◌*◌}
use Rattle.groups.specs.Relayed.{Ran}
use Rattle.groups.specs.Laws.Running.{first_sent}
use Rattle.groups.proofs.relay.Relay.+run_bucket_run_group.Given as goal

abbrev pub decreases-run_bucket : goal.decreases-run_bucket
decreases-run_bucket l = l.g * 2

abbrev pub decreases-run_group : goal.decreases-run_group
decreases-run_group l = l.g * 2 + 1

-- the buckets passed have run
abbrev pub invariant-run_group-loop-j : goal.invariant-run_group-loop-j
invariant-run_group-loop-j l = Ran (first_sent l.initial.self l.g l.header l.r l.j) l.initial.self l.self
