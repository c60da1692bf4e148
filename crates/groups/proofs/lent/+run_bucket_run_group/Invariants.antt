-- `run_bucket` and `run_group` meet their contracts together; the group number falls.
use Prim.Native.Nat.{◌+◌, ◌*◌}
use Rattle.format.specs.Record.{records}
use Rattle.onestep.specs.Groups.{buckets_sent, lower_sent}
use Rattle.groups.specs.Sent.{GroupsRan}
use Rattle.groups.proofs.lent.+run_bucket_run_group.Given as goal

abbrev pub decreases-run_bucket : goal.decreases-run_bucket
decreases-run_bucket l = l.g * 2

abbrev pub decreases-run_group : goal.decreases-run_group
decreases-run_group l = l.g * 2 + 1

-- the buckets passed have run
abbrev pub invariant-run_group-loop-j : goal.invariant-run_group-loop-j
invariant-run_group-loop-j l =
    let net = l.groups.net in
    let rs = records net.n net.store.now in
    let w = net.layout.widths in
    let f = l.frame in
    GroupsRan rs w l.line f.switch f.port (buckets_sent w f.switch f.port (lower_sent rs w f.switch f.port l.g) l.r l.h l.j) l.initial.work l.initial.marks l.work l.marks
