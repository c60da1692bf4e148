use native.Mathlib.Omega.{arith}
use Rattle.groups.specs.Laws.Running.{net_stored}
use Rattle.groups.proofs.SearchedGroups.{sought_all, sought_none, sought_here, sought_next}
use Rattle.groups.proofs.find_group.Goals as goal

pub loop-i-init : goal.loop-i-init
loop-i-init c =
    let net = c.args.net.now in
    sought_all net.n net.store.now c.args.sw c.args.g net.layout (net_stored net)

pub returns-then-is_group : goal.returns-then-is_group
returns-then-is_group c =
    let o = c.loop-i in
    sought_here _ _ _ _ o.i c.loop-i-test.true o.invariant _ c.record.ensures _ c.is_group.ensures _ o.auto.i c.if-is_group.true

pub loop-i-preserved : goal.loop-i-preserved
loop-i-preserved c =
    let o = c.loop-i in
    sought_next _ _ _ _ o.i c.loop-i-test.true o.invariant _ c.record.ensures _ c.is_group.ensures c.if-is_group.false

pub returns : goal.returns
returns c = sought_none _ _ _ _ c.loop-i.i (omega arith) c.loop-i.invariant
