use mathlib.Core.Path.{◌≡◌}
use Rattle.format.specs.Record.{records}
use Rattle.lines.specs.Laws.LineBits.{upto_none, upto_more, upto_all}
use native.Mathlib.Omega.{arith}
use Rattle.verdict.proofs.judge.externals.Goals as goal

pub loop-z-init : goal.loop-z-init
loop-z-init c = upto_none _

pub is_external-t-requires : goal.is_external-t-requires
is_external-t-requires c = c.args.net.now.stored.laid.limits

pub loop-z-preserved : goal.loop-z-preserved
loop-z-preserved c =
    let net = c.args.net.now in
    let t = c.is_external-t.ensures (records net.n net.store.now) net.stored.laid.widths c.linked_points-points.ensures in
    upto_more _ _ _ _ _ c.loop-z.invariant c.push.ensures t

pub returns : goal.returns
returns c =
    let e : c.loop-z.z ≡ c.args.s = omega arith in
    upto_all _ _ _ _ e c.loop-z.invariant
