use Rattle.links.proofs.MarkedPoints.{marked_none, marked_more, marked_all}
use Rattle.links.proofs.linked_points.Goals as goal

pub loop-i-init : goal.loop-i-init
loop-i-init c = marked_none c.args.net.now

pub loop-i-preserved : goal.loop-i-preserved
loop-i-preserved c =
    let E = c.at-link.ensures in
    let o = c.loop-i in
    marked_more c.args.net.now o.i o.auto.i c.loop-i-test.true _ E.is E.points _ _ _ c.insert.ensures c.insert-in-loop-i.ensures o.invariant

pub returns : goal.returns
returns c = marked_all c.args.net.now c.loop-i.i c.loop-i.points c.loop-i-test.false c.loop-i.invariant
