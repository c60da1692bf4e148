use native.Mathlib.Omega.{arith}
use Rattle.trace.proofs.Drawing.{drawn_none, drawn_some}
use Rattle.trace.proofs.draw_by.Goals as goal

pub returns-then-distances-start-eq0 : goal.returns-then-distances-start-eq0
returns-then-distances-start-eq0 c =
    drawn_none _ _ _ _ _ _ c.requires.within.0 c.measure.ensures c.if-distances-start-eq0.true

pub returns : goal.returns
returns c =
    let w = c.write_route.ensures in
    let p = c.requires.within in
    drawn_some _ _ _ _ _ _ (record {
      plane = c.args.steps.now.searchable;
      from = p.0;
      to = p.1;
      measured = c.measure.ensures;
      some = omega (arith, c.if-distances-start-eq0.false);
      room = p.2;
    }) _ _ w.counted w.written
