use Rattle.lines.specs.Laws.Quantified.{quantifies, bytes_none, bytes_more}
use Rattle.lines.proofs.over_bytes.Goals as goal

pub loop-j-init : goal.loop-j-init
loop-j-init g c f same = rw (c.units-c.ensures, c.op-o.ensures) (bytes_none _ (quantifies c.args.q) f)

pub loop-j-preserved : goal.loop-j-preserved
loop-j-preserved g c f same =
    rw (c.byte-c.ensures, c.op-o.ensures) (bytes_more _ (quantifies c.args.q) f _ _ _ (c.loop-j.invariant f same) (same _ _ c.get.ensures))
