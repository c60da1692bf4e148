use mathlib.Core.Path.{sym, ◌∙◌}
use Prim.Native.Nat.{◌/◌, ◌%◌}
use Rattle.planes.specs.Plane.{plane_size}
use Rattle.format.specs.Record.{records}
use Rattle.widths.specs.Widths.{states, line_bytes}
use Rattle.format.specs.Laws.Parts.{part_none}
use Rattle.planes.specs.Laws.AddedBits.{toward_more, adds_none, adds_as}
use Rattle.links.proofs.LinkCrossings.{crosses_none}
use Rattle.links.proofs.LinksInStore.{links_cross}
use Rattle.links.proofs.cross.Goals as goal

pub loop-i-preserved : goal.loop-i-preserved
loop-i-preserved c =
    let net = c.args.net.now in
    let w = net.layout.widths in
    let o = c.loop-i in
    let A = c.follow.ensures _ c.at.ensures.is in (
      A.len ∙ o.invariant.0,
      toward_more c.args.base (plane_size (line_bytes w)) _ _ _ _ _ _ _
          (λ x h. links_cross net o.i o.auto.i c.loop-i-test.true (x / states w) (x % states w)) o.invariant.1 A,
    )

pub returns : goal.returns
returns c =
    let net = c.args.net.now in
    let w = net.layout.widths in
    let o = c.loop-i in
    o.invariant.1 o.work
    (rw (part_none (records net.n net.store.now) o.i net.layout.misses c.loop-i-test.false)
    (adds_as _ _ _ _ _ _ (λ x h. sym (crosses_none w (x / states w) (x % states w))) (adds_none _ _ _)))
