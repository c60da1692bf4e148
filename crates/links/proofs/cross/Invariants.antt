use mathlib.Core.Path.{◌≡◌}
use lib.ListN.{length}
use Rattle.planes.specs.Plane.{plane_size}
use Rattle.format.specs.Record.{records, of_kind}
use Rattle.widths.specs.Widths.{line_bytes}
use Rattle.format.specs.Laws.Parts.{part}
use Rattle.onestep.specs.Step.{across}
use Rattle.links.specs.Carried.{pairs, crosses}
use Rattle.planes.specs.Laws.AddedBits.{Toward}
use Rattle.links.proofs.cross.Given as goal

-- the links from place i on are left
abbrev pub invariant-loop-i : goal.invariant-loop-i
invariant-loop-i l =
    let w = l.net.layout.widths in
    let net = records l.net.n l.net.store.now in
    (length l.work ≡ length l.initial.work)
    × Toward l.base (plane_size (line_bytes w)) (pairs w (crosses w (λ sw p. across sw p (of_kind 2 net))))
    (pairs w (crosses w (λ sw p. across sw p (part net l.i l.net.layout.misses)))) l.initial.work l.work
