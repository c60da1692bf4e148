use Rattle.planes.specs.Plane.{plane_size}
use Rattle.planes.specs.Adds.{Adds}
use Rattle.widths.specs.Widths.{line_bytes}
use Rattle.links.specs.Carried.{pairs}
use Rattle.links.proofs.HeaderByHeader.{below}
use Rattle.links.proofs.carry.Given as goal

-- the frames with a header below this one are carried
abbrev pub invariant-loop-header : goal.invariant-loop-header
invariant-loop-header l =
    Adds (pairs l.w (below l.w l.from.switch l.from.port l.to.switch l.to.port l.header)) l.base (plane_size (line_bytes l.w)) l.initial.work l.work
