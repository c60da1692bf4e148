use mathlib.Core.Path.{subst}
use Rattle.planes.specs.Plane.{plane_size}
use Rattle.planes.specs.Adds.{Adds}
use Rattle.widths.specs.Widths.{line_bytes}
use Rattle.links.specs.declared.Link.{Link}
use Rattle.links.specs.Carried.{one_way, pairs, crosses}
use Rattle.links.proofs.EveryHeader.{followed}
use Rattle.links.proofs.follow.Goals as goal

pub returns : goal.returns
returns c =
    let a = c.args in
    let size = plane_size (line_bytes a.w) in
    λ l e.
    followed a.w c.requires.plane_room.0 a.base l _ _ _
    (subst (λ (k : Link). Adds (pairs a.w (crosses a.w (one_way k.one.switch k.one.port k.other.switch k.other.port))) a.base size a.work.now c.carry.new.work) e c.carry.ensures)
    (subst (λ (k : Link). Adds (pairs a.w (crosses a.w (one_way k.other.switch k.other.port k.one.switch k.one.port))) a.base size c.carry.new.work c.carry-2.new.work) e c.carry-2.ensures)
