use native.Mathlib.Omega.{arith}
use Rattle.links.specs.Laws.PointBits.{point-lt, point_switch, point_port}
use Rattle.links.proofs.Points.insert.Goals as goal

pub set_bit-requires : goal.set_bit-requires
set_bit-requires c =
    let w = c.args.w in
    let p = c.args.at in
    omega (arith, c.number.ensures, point-lt w p.switch p.port c.requires.0 (point_switch w p.switch p.port c.requires.1) (point_port w p.switch p.port c.requires.1))
