-- `shapes::combine` meets its contract.
use Rattle.forms.specs.Laws.LinesLaid.{planes_joined}
use Rattle.shapes.proofs.combine.Goals as goal

pub returns : goal.returns
returns c =
    let planes = c.in-Both-Both in
    rw (planes.is-0, planes.is-1) (planes_joined c.args.j.op _ _ _ _ _ _ (rw (c.size.ensures, c.starts.ensures, planes.is-0, planes.is-1) at c.join_planes.ensures))
