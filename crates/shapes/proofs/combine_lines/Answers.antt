-- `shapes::combine_lines` meets its contract.
use mathlib.Core.Path.{refl}
use Rattle.forms.specs.Laws.LinesLaid.{laid_more, row_ready, still_plane, still_readable}
use Rattle.shapes.proofs.combine_lines.Goals as goal

pub join_rows-requires-clause-ready : goal.join_rows-requires-clause-ready
join_rows-requires-clause-ready c =
    let taken = c.loop-x-test.true in
    let M = c.loop-x.invariant in
    let J = c.requires.joinable in
    rw c.rows_of-r.ensures
    (row_ready _ _ _ _ taken c.args.j.first (still_plane _ _ _ _ _ _ M taken c.requires.plane) J.upright.0 (still_readable _ _ _ _ _ _ M taken c.args.j.first J.first))

pub join_rows-requires-clause-ready_2 : goal.join_rows-requires-clause-ready_2
join_rows-requires-clause-ready_2 c =
    let taken = c.loop-x-test.true in
    let M = c.loop-x.invariant in
    let J = c.requires.joinable in
    rw c.rows_of-r.ensures
    (row_ready _ _ _ _ taken c.args.j.second (still_plane _ _ _ _ _ _ M taken c.requires.plane) J.upright.1 (still_readable _ _ _ _ _ _ M taken c.args.j.second J.second))

pub loop-x-preserved : goal.loop-x-preserved
loop-x-preserved c =
    laid_more _ _ _ _ _ _ c.loop-x.invariant c.loop-x-test.true c.args.j _ _ _ c.requires.joinable refl refl (rw c.rows_of-r.ensures at c.join_rows.ensures) (λ y. refl)
