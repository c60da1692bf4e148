-- `route::route` meets its contract.
use Rattle.std.proofs.lemmas.Result.{err_from_is_err_and}
use Rattle.trails.specs.Call.{route_call}
use Rattle.route.proofs.Showing.{route_refused, refused_early}
use Rattle.route.proofs.route.Goals as goal

pub returns-in_err-net : goal.returns-in_err-net
returns-in_err-net c =
    let a = c.args in
    let call = route_call a.store.now a.n a.work.now a.start a.end a.list.now in
    let e = err_from_is_err_and c.from_residual.result c.from_residual.ensures.1 in
    rw (e.1, e.2) (route_refused call _ _ (refused_early call _ _ c.in_err-net.ensures))
