use mathlib.Core.Path.{sym, ap, subst, ◌∙◌}
use Rattle.trails.specs.Laws.Bounds.{RouteSmall, route_small}
use Rattle.codes.specs.Code.{route_code}
use Rattle.wegbaro.proofs.wegbaro_route.Goals as goal

pub route_code-requires : goal.route_code-requires
route_code-requires c = subst RouteSmall (sym c.route-a.ensures.answered) (route_small _)

pub returns : goal.returns
returns c =
    let done = c.route-a.ensures in
    record { answered = c.route_code.ensures ∙ ap route_code done.answered; lists = done.lists; works = done.works }
