-- `reaching::close_into` meets its contract.
use Rattle.sinks.specs.Laws.Turning.{between_more}
use Rattle.reaching.proofs.Ending.{copied_between, copied_anew, stable_closed, between_closed, made_closed}
use Rattle.reaching.proofs.close_into.Goals as goal

pub returns-then-pitch-le4 : goal.returns-then-pitch-le4
returns-then-pitch-le4 c = made_closed _ _ _ _ _ c.close_into.ensures

pub returns-then-by_search : goal.returns-then-by_search
returns-then-by_search c =
    let B = between_more _ _ _ _ _ _ (copied_between _ _ _ _ _ c.copy_plane.ensures) c.by_search.ensures.between in
    stable_closed _ _ _ _ _ B (c.by_search.ensures.stable c.if-by_search.true)

pub returns : goal.returns
returns c =
    let B = between_more _ _ _ _ _ _ (copied_between _ _ _ _ _ c.copy_plane.ensures) c.by_search.ensures.between in
    between_closed _ _ _ _ _ _ (copied_anew _ _ _ _ _ c.copy_plane-2.ensures _ c.requires B) c.close.ensures
