-- What the search has found is the answer that is meant.
use mathlib.Core.Path.{◌≡◌, refl, ap, subst, ◌∙◌}
use mathlib.Core.List.{List, ◌++◌}
use mathlib.Core.Option.{none, some}
use Prim.Native.Nat.{ℕ, ◌*◌, ◌<◌}
use native.Mathlib.Nat.{zero-add}
use native.Mathlib.Omega.{arith}
use lib.ListN.{length, get_or, drop}
use Rattle.planes.specs.Plane.{cell}
use Rattle.planes.specs.Lines.{Put}
use Rattle.planes.specs.Laws.Copies.{put_is}
use Rattle.std.specs.Prelude.{Some, None}
use Rattle.trails.specs.Laws.Meant.{no_walk}
use Rattle.trace.specs.Search.{Steps, Measured, Writable, route_along, Drawn}
use Rattle.trace.proofs.Reading.{is_route, count, short}

-- no route
pub drawn_none : (work : List ℕ) (pitch a b : ℕ) (ds list : List ℕ) → a < pitch * 8 → Measured work pitch a b ds → get_or ds a 0 ≡ 0
    → Drawn work pitch a b list None list
drawn_none work pitch a b ds list ha M e =
    record {
      answer = none;
      meant = no_walk (pitch * 8) (Steps work pitch) (cell work 0 pitch) (λ x y hx hy. (λ e. e, λ e. e)) a b M.far ds M.near ha (M.enough e) e;
      counted = refl;
      written = refl;
    }

-- the route that was written
pub drawn_some : (work : List ℕ) (pitch a b : ℕ) (ds list : List ℕ) (W : Writable work pitch a b ds list) (n : ℕ) (after : List ℕ)
    → n ≡ length (route_along work pitch ds a b) → Put (route_along work pitch ds a b) 0 n list after → Drawn work pitch a b list (Some n) after
drawn_some work pitch a b ds list W n after e P =
    record { answer = some states; meant = is_route work pitch a b ds list W; counted = ap Some e; written = written }
  where
    states : List ℕ
    states = route_along work pitch ds a b

    written : after ≡ states ++ drop (length states) list
    written =
        put_is states (subst (λ (m : ℕ). Put states 0 m list after) e P)
        (omega (arith, count work pitch a b ds list W, short work pitch a b ds list W, W.room))
        ∙ ap (λ (m : ℕ). states ++ drop m list) (zero-add (length states))
