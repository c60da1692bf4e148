-- Routes of network K and of small relations, by computation.
use Rattle.std.specs.Prelude.{◌≡◌, refl, Bool, ◌&&◌, ◌||◌, ℕ, ◌+◌, ◌%◌, eqb, get_or}
use Rattle.std.proofs.Common.{ap, subst}
use mathlib.Core.List.{List, [], ◌∷◌, flat_map}
use Rattle.std.proofs.Math.Option.{Option, none, some}
use Rattle.std.proofs.Math.Decide.{dec_lt}
use Rattle.basics.specs.Tabulated.{grid_test, tab}
use Rattle.walks.specs.Walk.{Walk}
use Rattle.basics.specs.Lists.{member}
use Rattle.format.specs.Record.{ends_at, linked, widths_of}
use Rattle.widths.specs.Widths.{states}
use Rattle.format.specs.State.{header_of, port_of, switch_of, direction_of}
use Rattle.format.specs.NetK.{record24, node, A, B, policy0, K}
use Rattle.refusals.specs.Rows.{row1}
use Rattle.refusals.specs.Refusal.{arguments_row, check_refusal}
use Rattle.onestep.specs.Computing.{sending}
use Rattle.onestep.specs.Step.{across, next_by, next, Step, external}
use Rattle.basics.specs.Below.{any_below}
use Rattle.judgement.specs.Computed.{table_of, first_from}
use Rattle.trails.specs.Computed.{is_away, is_onward, farther_at, distances, next_state, onward, route_by, route_of, tabled_route}
use Rattle.trails.specs.Call.{row14, row15, route_row, route_call, route_refusal}
use Rattle.trails.specs.InNet.{RouteIn, IsIn, routed_from, routed, route, route_is_meant}

-- all that the examples compute with
unfoldable computing : Unit {0}
unfolding flat_map grid_test tab member ends_at linked states header_of port_of switch_of direction_of record24 node A B policy0 K sending across next_by next external table_of any_below first_from is_away is_onward farther_at distances next_state onward route_by route_of tabled_route routed_from routed route dec_lt
computing = tt

-- from 2 to 28 by way of 20 and 10; from 28 to 2 there is none
routes_of_K : route K 2 28 ∷ route K 28 2 ∷ [] ≡ some (2 ∷ 20 ∷ 10 ∷ 28 ∷ []) ∷ none ∷ []
unfolding computing
routes_of_K = refl

-- the route from 2 to 28
from_2 : RouteIn K 2 28 (2 ∷ 20 ∷ 10 ∷ 28 ∷ [])
from_2 = subst (IsIn K 2 28) (ap (λ (l : List (Option (List ℕ))). get_or l 0 none) routes_of_K) (route_is_meant K 2 28)

-- no walk leads from 28 to 2
from_28 : Walk (states (widths_of K)) (Step K) 28 2 → ⊥
from_28 = subst (IsIn K 28 2) (ap (λ (l : List (Option (List ℕ))). get_or l 1 none) routes_of_K) (route_is_meant K 28 2)

-- rows 14 and 15 at K's 32 states: the last state and the next number, as the start and as the end; a list of 32 entries and of 33; 14 before 15, and row 1 before both
rows_of_K :
    route_row K 31 31 33 ∷ route_row K 32 0 33 ∷ route_row K 0 32 33 ∷ route_row K 0 0 32 ∷ route_row K 32 0 32 ∷ route_refusal (route_call [] 0 [] 32 0 []) ∷ []
    ≡ none ∷ some (14, 0) ∷ some (14, 0) ∷ some (15, 0) ∷ some (14, 0) ∷ some (1, 0) ∷ []
unfolding computing row1 arguments_row check_refusal row14 row15 route_row route_refusal
rows_of_K = refl

-- a ring of three, a chain with a short cut from 0 to 2, and steps by one or two
unfoldable ring : ℕ → ℕ → Bool
ring x y = eqb y ((x + 1) % 3)

unfoldable short_cut : ℕ → ℕ → Bool
short_cut x y = eqb y (x + 1) || (eqb x 0 && eqb y 2)

unfoldable one_or_two : ℕ → ℕ → Bool
one_or_two x y = eqb y (x + 1) || eqb y (x + 2)

-- from a state to itself: all three and back, count + 1 states; fewest before smallest; among the fewest the smallest first differing state
small_cases :
    route_of 3 ring 0 0 ∷ route_of 4 short_cut 0 3 ∷ route_of 5 one_or_two 0 3 ∷ route_of 5 one_or_two 3 0 ∷ []
    ≡ some (0 ∷ 1 ∷ 2 ∷ 0 ∷ []) ∷ some (0 ∷ 2 ∷ 3 ∷ []) ∷ some (0 ∷ 1 ∷ 3 ∷ []) ∷ none ∷ []
unfolding computing ring short_cut one_or_two
small_cases = refl
