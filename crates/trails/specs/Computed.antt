-- The route, computed: what is proved of it stands in Laws.Meant.
use Rattle.std.specs.Prelude.{Bool, cond, ◌&&◌, List, [], ◌∷◌, ℕ, zero, suc, eqb, get_or}
use Rattle.std.proofs.Math.Option.{Option, none, some}
use Rattle.basics.specs.Tabulated.{grid_test, tab}
use Rattle.format.specs.Record.{Net}
use Rattle.basics.specs.Below.{any_below}
use Rattle.judgement.specs.Computed.{table_of, first_from}

-- by the distances ds, x is k steps away from b
unfoldable pub is_away : List ℕ → ℕ → ℕ → ℕ → Bool
is_away ds b zero x = eqb x b
is_away ds b (suc k) x = eqb (get_or ds x 0) (suc k)

-- y steps to x, which is k steps away
unfoldable pub is_onward : (ℕ → ℕ → Bool) → List ℕ → ℕ → ℕ → ℕ → ℕ → Bool
is_onward r ds b k y x = r y x && is_away ds b k x

-- a distance as it was; for a state without one k + 1, if it steps to a state that is k steps away
abbrev pub or_one_more : ℕ → Bool → ℕ → ℕ
or_one_more zero steps k = cond steps (suc k) 0
or_one_more (suc d) steps k = suc d

-- the distance of y after the round for those that are k steps away
unfoldable pub farther_at : ℕ → (ℕ → ℕ → Bool) → ℕ → ℕ → List ℕ → ℕ → ℕ
farther_at count r b k ds y = or_one_more (get_or ds y 0) (any_below count (is_onward r ds b k y)) k

-- the distances up to k: for each state the fewest steps, at least one, that lead from it to b; 0 if no so few do
unfoldable pub distances : ℕ → (ℕ → ℕ → Bool) → ℕ → ℕ → List ℕ
distances count r b zero = tab count 0 (λ y. 0)
distances count r b (suc k) = let ds = distances count r b k in tab count 0 (farther_at count r b k ds)

-- the state found; the count if there is none
abbrev pub or_count : ℕ → Option ℕ → ℕ
or_count count none = count
or_count count (some y) = y

-- the smallest state that x steps to and that is k steps away
unfoldable pub next_state : ℕ → (ℕ → ℕ → Bool) → List ℕ → ℕ → ℕ → ℕ → ℕ
next_state count r ds b k x = or_count count (first_from count 0 (is_onward r ds b k x))

-- the k states after x, each the smallest that is one step nearer
unfoldable pub onward : ℕ → (ℕ → ℕ → Bool) → List ℕ → ℕ → ℕ → ℕ → List ℕ
onward count r ds b zero x = []
onward count r ds b (suc k) x = let y = next_state count r ds b k x in y ∷ onward count r ds b k y

-- the route from a to b by the distances ds
unfoldable pub route_by : ℕ → (ℕ → ℕ → Bool) → List ℕ → ℕ → ℕ → Option (List ℕ)
route_by count r ds a b = let d = get_or ds a 0 in cond (eqb d 0) none (some (a ∷ onward count r ds b d a))

-- the route from a to b
unfoldable pub route_of : ℕ → (ℕ → ℕ → Bool) → ℕ → ℕ → Option (List ℕ)
route_of count r a b = let ds = distances count r b count in route_by count r ds a b

-- the route between two states of a network, over its tabulated steps
unfoldable pub tabled_route : Net → ℕ → ℕ → Option (List ℕ)
tabled_route net a b = let table = table_of net in route_of table.count (grid_test table.steps) a b
