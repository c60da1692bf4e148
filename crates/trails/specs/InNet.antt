-- The route between two states of a network.
use Rattle.std.specs.Prelude.{List, ◌↔◌, ◌≡◌, ℕ, ◌+◌, ◌<◌, ◌≤◌, length}
use Rattle.std.proofs.Math.Option.{Option, none}
use Rattle.std.proofs.Math.Decide.{dec_lt}
use Rattle.basics.specs.Tabulated.{grid_test}
use Rattle.walks.specs.Walk.{Walk}
use Rattle.walks.specs.Laws.Walks.{start}
use Rattle.format.specs.Record.{Net, widths_of}
use Rattle.widths.specs.Widths.{states}
use Rattle.onestep.specs.Step.{Step}
use Rattle.judgement.specs.Computed.{table_of}
use Rattle.judgement.specs.Laws.Tabled.{table_agrees}
use Rattle.trails.specs.Route.{Trail, Route, Is}
use Rattle.trails.specs.Computed.{tabled_route}
use Rattle.trails.specs.Laws.Meant.{one_route, trail_walk, short_trail, only, route_short, route_meant, route_iff}

-- the list is a path of one or more steps of the network, both ends included
abbrev pub PathIn : Net → ℕ → ℕ → List ℕ → Type 0
PathIn net a b l = Trail (states (widths_of net)) (Step net) a b l

-- the list is the route from a to b
abbrev pub RouteIn : Net → ℕ → ℕ → List ℕ → Type 0
RouteIn net a b l = Route (states (widths_of net)) (Step net) a b l

-- the answer that is meant: the route, or none if no walk leads from a to b
abbrev pub IsIn : Net → ℕ → ℕ → Option (List ℕ) → Type 0
IsIn net a b o = Is (states (widths_of net)) (Step net) a b o

module _ (net : Net) (a b : ℕ) where
  -- at most one list is the route
  pub only_route : {l m : List ℕ} → RouteIn net a b l → RouteIn net a b m → l ≡ m
  only_route p q = one_route (states (widths_of net)) (Step net) p q

  -- it has at most 2^N steps, so 2^N + 1 states
  pub route_length : {l : List ℕ} → RouteIn net a b l → length l ≤ states (widths_of net) + 1
  route_length p = route_short (states (widths_of net)) (Step net) p

  -- there is a path exactly if a walk leads from a to b
  pub path_exists : ((l : List ℕ) × PathIn net a b l) ↔ Walk (states (widths_of net)) (Step net) a b
  path_exists =
      (λ p. trail_walk (states (widths_of net)) (Step net) p.1, λ w. let s = short_trail (states (widths_of net)) (Step net) w in (s.0, s.1))

  -- there is a route exactly if a walk leads from a to b
  pub route_exists : ((l : List ℕ) × RouteIn net a b l) ↔ Walk (states (widths_of net)) (Step net) a b
  route_exists = route_iff (states (widths_of net)) (Step net) (grid_test (table_of net).steps) (table_agrees net).steps_agree a b

  -- at most one answer is meant
  pub only_answer : (o p : Option (List ℕ)) → IsIn net a b o → IsIn net a b p → o ≡ p
  only_answer o p h k = only (states (widths_of net)) (Step net) a b o p h k

  -- the answer that is meant, with the proof that it is; nothing leads from what is no state
  unfoldable pub routed_from : Dec (a < states (widths_of net)) → (o : Option (List ℕ)) × IsIn net a b o
  unfolding tabled_route table_of
  routed_from (yes h) =
      (tabled_route net a b, route_meant (states (widths_of net)) (Step net) (grid_test (table_of net).steps) (table_agrees net).steps_agree a b h)
  routed_from (no h) = (none, λ w. h (start w))

-- the answer that is meant, with the proof that it is
unfoldable pub routed : (net : Net) (a b : ℕ) → (o : Option (List ℕ)) × IsIn net a b o
routed net a b = routed_from net a b (dec_lt a (states (widths_of net)))

-- the route from a to b, or none
unfoldable pub route : Net → ℕ → ℕ → Option (List ℕ)
route net a b = (routed net a b).0

-- it is the answer that is meant
pub route_is_meant : (net : Net) (a b : ℕ) → IsIn net a b (route net a b)
unfolding route
route_is_meant net a b = (routed net a b).1
