-- The route call: its rows 14 and 15, its answer, and what it leaves in the list and in the work buffer.
use Rattle.std.specs.Prelude.{◌≡◌, Bool, ◌||◌, List, ◌++◌, ℕ, ◌+◌, leb, ltb, length, drop}
use Rattle.std.proofs.Math.Option.{Option, none, some}
use Rattle.format.specs.Record.{Net, records, widths_of}
use Rattle.widths.specs.Widths.{states}
use Rattle.refusals.specs.Rows.{work_needed}
use Rattle.refusals.specs.Refusal.{Refusal, or_else, row, check_refusal}
use Rattle.book.specs.Check.{unless, cleared}
use Rattle.trails.specs.InNet.{route}
use Rattle.trails.specs.Answer.{RouteAnswer, found, no_route, refused}

-- row 14: a state is not below 2^N
unfoldable pub row14 : Net → ℕ → ℕ → Bool
row14 net start end = let count = states (widths_of net) in leb count start || leb count end

-- row 15: the list has under 2^N + 1 entries
unfoldable pub row15 : Net → ℕ → Bool
row15 net entries = ltb entries (states (widths_of net) + 1)

-- rows 14 and 15, of two states and a list
unfoldable pub route_row : Net → ℕ → ℕ → ℕ → Refusal
route_row net start end entries = let short = row (row15 net entries) 15 0 in or_else (row (row14 net start end) 14 0) short

-- a route call: what it is lent and given
pub record RouteCall : Type 0 where
  pub store : List ℕ
  pub count : ℕ
  pub work : List ℕ
  pub start : ℕ
  pub end : ℕ
  pub list : List ℕ

-- a call by its parts
abbrev pub route_call : List ℕ → ℕ → List ℕ → ℕ → ℕ → List ℕ → RouteCall
route_call store n work start end list = record { store = store; count = n; work = work; start = start; end = end; list = list }

-- the network in its store
abbrev pub network_of : RouteCall → Net
network_of c = records c.count c.store

-- what it refuses: rows 1 to 11, 16, 14 and 15
unfoldable pub route_refusal : RouteCall → Refusal
route_refusal c =
    let own = route_row (network_of c) c.start c.end (length c.list) in
    or_else (check_refusal c.store c.count (length c.work)) own

-- the route that it asks for, or none; no policy is judged
unfoldable pub route_for : RouteCall → Option (List ℕ)
route_for c = route (network_of c) c.start c.end

-- a route as an answer: the count of its states, both ends included
abbrev pub of_route : Option (List ℕ) → RouteAnswer
of_route none = no_route
of_route (some l) = found (length l)

-- a list with a route written into it: the entries past its end are as before, and all are if there is none
abbrev pub with_route : Option (List ℕ) → List ℕ → List ℕ
with_route none list = list
with_route (some l) list = l ++ drop (length l) list

-- the first row that refuses, or else the route
unfoldable pub route_answer : RouteCall → RouteAnswer
route_answer c = unless (route_refusal c) refused (of_route (route_for c))

-- the list after the call: untouched by a refusal, and else with the route
unfoldable pub list_after_call : RouteCall → List ℕ
list_after_call c = unless (route_refusal c) (λ number place. c.list) (with_route (route_for c) c.list)

-- the work buffer after the call: untouched by a refusal, and else the length that a verdict needs is all zero
unfoldable pub work_after_call : RouteCall → List ℕ
work_after_call c = unless (route_refusal c) (λ number place. c.work) (cleared (work_needed (network_of c)) c.work)

-- the promise of the route call: its answer, and the list and the work buffer after it; the store is only read
pub record RoutePromised (c : RouteCall) (answer : RouteAnswer) (list_after work_after : List ℕ) : Type 0 where
  pub answered : answer ≡ route_answer c
  pub lists : list_after ≡ list_after_call c
  pub works : work_after ≡ work_after_call c
