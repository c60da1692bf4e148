-- What the functions of the search ask of the step plane and of the distances, and what they leave.
use Rattle.std.specs.Prelude.{◌≡◌, Bool, true, false, List, ◌∷◌, ℕ, ◌+◌, ◌*◌, ◌<◌, ◌≤◌, length, get_or, Option, Some, None, MatchOption, Ok}
use Rattle.std.proofs.Math.Option as M
use Rattle.std.proofs.Math.Option.{none, some}
use Rattle.planes.specs.Plane.{bit, cell, On, plane_size}
use Rattle.planes.specs.Lines.{Put}
use Rattle.format.specs.Record.{Net}
use Rattle.refusals.specs.Rows.{work_needed}
use Rattle.book.specs.Check.{cleared}
use Rattle.trails.specs.Route.{Is}
use Rattle.trails.specs.Computed.{or_one_more, onward}
use Rattle.trails.specs.Distances.{Near, Farther}
use Rattle.trails.specs.InNet.{route}
use Rattle.trails.specs.Answer.{route_answer_of}
use Rattle.trails.specs.Call.{of_route, with_route}

-- of two planes at the front of the work buffer the second has the steps of the first with both states exchanged
pub record Searchable (pitch : ℕ) (work : List ℕ) : Type 0 where
  pub small : pitch ≤ 128
  pub room : plane_size pitch + plane_size pitch ≤ length work
  pub turned : (x y : ℕ) → x < pitch * 8 → y < pitch * 8 → cell work (plane_size pitch) pitch x y ≡ cell work 0 pitch y x

-- line has a bit for each state, which f says
pub record LineOf (f : ℕ → Bool) (pitch : ℕ) (line : List ℕ) : Type 0 where
  pub width : length line ≡ pitch
  pub bits : (y : ℕ) → y < pitch * 8 → bit line y ≡ f y

-- the steps of the first plane
abbrev pub Steps : List ℕ → ℕ → ℕ → ℕ → Type 0
Steps work pitch x y = On work 0 pitch x y

-- the first n states without a distance have k + 1 if they step to x; every other distance is as before
pub record Marked (work : List ℕ) (pitch x k n : ℕ) (before after : List ℕ) : Type 0 where
  pub len : length after ≡ length before
  pub here : (y : ℕ) → y < n → get_or after y 0 ≡ or_one_more (get_or before y 0) (cell work 0 pitch y x) k
  pub later : (y : ℕ) → n ≤ y → get_or after y 0 ≡ get_or before y 0

-- a round for the first n states at the distance k, whatever the end; answered is whether there was one
pub record Advanced (work : List ℕ) (pitch k n : ℕ) (before : List ℕ) (some : Bool) (after : List ℕ) : Type 0 where
  pub len : length after ≡ length before
  pub farther : (b : ℕ) → Farther (pitch * 8) (Steps work pitch) b k n before after
  pub none : some ≡ false → (x : ℕ) → x < n → get_or before x 0 ≡ k → ⊥

-- the distances are known so far that a has one, or none has more
pub record Measured (work : List ℕ) (pitch a b : ℕ) (ds : List ℕ) : Type 0 where
  pub far : ℕ
  pub near : Near (pitch * 8) (Steps work pitch) b far ds
  pub enough : get_or ds a 0 ≡ 0 → pitch * 8 ≤ far

-- none of the states below n that x steps to has the distance k
pub record NoneNearer (work : List ℕ) (pitch : ℕ) (ds : List ℕ) (x k n : ℕ) : Type 0 where
  pub none : (z : ℕ) → z < n → cell work 0 pitch x z ≡ true → get_or ds z 0 ≡ k → ⊥

-- y is the smallest state that x steps to and that has the distance k
pub record NearerAt (work : List ℕ) (pitch : ℕ) (ds : List ℕ) (x k y : ℕ) : Type 0 where
  pub within : y < pitch * 8
  pub steps : cell work 0 pitch x y ≡ true
  pub distance : get_or ds y 0 ≡ k
  pub least : NoneNearer work pitch ds x k y

-- the smallest state that x steps to and that has the distance k, if there is one
abbrev pub Nearer : List ℕ → ℕ → List ℕ → ℕ → ℕ → Option ℕ → Type 0
Nearer work pitch ds x k y = MatchOption y (NoneNearer work pitch ds x k (pitch * 8)) (NearerAt work pitch ds x k)

-- the route from a to b by the distances
abbrev pub route_along : List ℕ → ℕ → List ℕ → ℕ → ℕ → List ℕ
route_along work pitch ds a b = a ∷ onward (pitch * 8) (cell work 0 pitch) ds b (get_or ds a 0) a

-- a distance of a is known, and there is room for the route
pub record Writable (work : List ℕ) (pitch a b : ℕ) (ds list : List ℕ) : Type 0 where
  pub plane : Searchable pitch work
  pub from : a < pitch * 8
  pub to : b < pitch * 8
  pub measured : Measured work pitch a b ds
  pub some : 1 ≤ get_or ds a 0
  pub room : pitch * 8 + 1 ≤ length list

-- the route is counted, and written into the list
pub record RouteWritten (work : List ℕ) (pitch a b : ℕ) (ds before : List ℕ) (count : ℕ) (after : List ℕ) : Type 0 where
  pub counted : count ≡ length (route_along work pitch ds a b)
  pub written : Put (route_along work pitch ds a b) 0 count before after

-- the count of a route's states, if there is one
abbrev pub entries : M.Option (List ℕ) → Option ℕ
entries none = None
entries (some l) = Some (length l)

-- the answer that is meant over the plane is counted, and written into the list
pub record Drawn (work : List ℕ) (pitch a b : ℕ) (before : List ℕ) (count : Option ℕ) (after : List ℕ) : Type 0 where
  pub answer : M.Option (List ℕ)
  pub meant : Is (pitch * 8) (Steps work pitch) a b answer
  pub counted : count ≡ entries answer
  pub written : after ≡ with_route answer before

-- the answer of a network that no row refuses, the list with the route, and the work that a verdict needs zero
pub record Shown (net : Net) (a b : ℕ) (work list : List ℕ) (r : Option ℕ) (list_after work_after : List ℕ) : Type 0 where
  pub answer : route_answer_of (Ok r) ≡ of_route (route net a b)
  pub lists : list_after ≡ with_route (route net a b) list
  pub works : work_after ≡ cleared (work_needed net) work
