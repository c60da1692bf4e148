-- What the route call answers.
use Rattle.std.specs.Prelude.{ℕ, Option, None, Some, Result, Ok, Err}
use Rattle.refusals.specs.Numbers.{row_number}
use Rattle.refusals.specs.declared.Refused.{Refused}

-- a route was found, with the count of its states; there is none; refused, with number and place
pub data RouteAnswer : Type 0 where
  found : ℕ → RouteAnswer
  no_route : RouteAnswer
  refused : ℕ → ℕ → RouteAnswer

-- what each case of the route call's result stands for
abbrev pub route_answer_of : Result (Option ℕ) Refused → RouteAnswer
route_answer_of (Ok (Some count)) = RouteAnswer.found count
route_answer_of (Ok None) = RouteAnswer.no_route
route_answer_of (Err r) = RouteAnswer.refused (row_number r.row) r.place
