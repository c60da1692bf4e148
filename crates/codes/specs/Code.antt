-- An answer as one 64-bit number: its case in bits 0 and 1, its first number in bits 2 to 17, its second in bits 18 to 33.
use Rattle.std.specs.Prelude.{◌≡◌, List, ℕ, ◌+◌, ◌*◌, length}
use Rattle.book.specs.Answer.{CheckAnswer, CommandAnswer}
use Rattle.book.specs.Check.{check_answer, check_work}
use Rattle.book.specs.Reference.{outcome_of, command_work}
use Rattle.trails.specs.Answer.{RouteAnswer}
use Rattle.trails.specs.Call.{RouteCall, route_answer, list_after_call, work_after_call}

-- a case with its two numbers
abbrev pub coded : ℕ → ℕ → ℕ → ℕ
coded tag first second = tag + 4 * (first + 65536 * second)

-- the check call: 0 holds; 1 violated, policy, state; 2 refused, number, place
abbrev pub check_code : CheckAnswer → ℕ
check_code CheckAnswer.holds = 0
check_code (CheckAnswer.violated policy state) = coded 1 policy state
check_code (CheckAnswer.refused number place) = coded 2 number place

-- the command call: 0 forwarded, count; 1 blocked, policy, state; 2 refused, number, place
abbrev pub command_code : CommandAnswer → ℕ
command_code (CommandAnswer.forwarded count) = coded 0 count 0
command_code (CommandAnswer.blocked policy state) = coded 1 policy state
command_code (CommandAnswer.refused number place) = coded 2 number place

-- the route call: 0 found, count; 1 no route; 2 refused, number, place
abbrev pub route_code : RouteAnswer → ℕ
route_code (RouteAnswer.found count) = coded 0 count 0
route_code RouteAnswer.no_route = coded 1 0 0
route_code (RouteAnswer.refused number place) = coded 2 number place

-- the promise of the check call, its answer coded
pub record CheckCoded (store : List ℕ) (n : ℕ) (work : List ℕ) (code : ℕ) (work_after : List ℕ) : Type 0 where
  pub answered : code ≡ check_code (check_answer store n (length work))
  pub works : work_after ≡ check_work store n work

-- the promise of the command call, its answer coded
pub record CommandCoded (store : List ℕ) (n : ℕ) (work given : List ℕ) (code : ℕ) (store_after work_after : List ℕ) : Type 0 where
  pub answered : code ≡ command_code (outcome_of (record { count = n; bytes = store }) given (length work)).answer
  pub stores : store_after ≡ (outcome_of (record { count = n; bytes = store }) given (length work)).after.bytes
  pub works : work_after ≡ command_work (record { count = n; bytes = store }) given work

-- the promise of the route call, its answer coded
pub record RouteCoded (c : RouteCall) (code : ℕ) (list_after work_after : List ℕ) : Type 0 where
  pub answered : code ≡ route_code (route_answer c)
  pub lists : list_after ≡ list_after_call c
  pub works : work_after ≡ work_after_call c
