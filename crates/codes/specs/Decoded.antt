-- The answer that a 64-bit number stands for: its case in bits 0 and 1, its first number in bits 2 to 17, its second in bits 18 to 33.
use Rattle.std.specs.Prelude.{◌≡◌, refl, List, ℕ, zero, suc, ◌/◌, ◌%◌, ◌^◌, ◌<◌, length}
use Rattle.std.proofs.Common.{ap, ◌∙◌, arith, lit<}
use Rattle.format.specs.Record.{Rec, records}
use Rattle.format.specs.Policy.{forbidden}
use Rattle.truth.specs.Even.{Even}
use Rattle.judgement.specs.Choice.{Choice, HoldsUnder}
use Rattle.book.specs.Answer.{CheckAnswer, CommandAnswer}
use Rattle.book.specs.Check.{check_answer, CheckPromised}
use Rattle.book.specs.Found.{FoundToHold}
use Rattle.book.specs.EvenPolicies.{check_even}
use Rattle.book.specs.Reference.{Installed, outcome_of}
use Rattle.book.specs.Command.{call, Promised}
use Rattle.book.specs.Laws.Bounds.{Fits16, CheckSmall, CommandSmall, check_small, command_small}
use Rattle.trails.specs.Answer.{RouteAnswer}
use Rattle.trails.specs.Call.{RouteCall, route_answer, RoutePromised}
use Rattle.trails.specs.Laws.Bounds.{RouteSmall, route_small}
use Rattle.codes.specs.Code.{coded, check_code, command_code, route_code, CheckCoded, CommandCoded, RouteCoded}

-- its case
abbrev pub case_of : ℕ → ℕ
case_of code = code % 2 ^ 2

-- its first number
abbrev pub first_of : ℕ → ℕ
first_of code = code / 2 ^ 2 % 2 ^ 16

-- its second number
abbrev pub second_of : ℕ → ℕ
second_of code = code / 2 ^ 18 % 2 ^ 16

-- an answer of the check call by its case and numbers: 0 holds; 1 violated, policy, state; 2 refused, number, place
abbrev pub check_by : ℕ → ℕ → ℕ → CheckAnswer
check_by zero first second = CheckAnswer.holds
check_by (suc zero) first second = CheckAnswer.violated first second
check_by (suc (suc k)) first second = CheckAnswer.refused first second

-- an answer of the command call by its case and numbers: 0 forwarded, count; 1 blocked, policy, state; 2 refused, number, place
abbrev pub command_by : ℕ → ℕ → ℕ → CommandAnswer
command_by zero first second = CommandAnswer.forwarded first
command_by (suc zero) first second = CommandAnswer.blocked first second
command_by (suc (suc k)) first second = CommandAnswer.refused first second

-- an answer of the route call by its case and numbers: 0 found, count; 1 no route; 2 refused, number, place
abbrev pub route_by : ℕ → ℕ → ℕ → RouteAnswer
route_by zero first second = RouteAnswer.found first
route_by (suc zero) first second = RouteAnswer.no_route
route_by (suc (suc k)) first second = RouteAnswer.refused first second

-- the check call's answer
unfoldable pub check_decoded : ℕ → CheckAnswer
check_decoded code = check_by (case_of code) (first_of code) (second_of code)

-- the command call's answer
unfoldable pub command_decoded : ℕ → CommandAnswer
command_decoded code = command_by (case_of code) (first_of code) (second_of code)

-- the route call's answer
unfoldable pub route_decoded : ℕ → RouteAnswer
route_decoded code = route_by (case_of code) (first_of code) (second_of code)

-- the parts of a code are what was put into it, so that an answer made of them is the one that was coded
module _ (tag first second : ℕ) (t : tag < 4) (f : Fits16 first) (s : Fits16 second) where
  case_back : case_of (coded tag first second) ≡ tag
  case_back = omega arith

  first_back : first_of (coded tag first second) ≡ first
  first_back = omega arith

  second_back : second_of (coded tag first second) ≡ second
  second_back = omega arith

  parts_back : {A : Type 0} (by : ℕ → ℕ → ℕ → A)
      → by (case_of (coded tag first second)) (first_of (coded tag first second)) (second_of (coded tag first second)) ≡ by tag first second
  parts_back by = cc (case_back, first_back, second_back)

-- decoding gives back every answer whose numbers fit in 16 bits
check_back : (a : CheckAnswer) → CheckSmall a → check_decoded (check_code a) ≡ a
unfolding check_decoded
check_back CheckAnswer.holds s = refl
check_back (CheckAnswer.violated p x) s = parts_back 1 p x (lit< tt) s.0 s.1 check_by
check_back (CheckAnswer.refused k p) s = parts_back 2 k p (lit< tt) s.0 s.1 check_by

command_back : (a : CommandAnswer) → CommandSmall a → command_decoded (command_code a) ≡ a
unfolding command_decoded
command_back (CommandAnswer.forwarded m) s = parts_back 0 m 0 (lit< tt) s (lit< tt) command_by
command_back (CommandAnswer.blocked p x) s = parts_back 1 p x (lit< tt) s.0 s.1 command_by
command_back (CommandAnswer.refused k p) s = parts_back 2 k p (lit< tt) s.0 s.1 command_by

route_back : (a : RouteAnswer) → RouteSmall a → route_decoded (route_code a) ≡ a
unfolding route_decoded
route_back (RouteAnswer.found m) s = parts_back 0 m 0 (lit< tt) s (lit< tt) route_by
route_back RouteAnswer.no_route s = parts_back 1 0 0 (lit< tt) (lit< tt) (lit< tt) route_by
route_back (RouteAnswer.refused k p) s = parts_back 2 k p (lit< tt) s.0 s.1 route_by

-- so it gives back every answer that the check call can give
pub check_decoded_lem : (store : List ℕ) (n work : ℕ) → check_decoded (check_code (check_answer store n work)) ≡ check_answer store n work
check_decoded_lem store n work = check_back (check_answer store n work) (check_small store n work)

-- and every answer that the command call can give
pub command_decoded_lem : (i : Installed) (c : Rec) (work : ℕ) → command_decoded (command_code (outcome_of i c work).answer) ≡ (outcome_of i c work).answer
command_decoded_lem i c work = command_back (outcome_of i c work).answer (command_small i c work)

-- and every answer that the route call can give
pub route_decoded_lem : (c : RouteCall) → route_decoded (route_code (route_answer c)) ≡ route_answer c
route_decoded_lem c = route_back (route_answer c) (route_small c)

-- so the exported check call keeps the check call's promise, with the decoded answer
pub check_promised : {store : List ℕ} {n : ℕ} {work : List ℕ} {code : ℕ} {after : List ℕ} → CheckCoded store n work code after
    → CheckPromised store n work (check_decoded code) after
check_promised {store} {n} {work} c =
    record { answered = ap check_decoded c.answered ∙ check_decoded_lem store n (length work); works = c.works }

-- and by its decoded answer an even policy that it found to hold holds under every choice among equals
pub coded_even : {store : List ℕ} {n : ℕ} {work : List ℕ} {code : ℕ} {after : List ℕ} → CheckCoded store n work code after
    → (p : ℕ) → FoundToHold (records n store) (check_decoded code) p → Even (forbidden (records n store) p)
    → (c : ℕ → Rec) → Choice (records n store) c → HoldsUnder (records n store) c p
coded_even d = check_even (check_promised d)

-- and the exported command call the command call's
pub command_promised : {store : List ℕ} {n : ℕ} {work given : List ℕ} {code : ℕ} {store_after work_after : List ℕ}
    → CommandCoded store n work given code store_after work_after → Promised (call store n work given (command_decoded code) store_after work_after)
command_promised {store} {n} {work} {given} c =
    record {
      answered = ap command_decoded c.answered ∙ command_decoded_lem (record { count = n; bytes = store }) given (length work);
      stores = c.stores;
      works = c.works;
    }

-- and the exported route call the route call's
pub route_promised : {c : RouteCall} {code : ℕ} {list_after work_after : List ℕ} → RouteCoded c code list_after work_after
    → RoutePromised c (route_decoded code) list_after work_after
route_promised {c} r = record { answered = ap route_decoded r.answered ∙ route_decoded_lem c; lists = r.lists; works = r.works }
