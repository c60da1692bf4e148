-- The command call: what it was lent and given, and its promise.
use Rattle.std.specs.Prelude.{◌≡◌, List, ℕ, length}
use Rattle.format.specs.Record.{Net}
use Rattle.effect.specs.Apply.{would_leave}
use Rattle.book.specs.Answer.{CommandAnswer}
use Rattle.book.specs.Reference.{Installed, network, outcome_of, command_work}

-- a command call: what it was lent and given, what it answered, and what it left
pub record Call : Type 0 where
  pub store : List ℕ
  pub count : ℕ
  pub work : List ℕ
  pub given : List ℕ
  pub answer : CommandAnswer
  pub store_after : List ℕ
  pub work_after : List ℕ

-- a call by its parts
abbrev pub call : List ℕ → ℕ → List ℕ → List ℕ → CommandAnswer → List ℕ → List ℕ → Call
call store n work given answer store_after work_after =
    record { store = store; count = n; work = work; given = given; answer = answer; store_after = store_after; work_after = work_after }

-- what was installed at the call
abbrev pub start_of : Call → Installed
start_of c = record { count = c.count; bytes = c.store }

-- the promise of the command call: answer, store and work after are the reference's
pub record Promised (c : Call) : Type 0 where
  pub answered : c.answer ≡ (outcome_of (start_of c) c.given (length c.work)).answer
  pub stores : c.store_after ≡ (outcome_of (start_of c) c.given (length c.work)).after.bytes
  pub works : c.work_after ≡ command_work (start_of c) c.given c.work

-- the network that a call's command would leave
abbrev pub left : Call → Net
left c = would_leave c.given (network (start_of c))

-- the call was refused by no row
abbrev pub NotRefused : Call → Type 0
NotRefused c = (number place : ℕ) → c.answer ≡ CommandAnswer.refused number place → ⊥
