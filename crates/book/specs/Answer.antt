-- What the two calls answer, in document 01's words.
use Rattle.std.specs.Prelude.{ℕ, Option, None, Some, Result, Ok, Err}
use Rattle.refusals.specs.Numbers.{row_number}
use Rattle.refusals.specs.declared.Refused.{Refused}
use Rattle.judgement.specs.declared.Violation.{Violation}
use Rattle.book.specs.declared.Commanded.{Commanded}
use Rattle.book.specs.declared.Commanded.TheVariants.{Forwarded, Blocked}

-- the check call: holds; violated, with policy and state; refused, with number and place
pub data CheckAnswer : Type 0 where
  holds : CheckAnswer
  violated : ℕ → ℕ → CheckAnswer
  refused : ℕ → ℕ → CheckAnswer

-- the command call: forwarded, with the new record count; blocked, with policy and state; refused, with number and place
pub data CommandAnswer : Type 0 where
  forwarded : ℕ → CommandAnswer
  blocked : ℕ → ℕ → CommandAnswer
  refused : ℕ → ℕ → CommandAnswer

-- what each case of the check call's result stands for
abbrev pub check_answer_of : Result (Option Violation) Refused → CheckAnswer
check_answer_of (Ok None) = CheckAnswer.holds
check_answer_of (Ok (Some v)) = CheckAnswer.violated v.policy v.state
check_answer_of (Err r) = CheckAnswer.refused (row_number r.row) r.place

-- what each case of the command call's result stands for
abbrev pub command_answer_of : Result Commanded Refused → CommandAnswer
command_answer_of (Ok (Forwarded count)) = CommandAnswer.forwarded count
command_answer_of (Ok (Blocked v)) = CommandAnswer.blocked v.policy v.state
command_answer_of (Err r) = CommandAnswer.refused (row_number r.row) r.place
