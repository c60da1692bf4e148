-- The program's whole output for a whole input.
use Rattle.std.specs.Prelude.{◌≡◌, cond, List, [], ◌∷◌, ◌++◌, ℕ, suc}
use Rattle.format.specs.Record.{Rec, Net}
use Rattle.book.specs.Answer.{CheckAnswer, CommandAnswer}
use Rattle.book.specs.Check.{check_answer, check_work}
use Rattle.book.specs.Reference.{Installed, installed_at_start, outcome_of, command_work}
use Rattle.streams.specs.Line.{start_line, answer_line, end_short}
use Rattle.streams.specs.Input.{Input, input, is_cut, short_start}

-- the program's work buffer
abbrev pub work_bytes : ℕ
work_bytes = 65536

-- what is installed, by its count and the store's bytes
abbrev pub installed_with : ℕ → List ℕ → Installed
installed_with count bytes = record { count = count; bytes = bytes }

-- the check call's answer at the start
unfoldable pub start_answer : Net → CheckAnswer
start_answer net = let i = installed_at_start net in check_answer i.bytes i.count work_bytes

-- the check call with the program's work: its answer, and the work after it
pub record CheckIs (store : List ℕ) (n : ℕ) (work : List ℕ) (answer : CheckAnswer) (work_after : List ℕ) : Type 0 where
  pub answered : answer ≡ check_answer store n work_bytes
  pub works : work_after ≡ check_work store n work

-- one command with the program's work: its answer, what is installed after it, and the work after it
pub record OutcomeIs (before : Installed) (c : Rec) (work : List ℕ) (answer : CommandAnswer) (after : Installed) (work_after : List ℕ) : Type 0 where
  pub answered : answer ≡ (outcome_of before c work_bytes).answer
  pub left : after ≡ (outcome_of before c work_bytes).after
  pub works : work_after ≡ command_work before c work

-- each command's line, from a number on
unfoldable pub answer_lines : ℕ → Installed → List Rec → List ℕ
answer_lines turn i [] = []
answer_lines turn i (c ∷ cs) = let o = outcome_of i c work_bytes in answer_line turn o.answer ++ answer_lines (suc turn) o.after cs

-- `end short` if the last record is cut
unfoldable pub last_line : Input → List ℕ
last_line i = cond (is_cut i) end_short []

-- behind a start line that is not `start holds` there is nothing
unfoldable pub after_start : CheckAnswer → Input → List ℕ
after_start CheckAnswer.holds i = answer_lines 1 (installed_at_start i.network) i.commands ++ last_line i
after_start (CheckAnswer.violated policy state) i = []
after_start (CheckAnswer.refused number place) i = []

-- the start line, and what follows it
unfoldable pub started : Input → List ℕ
started i = let start = start_answer i.network in start_line start ++ after_start start i

-- the lines of an input
unfoldable pub output_of : Input → List ℕ
output_of i = cond (short_start i) end_short (started i)

-- the whole output for a whole input
unfoldable pub output : List ℕ → List ℕ
output bytes = output_of (input bytes)
