-- The lines that the program prints, as bytes.
use Rattle.std.specs.Prelude.{List, ◌++◌, ℕ}
use Rattle.book.specs.Answer.{CheckAnswer, CommandAnswer}
use Rattle.streams.specs.Text.{bytes, decimal}

-- one space and a number
unfoldable pub spaced : ℕ → List ℕ
spaced n = bytes " " ++ decimal n

-- a word and a number, to the end of the line
unfoldable pub with_one : List ℕ → ℕ → List ℕ
with_one word a = word ++ spaced a ++ bytes "\n"

-- a word and two numbers, to the end of the line
unfoldable pub with_two : List ℕ → ℕ → ℕ → List ℕ
with_two word a b = word ++ spaced a ++ spaced b ++ bytes "\n"

-- the first line: `start holds`, `start violated` policy state, or `start refused` number place
unfoldable pub start_line : CheckAnswer → List ℕ
start_line CheckAnswer.holds = bytes "start holds\n"
start_line (CheckAnswer.violated policy state) = with_two (bytes "start violated") policy state
start_line (CheckAnswer.refused number place) = with_two (bytes "start refused") number place

-- a command's line: its number, and `forwarded` count, `blocked` policy state, or `refused` number place
unfoldable pub answer_line : ℕ → CommandAnswer → List ℕ
answer_line turn (CommandAnswer.forwarded count) = decimal turn ++ with_one (bytes " forwarded") count
answer_line turn (CommandAnswer.blocked policy state) = decimal turn ++ with_two (bytes " blocked") policy state
answer_line turn (CommandAnswer.refused number place) = decimal turn ++ with_two (bytes " refused") number place

-- what a cut last record prints
unfoldable pub end_short : List ℕ
end_short = bytes "end short\n"
