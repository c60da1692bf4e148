-- What the verdict on a command comes to.
use Rattle.std.specs.Prelude.{List, ℕ, ◌++◌, drop, Result, MatchResult}
use Rattle.format.specs.Record.{Rec, store_bytes}
use Rattle.judgement.specs.declared.Violation.{Violation}
use Rattle.book.specs.Answer.{forwarded, blocked}
use Rattle.book.specs.Command.{Promised, call}

-- the call of a command keeps its promise when it answers this: forwarded, with what was made in place of the store's first bytes,
-- or blocked
abbrev pub JudgedAs : List ℕ → ℕ → List ℕ → Rec → List ℕ → Result ℕ Violation → List ℕ → Type 0
JudgedAs store n work given next result after =
    MatchResult result (λ count. Promised (call store n work given (forwarded count) (next ++ drop store_bytes store) after))
    (λ v. Promised (call store n work given (blocked v.policy v.state) store after))
