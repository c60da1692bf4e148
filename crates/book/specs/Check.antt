-- The check call: its answer, and what it leaves in the work buffer.
use Rattle.std.specs.Prelude.{◌≡◌, List, ◌++◌, ℕ, length, drop, replicate}
use Rattle.std.proofs.Math.Option.{none, some}
use Rattle.format.specs.Record.{records}
use Rattle.refusals.specs.Rows.{work_needed}
use Rattle.refusals.specs.Refusal.{Refusal, check_refusal}
use Rattle.judgement.specs.Verdict.{Verdict}
use Rattle.judgement.specs.Judgement.{verdict}
use Rattle.book.specs.Answer.{CheckAnswer}

-- what is so if a refusal is given, by its number and place, and what if none is
abbrev pub unless : {A : Type 0} → Refusal → (ℕ → ℕ → A) → A → A
unless (some f) refused otherwise = refused f.0 f.1
unless none refused otherwise = otherwise

-- a verdict as an answer
abbrev pub of_verdict : Verdict → CheckAnswer
of_verdict Verdict.holds = CheckAnswer.holds
of_verdict (Verdict.violated p x) = CheckAnswer.violated p x

-- the first row that refuses, or else the verdict
unfoldable pub check_answer : List ℕ → ℕ → ℕ → CheckAnswer
check_answer store n work = let judged = of_verdict (verdict (records n store)) in unless (check_refusal store n work) CheckAnswer.refused judged

-- the first k bytes zero, the rest untouched
unfoldable pub cleared : ℕ → List ℕ → List ℕ
cleared k work = replicate k 0 ++ drop k work

-- the work buffer after a check: untouched by a refusal; after a verdict the length that it needs is all zero
unfoldable pub check_work : List ℕ → ℕ → List ℕ → List ℕ
check_work store n work =
    let zero = cleared (work_needed (records n store)) work in
    unless (check_refusal store n (length work)) (λ number place. work) zero

-- the promise of the check call: its answer, and the work buffer after it; the store is only read
pub record CheckPromised (store : List ℕ) (n : ℕ) (work : List ℕ) (answer : CheckAnswer) (after : List ℕ) : Type 0 where
  pub answered : answer ≡ check_answer store n (length work)
  pub works : after ≡ check_work store n work
