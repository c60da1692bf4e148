-- The program's two calls: the check at the start, and each command.
use Rattle.std.proofs.Common.{lt-ltb, ap, ◌∙◌, arith}
use Rattle.std.specs.Prelude.{◌≡◌, List, [], ℕ, ◌<◌, eqb, ltb, length}
use Rattle.basics.specs.Laws.Tests.{or_right}
use Rattle.format.specs.Record.{most_records}
use Rattle.format.specs.NetK.{in_store}
use Rattle.refusals.specs.Rows.{row1}
use Rattle.refusals.specs.Refusal.{arguments_row, check_refusal}
use Rattle.book.specs.Answer.{CheckAnswer}
use Rattle.book.specs.Check.{check_answer, CheckPromised}
use Rattle.book.specs.Reference.{outcome_of}
use Rattle.book.specs.Command.{Call, start_of, Promised}
use Rattle.series.specs.Series.{count_after}
use Rattle.series.specs.Laws.Series.{call_after}
use Rattle.streams.specs.declared.input.Next.{Next}
use Rattle.streams.specs.declared.input.Next.TheVariants as next
use Rattle.streams.specs.Reading.{Loads}
use Rattle.streams.specs.Output.{work_bytes, installed_with, start_answer, CheckIs, OutcomeIs}
use Rattle.streams.specs.Laws.Store.{with_in_zeros}

-- more than 657 records are refused by row 1, whatever the store has
pub many_refused : (store : List ℕ) (n : ℕ) → most_records < n → check_answer store n work_bytes ≡ CheckAnswer.refused 1 0
unfolding check_answer check_refusal arguments_row row1
many_refused store n h = rw (or_right (eqb n 0) (ltb most_records n) (lt-ltb most_records n h))

-- the answer on what was loaded into a store of zeros is the start's answer on a network
pub start_loaded : (met : Next) (n : ℕ) (store : List ℕ) (l : Loads met n (in_store []) store) → (met ≡ next.TooMany → ⊥)
    → check_answer store n work_bytes ≡ start_answer l.held.net
unfolding start_answer
start_loaded met n store l other =
    let few = l.few other in
    let size : n ≡ length l.held.net = omega (arith, l.held.size) in
    rw (l.held.stored ∙ with_in_zeros l.held.net l.held.whole (omega arith), size)

-- a check call that keeps its promise, with the program's work
pub check_is : {store : List ℕ} {n : ℕ} {work : List ℕ} {answer : CheckAnswer} {after : List ℕ} → CheckPromised store n work answer after
    → length work ≡ work_bytes → CheckIs store n work answer after
check_is {store} {n} d w = record { answered = d.answered ∙ ap (check_answer store n) w; works = d.works }

-- a command call that keeps its promise, with the program's work, and the count last answered as forwarded
pub outcome_is : (c : Call) → Promised c → length c.work ≡ work_bytes → (count : ℕ) → count ≡ count_after c.count c.answer
    → OutcomeIs (start_of c) c.given c.work c.answer (installed_with count c.store_after) c.work_after
outcome_is c d w count e =
    record {
      answered = d.answered ∙ ap (λ (k : ℕ). (outcome_of (start_of c) c.given k).answer) w;
      left = ap (λ (k : ℕ). installed_with k c.store_after) e ∙ call_after c d ∙ ap (λ (k : ℕ). (outcome_of (start_of c) c.given k).after) w;
      works = d.works;
    }
