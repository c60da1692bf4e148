-- Laws of what is installed: rows 1 and 2, and the records in the store after a forwarded command.
use Rattle.std.specs.Prelude.{◌≡◌, refl, List, ◌++◌, ℕ, ◌-◌, ◌<◌, ◌≤◌, eqb, ltb, replicate}
use Rattle.std.proofs.Math.Option.{none, some}
use native.Mathlib.Omega.{arith}
use borrow.Author.Tests.{eqb-false, ne_eqb, ltb-false, le-ltb}
use Rattle.std.proofs.Math.ListN.{length, drop, length-append, length-replicate}
use Rattle.basics.specs.Laws.Tests.{or_none}
use Rattle.format.specs.Record.{Net, most_records, store_bytes, records, flat}
use Rattle.refusals.specs.Rows.{row1, row2}
use Rattle.refusals.specs.Refusal.{Refusal, row, arguments_row, check_refusal}
use Rattle.format.specs.Laws.Records.{Whole, records_whole, flat_back}
use Rattle.refusals.specs.Laws.Passing.{not_met, neither}
use Rattle.judgement.specs.Judgement.{verdict}
use Rattle.book.specs.Answer.{CheckAnswer}
use Rattle.book.specs.Check.{unless, of_verdict, check_answer}
use Rattle.book.specs.Reference.{stored}

-- rows 1 and 2 say that the count is from 1 to 657, and the store long enough
pub record Arguments (store : List ℕ) (n : ℕ) : Type 0 where
  pub some : 0 < n
  pub few : n ≤ most_records
  pub long : store_bytes ≤ length store

module _ (store : List ℕ) (n : ℕ) where
  pub arguments : arguments_row store n ≡ none → Arguments store n
  unfolding arguments_row row1 row2
  arguments e =
      let t = neither (row (row1 n) 1 0) (row (row2 store) 2 0) e in
      let a = or_none (eqb n 0) (ltb most_records n) (not_met (row1 n) 1 0 t.0) in
      let z : (n ≡ 0 → ⊥) = eqb-false n 0 a.0 in
      record { some = omega (arith, z); few = ltb-false most_records n a.1; long = ltb-false (length store) store_bytes (not_met (row2 store) 2 0 t.1) }

  pub arguments_pass : Arguments store n → arguments_row store n ≡ none
  unfolding arguments_row row1 row2
  arguments_pass a =
      rw (ne_eqb n 0 (λ q. omega (arith, q, a.some)), le-ltb most_records n a.few, le-ltb (length store) store_bytes a.long)

  -- so the records are whole
  pub installed_whole : Arguments store n → Whole (records n store)
  installed_whole a = records_whole n store (omega (arith, a.few, a.long))

-- after a forwarded command the store is as long as it has to be, and has the new records
module _ (net : Net) (store : List ℕ) where
  pub stored_long : store_bytes ≤ length (stored net store)
  unfolding stored
  stored_long =
      omega (
        arith,
        length-append (flat net) (replicate (store_bytes - length (flat net)) 0 ++ drop store_bytes store),
        length-append (replicate (store_bytes - length (flat net)) 0) (drop store_bytes store),
        length-replicate {A = ℕ} (store_bytes - length (flat net)) 0,
      )

  pub stored_records : Whole net → records (length net) (stored net store) ≡ net
  unfolding stored
  stored_records whole = flat_back net (replicate (store_bytes - length (flat net)) 0 ++ drop store_bytes store) whole

-- a check call that says holds refuses nothing
pub holds_passes : (store : List ℕ) (n work : ℕ) → check_answer store n work ≡ CheckAnswer.holds → check_refusal store n work ≡ none
unfolding check_answer
holds_passes store n work e = go (check_refusal store n work) e
  where
    go : (f : Refusal) → unless f CheckAnswer.refused (of_verdict (verdict (records n store))) ≡ CheckAnswer.holds → f ≡ none
    go none e = refl
    go (some f) e = let z : ◌≡◌ {A = ℕ} 0 1 = cc in absurd (omega arith)
