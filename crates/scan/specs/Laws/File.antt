-- The rows of a file from record i of a store on: a record more, the first faulty record, and the end.
use Rattle.std.specs.Prelude.{◌≡◌, ℕ, ◌+◌, ◌-◌, ◌*◌, ◌<◌, length, drop}
use Rattle.std.proofs.Math.Path.{ap}
use Rattle.std.proofs.Common.{◌∙◌}
use mathlib.Core.List.{List, []}
use Rattle.std.proofs.Math.Option.{none, some}
use native.Mathlib.Omega.{arith}
use Rattle.format.specs.Record.{records}
use Rattle.format.specs.Search.{record_at, records_after}
use Rattle.refusals.specs.Refusal.{Refusal, or_else, record_row, file_row}
use Rattle.format.specs.Laws.Records.{length_records, records_left, records_more}

-- the file from record i on
abbrev pub file_from : List ℕ → ℕ → ℕ → Refusal
file_from s n i = file_row (records i s) (records (n - i) (drop (i * 24) s))

module _ (s : List ℕ) (n : ℕ) where
  pub file_start : file_row [] (records n s) ≡ file_from s n 0
  unfolding records
  file_start = let e : n ≡ n - 0 = omega arith in ap (λ (m : ℕ). file_row [] (records m s)) e

  file_at : (i : ℕ) → i < n → file_from s n i ≡ or_else (record_row (records i s) (record_at s i) (records_after n s i)) (file_from s n (i + 1))
  unfolding file_row
  file_at i h = ap (file_row (records i s)) (records_left s n i h) ∙ rw (records_more s i)

  pub file_next : (i : ℕ) → i < n → record_row (records i s) (record_at s i) (records_after n s i) ≡ none → file_from s n i ≡ file_from s n (i + 1)
  file_next i h e = file_at i h ∙ rw e

  pub file_stop : (i k : ℕ) → i < n → record_row (records i s) (record_at s i) (records_after n s i) ≡ some (k, length (records i s))
      → file_from s n i ≡ some (k, i)
  file_stop i k h e = file_at i h ∙ rw (e, length_records i s)

  pub file_end : (i : ℕ) → i ≡ n → file_from s n i ≡ file_row (records n s) []
  unfolding records
  file_end i e =
      let z : n - n ≡ 0 = omega arith in
      rw e (rw z)
