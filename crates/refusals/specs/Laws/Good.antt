-- The fields of a network that no row refuses are good.
use Rattle.std.specs.Prelude.{◌≡◌, true, [], ◌∷◌, ◌++◌, ℕ, ◌+◌, ◌<◌, ◌≤◌, length, get_or}
use Rattle.std.proofs.Common.{ap₂, ◌∙◌, arith, length-append}
use Rattle.std.proofs.Math.Option.{none}
use Rattle.std.proofs.Math.Decide.{dec_lt}
use Rattle.std.proofs.Math.ListN.{get_or-append}
use Rattle.std.proofs.lemmas.List.{get_or_at}
use Rattle.format.specs.Record.{Rec, Net, widths_of}
use Rattle.format.specs.Fields.{fields_good}
use Rattle.refusals.specs.Refusal.{file_row}
use Rattle.format.specs.Laws.Kinds.{widths-append}
use Rattle.refusals.specs.Laws.Passing.{Passes, fields_good_lem, clean_all}

-- the fields of every record after the widths are good
abbrev pub Good : Net → Type 0
Good net = (i : ℕ) → 1 ≤ i → i < length net → fields_good (widths_of net) (get_or net i []) ≡ true

good_more : (before : Net) (r : Rec) (after : Net) → Good before → Passes before r after → Good (before ++ (r ∷ []))
good_more before r after g p i l h = go (dec_lt i (length before))
  where
    n : length (before ++ (r ∷ [])) ≡ length before + 1
    n = length-append before (r ∷ [])

    go : Dec (i < length before) → fields_good (widths_of (before ++ (r ∷ []))) (get_or (before ++ (r ∷ [])) i []) ≡ true
    go (yes q) = ap₂ fields_good (widths-append before (r ∷ []) (omega arith)) (get_or-append before (r ∷ []) [] i q) ∙ g i l q
    go (no q) =
        let e : length before ≡ i = omega (arith, n) in
        ap₂ fields_good (widths-append before (r ∷ []) (omega arith)) (get_or_at before r [] [] i e) ∙ fields_good_lem before r after p

pub clean_good : (net : Net) → file_row [] net ≡ none → Good net
clean_good net e = clean_all Good good_more [] net (λ i l h. absurd (omega arith)) e
