-- Made piece by piece, the output is the whole output.
use borrow.Author.Tests.{lt-ltb, le-ltb, ne_eqb}
use Rattle.std.specs.Prelude.{◌≡◌, refl, Bool, true, false, ◌&&◌, ℕ, suc, ◌*◌, ◌/◌, ◌<◌, ◌≤◌, eqb, ltb, length, drop}
use Rattle.std.proofs.Common.{sym, ap, ◌∙◌, div-add-mod', mod-lt, arith, lit<, length-drop}
use Rattle.std.proofs.Math.Bool.{not}
use mathlib.Core.List.{List, [], ◌∷◌, ◌++◌, append-nil, append_assoc}
use Rattle.std.proofs.Math.Decide.{dec_lt}
use Rattle.std.proofs.Math.ListN.{length-append}
use Rattle.format.specs.Record.{Rec, Net, records, most_records}
use Rattle.format.specs.NetK.{in_store}
use Rattle.format.specs.Laws.Records.{Whole, records_whole}
use Rattle.book.specs.Answer.{CheckAnswer}
use Rattle.book.specs.Reference.{Installed, outcome_of}
use Rattle.streams.specs.Line.{start_line, answer_line, end_short}
use Rattle.streams.specs.Input.{Input, is_command, network_of, commands_of, input_of, input, is_cut, command_met, too_many, short_start}
use Rattle.streams.specs.Reading.{next_of, later_of}
use Rattle.streams.specs.Output.{work_bytes, start_answer, answer_lines, last_line, after_start, started, output_of, output}
use Rattle.streams.specs.Laws.Turns.{many_refused}
use Rattle.streams.specs.Piecewise.{prints, piecewise, prints_later, commandwise}

row_1 : (net : Net) → most_records < length net → start_answer net ≡ CheckAnswer.refused 1 0
unfolding start_answer
row_1 net h = many_refused (in_store net) (length net) h

and-false : (a : Bool) → (a && false) ≡ false
and-false true = refl
and-false false = refl

-- an input by its parts
abbrev parts : Net → List Rec → List ℕ → Input
parts net commands rest = record { network = net; commands = commands; rest = rest }

-- no `end short` in place of the start line
module _ (net : Net) (commands : List Rec) (rest : List ℕ) where
  not_cut : is_cut (parts net commands rest) ≡ false → output_of (parts net commands rest) ≡ started (parts net commands rest)
  unfolding output_of short_start
  not_cut e = rw e

  met : command_met (parts net commands rest) ≡ true → output_of (parts net commands rest) ≡ started (parts net commands rest)
  unfolding output_of short_start
  met e = rw (e, and-false (is_cut (parts net commands rest)))

  -- row 1 answers more than 657, whatever else was read
  pub too_many_lem : most_records < length net → output_of (parts net commands rest) ≡ start_line (CheckAnswer.refused 1 0)
  unfolding output_of short_start too_many started after_start
  too_many_lem h =
      rw (lt-ltb most_records (length net) h, and-false (is_cut (parts net commands rest) && not (command_met (parts net commands rest))), row_1 net h)
      (append-nil (start_line (CheckAnswer.refused 1 0)))

  -- and where it stands there
  pub cut : is_cut (parts net commands rest) ≡ true → command_met (parts net commands rest) ≡ false → length net ≤ most_records → output_of (parts net commands rest) ≡ end_short
  unfolding output_of short_start too_many
  cut e f h = rw (e, f, le-ltb most_records (length net) h)

-- the bytes at the end
at_end : (net : Net) (rest : List ℕ) → length rest < 24 → length net ≤ most_records → piecewise net [] rest ≡ output_of (parts net [] rest)
unfolding piecewise prints next_of is_cut command_met
at_end net [] h few = sym (not_cut net [] [] refl)
at_end net (x ∷ xs) h few = go (is_command (x ∷ xs)) refl
  where
    some : ltb 0 (length (x ∷ xs)) ≡ true
    some = lt-ltb 0 (length (x ∷ xs)) (omega arith)

    go : (b : Bool) → is_command (x ∷ xs) ≡ b → piecewise net [] (x ∷ xs) ≡ output_of (parts net [] (x ∷ xs))
    go true e = rw (ne_eqb (length (x ∷ xs)) 0 (λ z. absurd (omega arith)), lt-ltb (length (x ∷ xs)) 24 h, e) (sym (met net [] (x ∷ xs) e))
    go false e = rw (ne_eqb (length (x ∷ xs)) 0 (λ z. absurd (omega arith)), lt-ltb (length (x ∷ xs)) 24 h, e) (sym (cut net [] (x ∷ xs) some e few))

-- a whole record: a command, one more of the network, or one too many
module _ (net : Net) (r : Rec) (rs : List Rec) (rest : List ℕ) (whole : length r ≡ 24) where
  abbrev From : Type 0
  From = piecewise net (r ∷ rs) rest ≡ output_of (parts (net ++ network_of (r ∷ rs)) (commands_of (r ∷ rs)) rest)

  not_none : eqb (length r) 0 ≡ false
  not_none = ne_eqb (length r) 0 (λ z. omega arith)

  not_less : ltb (length r) 24 ≡ false
  not_less = le-ltb (length r) 24 (omega arith)

  command : is_command r ≡ true → From
  unfolding piecewise prints next_of network_of commands_of command_met
  command e = rw (not_none, not_less, e, append-nil net) (sym (met net (r ∷ rs) rest (rw (lt-ltb 0 (length (r ∷ rs)) (omega arith)))))

  one_more : is_command r ≡ false → length net < most_records
      → piecewise (net ++ (r ∷ [])) rs rest ≡ output_of (parts (net ++ (r ∷ []) ++ network_of rs) (commands_of rs) rest) → From
  unfolding piecewise prints next_of network_of commands_of
  one_more e h later = rw (not_none, not_less, e, lt-ltb (length net) most_records h) (rw append_assoc at later)

  one_too_many : is_command r ≡ false → length net ≡ most_records → From
  unfolding piecewise prints next_of network_of commands_of
  one_too_many e h =
      rw (not_none, not_less, e, le-ltb (length net) most_records (omega arith))
      (sym (too_many_lem (net ++ (r ∷ network_of rs)) (commands_of rs) rest (omega (arith, length-append net (r ∷ network_of rs)))))

-- behind a network that is not too large, from whole records and fewer than 24 bytes
from_here : (rs : List Rec) (rest : List ℕ) (net : Net) → Whole rs → length rest < 24 → length net ≤ most_records
    → piecewise net rs rest ≡ output_of (parts (net ++ network_of rs) (commands_of rs) rest)
unfolding network_of commands_of
from_here [] rest net w h few = at_end net rest h few ∙ ap (λ (m : Net). output_of (parts m [] rest)) (sym (append-nil net))
from_here (r ∷ rs) rest net w h few =
    go (is_command r) refl (dec_lt (length net) most_records)
    (λ t. from_here rs rest (net ++ (r ∷ [])) w.1 h (omega (arith, length-append net (r ∷ []))))
  where
    go : (b : Bool) → is_command r ≡ b → Dec (length net < most_records)
        → (length net < most_records → piecewise (net ++ (r ∷ [])) rs rest ≡ output_of (parts (net ++ (r ∷ []) ++ network_of rs) (commands_of rs) rest))
        → From net r rs rest w.0
    go true e d later = command net r rs rest w.0 e
    go false e (yes t) later = one_more net r rs rest w.0 e t (later t)
    go false e (no g) later = one_too_many net r rs rest w.0 e (omega arith)

-- the whole output
pub piecewise_output : (bytes : List ℕ) → piecewise [] (records (length bytes / 24) bytes) (drop (length bytes / 24 * 24) bytes) ≡ output bytes
unfolding output input input_of
piecewise_output bytes =
    let d = div-add-mod' (length bytes) 24 in
    let m = mod-lt (length bytes) {m = 24} (lit< tt) in
    from_here (records (length bytes / 24) bytes) (drop (length bytes / 24 * 24) bytes) []
    (records_whole (length bytes / 24) bytes (omega (arith, d))) (omega (arith, d, m, length-drop (length bytes / 24 * 24) bytes)) (omega arith)

-- the bytes at the end, behind a command
last_line_lem : (net : Net) (commands : List Rec) (rest : List ℕ) → length rest < 24 → prints_later (later_of rest) [] ≡ last_line (parts net commands rest)
unfolding prints_later later_of last_line is_cut
last_line_lem net commands [] h = refl
last_line_lem net commands (x ∷ xs) h =
    rw (ne_eqb (length (x ∷ xs)) 0 (λ z. absurd (omega arith)), lt-ltb (length (x ∷ xs)) 24 h, lt-ltb 0 (length (x ∷ xs)) (omega arith))

-- a whole record behind a command is read, and the program goes on
goes_on : (r : Rec) (read_on : List ℕ) → length r ≡ 24 → prints_later (later_of r) read_on ≡ read_on
unfolding prints_later later_of
goes_on r read_on e = rw (ne_eqb (length r) 0 (λ z. omega arith), le-ltb (length r) 24 (omega arith))

-- from a command on, the lines of it and of all whole records behind it, and the last line
pub commandwise_lines : (rs : List Rec) (turn : ℕ) (i : Installed) (c : Rec) (net : Net) (commands : List Rec) (rest : List ℕ) → Whole rs → length rest < 24
    → commandwise turn i c rs rest ≡ answer_lines turn i (c ∷ rs) ++ last_line (parts net commands rest)
unfolding commandwise answer_lines
commandwise_lines [] turn i c net commands rest w h =
    rw (last_line_lem net commands rest h, append-nil (answer_line turn (outcome_of i c work_bytes).answer))
commandwise_lines (r ∷ rs) turn i c net commands rest w h =
    let o = outcome_of i c work_bytes in
    ap (λ (l : List ℕ). answer_line turn o.answer ++ l) (goes_on r (commandwise (suc turn) o.after r rs rest) w.0 ∙ commandwise_lines rs (suc turn) o.after r net commands rest w.1 h)
    ∙ sym (append_assoc (answer_line turn o.answer) (answer_lines (suc turn) o.after (r ∷ rs)) (last_line (parts net commands rest)))
