-- How large the numbers of an answer are.
use Rattle.std.specs.Prelude.{◌≡◌, refl, Bool, true, false, List, [], ◌∷◌, ◌++◌, ℕ, ◌+◌, ◌≤◌, ◌<◌, length}
use Rattle.std.proofs.Math.Option.{none, some}
use Rattle.std.proofs.Common.{arith, lit≤, length-append, pow_mono}
use Rattle.widths.specs.Widths.{states}
use Rattle.format.specs.Record.{widths_of, Rec, Net, records, most_records}
use Rattle.refusals.specs.Count.{policies_bound, widths_bound}
use Rattle.refusals.specs.Rows.{row1, row2, row3, row4, row5, row6, row7, row8, row9, row10, row11, row12, row13, row16, row16_command, misses_incomplete}
use Rattle.refusals.specs.Refusal.{Refusal, or_else, row, record_row, file_row, arguments_row, network_row, check_refusal, command_row, command_refusal}
use Rattle.format.specs.Laws.Records.{length_records}
use Rattle.judgement.specs.Verdict.{Verdict, holds, violated, Lowest, Is}
use Rattle.judgement.specs.Judgement.{verdict, verdict_meant}
use Rattle.book.specs.Answer.{CheckAnswer, CommandAnswer}
use Rattle.effect.specs.Apply.{would_leave}
use Rattle.book.specs.Check.{unless, of_verdict, check_answer}
use Rattle.book.specs.Reference.{Installed, network, unchanged, judged, outcome_of}
use Rattle.book.specs.Laws.Store.{arguments}
use Rattle.book.specs.Laws.Refusals.{checks, goes_on}

-- a refusal's number is at most 16, and its place at most `last`
pub record Within (last : ℕ) (r : Refusal) : Type 0 where
  pub bounds : (f : ℕ × ℕ) → r ≡ some f → (f.0 ≤ 16) × (f.1 ≤ last)

no_refusal : {A : Type 0} {f : ℕ × ℕ} → ◌≡◌ {A = Refusal} none (some f) → A
no_refusal e = let z : ◌≡◌ {A = ℕ} 0 1 = cc in absurd (omega arith)

-- a row, and a row before others
last_row : {last : ℕ} (met : Bool) (number place : ℕ) → number ≤ 16 → place ≤ last → Within last (row met number place)
last_row true number place h l =
    record { bounds = λ f e. let p : number ≡ f.0 = cc in let q : place ≡ f.1 = cc in (omega arith, omega arith) }
last_row false number place h l = record { bounds = λ f e. no_refusal e }

line_before : {last : ℕ} {b : Refusal} (met : Bool) (number place : ℕ) → number ≤ 16 → place ≤ last → Within last b
    → Within last (or_else (row met number place) b)
line_before true number place h l w = last_row true number place h l
line_before false number place h l w = w

-- one refusal before another, which counts only where the first is not given
either_within : {last : ℕ} (a : Refusal) {b : Refusal} → Within last a → (a ≡ none → Within last b) → Within last (or_else a b)
either_within (some f) w v = w
either_within none w v = v refl

wider : {m n : ℕ} {r : Refusal} → m ≤ n → Within m r → Within n r
wider h w = record { bounds = λ f e. let b = w.bounds f e in (b.0, omega (arith, b.1)) }

record_within : (before : Net) (r : Rec) (after : Net) → Within (length before) (record_row before r after)
unfolding record_row
record_within before r after =
    let place = length before in
    line_before (row3 before r) 3 place (lit≤ tt) (omega arith)
    (line_before (row4 r) 4 place (lit≤ tt) (omega arith)
    (line_before (row5 before r) 5 place (lit≤ tt) (omega arith)
    (line_before (row6 before r) 6 place (lit≤ tt) (omega arith)
    (line_before (row7 before r) 7 place (lit≤ tt) (omega arith)
    (line_before (row8 before r) 8 place (lit≤ tt) (omega arith)
    (line_before (row9 before r after) 9 place (lit≤ tt) (omega arith)
    (line_before (row10 before r) 10 place (lit≤ tt) (omega arith) (last_row (row16 before r after) 16 place (lit≤ tt) (omega arith)))))))))

file_within : (before rest : Net) → Within (length before + length rest) (file_row before rest)
unfolding file_row
file_within before [] = last_row (misses_incomplete before) 7 (length before) (lit≤ tt) (omega arith)
file_within before (r ∷ after) =
    either_within (record_row before r after) (wider (omega arith) (record_within before r after))
    (λ e. wider (omega (arith, length-append before (r ∷ []))) (file_within (before ++ (r ∷ [])) after))

-- what the check call refuses
pub check_within : (store : List ℕ) (n work : ℕ) → Within most_records (check_refusal store n work)
unfolding check_refusal network_row arguments_row
check_within store n work =
    either_within (arguments_row store n) (line_before (row1 n) 1 0 (lit≤ tt) (omega arith) (last_row (row2 store) 2 0 (lit≤ tt) (omega arith)))
    (λ e. either_within (file_row [] (records n store))
    (wider (omega (arith, length_records n store, (arguments store n e).few)) (file_within [] (records n store)))
    (λ f. last_row (row11 (records n store) work) 11 0 (lit≤ tt) (omega arith)))

-- what the command call refuses
pub command_within : (store : List ℕ) (n work : ℕ) (c : Rec) → Within most_records (command_refusal store n work c)
unfolding command_refusal command_row
command_within store n work c =
    either_within (check_refusal store n work) (check_within store n work)
    (λ e. line_before (row12 (records n store) c) 12 0 (lit≤ tt) (omega arith)
    (line_before (row16_command (records n store) c) 16 0 (lit≤ tt) (omega arith) (last_row (row13 (records n store) c) 13 0 (lit≤ tt) (omega arith))))

-- a number fits in 16 bits
abbrev pub Fits16 : ℕ → Type 0
Fits16 n = n < 65536

-- the numbers of an answer do
abbrev pub CheckSmall : CheckAnswer → Type 0
CheckSmall CheckAnswer.holds = Unit {0}
CheckSmall (CheckAnswer.violated policy state) = Fits16 policy × Fits16 state
CheckSmall (CheckAnswer.refused number place) = Fits16 number × Fits16 place

-- and those of the command call's answer
abbrev pub CommandSmall : CommandAnswer → Type 0
CommandSmall (CommandAnswer.forwarded count) = Fits16 count
CommandSmall (CommandAnswer.blocked policy state) = Fits16 policy × Fits16 state
CommandSmall (CommandAnswer.refused number place) = Fits16 number × Fits16 place

-- the lowest broken policy of a network that rows 3 to 10 and 16 pass, and its state
lowest_small : (net : Net) (p x : ℕ) → file_row [] net ≡ none → Lowest net p x → Fits16 p × Fits16 x
unfolding states
lowest_small net p x e l =
    let few : states (widths_of net) ≤ 1024 = pow_mono (widths_bound net e).bits in
    (omega (arith, l.a_policy, policies_bound net e), omega (arith, l.a_state, few))

-- what the check call answers
pub check_small : (store : List ℕ) (n work : ℕ) → CheckSmall (check_answer store n work)
unfolding check_answer
check_small store n work = go (check_refusal store n work) refl (verdict (records n store)) (verdict_meant (records n store))
  where
    go : (r : Refusal) → check_refusal store n work ≡ r → (v : Verdict) → Is (records n store) v → CheckSmall (unless r CheckAnswer.refused (of_verdict v))
    go (some f) e v m = let b = (check_within store n work).bounds f e in (omega (arith, b.0), omega (arith, b.1))
    go none e holds m = tt
    go none e (violated p x) m = lowest_small (records n store) p x (checks store n work e).file m

-- what the command call answers
pub command_small : (i : Installed) (c : Rec) (work : ℕ) → CommandSmall (outcome_of i c work).answer
unfolding outcome_of judged
command_small i c work =
    go (command_refusal i.bytes i.count work c) refl (verdict (would_leave c (network i))) (verdict_meant (would_leave c (network i)))
  where
    go : (r : Refusal) → command_refusal i.bytes i.count work c ≡ r → (v : Verdict) → Is (would_leave c (network i)) v
        → CommandSmall (unless r (λ number place. unchanged i (CommandAnswer.refused number place)) (judged i (would_leave c (network i)) v)).answer
    go (some f) e v m = let b = (command_within i.bytes i.count work c).bounds f e in (omega (arith, b.0), omega (arith, b.1))
    go none e holds m = omega (arith, (goes_on i.bytes i.count work c e).few)
    go none e (violated p x) m = lowest_small (would_leave c (network i)) p x (goes_on i.bytes i.count work c e).passes m
