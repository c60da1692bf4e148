-- In a series from a network that the check call passed, only row 11 and a command's own rows, 12, 16 and 13, ever refuse it, and the first record stays.
use Rattle.std.specs.Prelude.{◌≡◌, refl, List, [], ◌∷◌, ℕ, get_or}
use Rattle.std.proofs.Common.{ap, ◌∙◌}
use Rattle.std.proofs.Math.Path.{subst⁻¹}
use Rattle.std.proofs.Math.Option.{none, some}
use Rattle.format.specs.Record.{Rec, Net, records}
use Rattle.format.specs.Version.{version_of}
use Rattle.format.specs.Laws.Kinds.{version_first}
use Rattle.refusals.specs.Rows.{row11}
use Rattle.refusals.specs.Refusal.{Refusal, or_else, row, file_row, arguments_row, network_row, check_refusal, command_row, command_refusal}
use Rattle.refusals.specs.Laws.Passing.{neither, not_empty}
use Rattle.judgement.specs.Verdict.{Verdict, holds, violated}
use Rattle.book.specs.Answer.{CheckAnswer}
use Rattle.effect.specs.Apply.{would_leave}
use Rattle.book.specs.Check.{check_answer}
use Rattle.book.specs.Reference.{Installed, network, judged, outcome_of, installed}
use Rattle.effect.specs.NeverStuck.{GoesOn, never_stuck}
use Rattle.book.specs.Laws.Store.{holds_passes, arguments, arguments_pass, installed_whole, stored_long, stored_records}

-- rows 1 to 10 and 16 pass what is installed
pub record Sound (i : Installed) : Type 0 where
  pub arguments : arguments_row i.bytes i.count ≡ none
  pub file : file_row [] (network i) ≡ none

-- so it is where the check call does not refuse
pub sound_start : (store : List ℕ) (n work : ℕ) → check_refusal store n work ≡ none → Sound (record { count = n; bytes = store })
unfolding check_refusal network_row
sound_start store n work e =
    let a = neither (arguments_row store n) (network_row (records n store) work) e in
    record { arguments = a.0; file = (neither (file_row [] (records n store)) (row (row11 (records n store) work) 11 0) a.1).0 }

-- as it does not where it says that the network holds
pub sound_holds : (store : List ℕ) (n work : ℕ) → check_answer store n work ≡ CheckAnswer.holds → Sound (record { count = n; bytes = store })
sound_holds store n work e = sound_start store n work (holds_passes store n work e)

-- so it is again, and the first record, which has widths and version, is the same
record KeptSound (i after : Installed) : Type 0 where
  sound : Sound after
  first : get_or (network after) 0 [] ≡ get_or (network i) 0 []

-- after a verdict on what a command would leave
judged_kept : (i : Installed) (c : Rec) (v : Verdict) → Sound i → command_row (network i) c ≡ none → KeptSound i (judged i (would_leave c (network i)) v).after
unfolding judged
judged_kept i c holds s e =
    let net = would_leave c (network i) in
    let a = arguments i.bytes i.count s.arguments in
    let g : GoesOn (network i) net = never_stuck (network i) c (installed_whole i.bytes i.count a) (not_empty (network i) s.file) s.file e in
    let read = stored_records net i.bytes g.whole in
    record {
      sound = record {
        arguments = arguments_pass _ _ (record { some = g.some; few = g.few; long = stored_long net i.bytes });
        file = subst⁻¹ (λ (net : Net). file_row [] net ≡ none) read g.passes;
      };
      first = ap (λ (net : Net). get_or net 0 []) read ∙ g.same_first;
    }
judged_kept i c (violated p x) s e = record { sound = s; first = refl }

-- a command that is not refused passes rows 12, 16 and 13
row_passed : (i : Installed) (c : Rec) (work : ℕ) → command_refusal i.bytes i.count work c ≡ none → command_row (network i) c ≡ none
unfolding command_refusal
row_passed i c work e = (neither (check_refusal i.bytes i.count work) (command_row (network i) c) e).1

-- after one command, whatever the command and its work
outcome_kept : (i : Installed) (c : Rec) (work : ℕ) → Sound i → KeptSound i (outcome_of i c work).after
unfolding outcome_of
outcome_kept i c work s = go (command_refusal i.bytes i.count work c) refl
  where
    go : (f : Refusal) → command_refusal i.bytes i.count work c ≡ f → KeptSound i (outcome_of i c work).after
    go none q = rw (q, outcome_of) (judged_kept i c _ s (row_passed i c work q))
    go (some f) q = rw (q, outcome_of) (record { sound = s; first = refl })

-- and after every series
pub series_sound : (cs : List (Rec × ℕ)) (i : Installed) → Sound i → Sound (installed i cs)
unfolding installed
series_sound [] i s = s
series_sound (c ∷ cs) i s = series_sound cs (outcome_of i c.0 c.1).after (outcome_kept i c.0 c.1 s).sound

-- whose first record stays
pub first_stays : (cs : List (Rec × ℕ)) (i : Installed) → Sound i → get_or (network (installed i cs)) 0 [] ≡ get_or (network i) 0 []
unfolding installed
first_stays [] i s = refl
first_stays (c ∷ cs) i s =
    let k = outcome_kept i c.0 c.1 s in
    first_stays cs (outcome_of i c.0 c.1).after k.sound ∙ k.first

-- and so the version
pub one_version : (cs : List (Rec × ℕ)) (i : Installed) → Sound i → version_of (network (installed i cs)) ≡ version_of (network i)
one_version cs i s = version_first (network (installed i cs)) (network i) (first_stays cs i s)

-- what refuses a command is then row 11, 12, 16 or 13
pub refused_late : (i : Installed) (c : Rec) (work : ℕ) → Sound i
    → command_refusal i.bytes i.count work c ≡ or_else (row (row11 (network i) work) 11 0) (command_row (network i) c)
unfolding command_refusal check_refusal network_row
refused_late i c work s = rw (s.arguments, s.file)
