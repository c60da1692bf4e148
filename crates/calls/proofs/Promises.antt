-- What the two calls have done, by whether a row refuses and by the verdict.
use mathlib.Core.Path.{◌≡◌, refl, sym, ap, subst⁻¹, ◌∙◌}
use mathlib.Core.List.{List, [], ◌++◌}
use mathlib.Core.Option.{none, some}
use Prim.Native.Nat.{ℕ, ◌+◌, ◌-◌, ◌*◌, ◌<◌, ◌≤◌}
use native.Mathlib.Omega.{arith}
use lib.ListN.{length, drop, replicate, length-append, length-replicate}
use Rattle.format.specs.Record.{Rec, Net, most_records, store_bytes, records, flat}
use Rattle.format.specs.Version.{version_of}
use Rattle.refusals.specs.Rows.{work_needed}
use Rattle.refusals.specs.Refusal.{file_row, check_refusal, command_row, command_refusal}
use Rattle.scan.specs.Layout.{LayoutOf}
use Rattle.format.specs.declared.Version.{Version}
use Rattle.scan.specs.declared.Layout.{Layout}
use Rattle.format.specs.Laws.Records.{length_flat, length_records}
use Rattle.std.specs.Prelude.{Option as Answered, Some as Broken, None as Whole, Ok}
use Rattle.judgement.specs.declared.Violation.{Violation}
use Rattle.judgement.specs.Verdict.{Verdict, holds, violated}
use Rattle.judgement.specs.Judgement.{verdict}
use Rattle.verdict.specs.Judge.{verdict_of, Judgeable, Judges}
use Rattle.book.specs.Answer.{CheckAnswer, CommandAnswer, forwarded, blocked, check_answer_of}
use Rattle.effect.specs.Apply.{applied}
use Rattle.commands.specs.Effect.{padded, Built}
use Rattle.book.specs.Check.{of_verdict, check_answer, cleared, check_work, CheckPromised}
use Rattle.book.specs.Reference.{Installed, Outcome, judged as judgedStep, outcome_of, command_work}
use Rattle.effect.specs.NeverStuck.{GoesOn, work_same}
use Rattle.book.specs.Command.{Promised, call}
use Rattle.book.specs.Laws.Refusals.{passed, goes_on}
use Rattle.calls.proofs.InStore.{stored_filled}
use Rattle.calls.proofs.MovedLayout.{behind}
use Rattle.commands.specs.Laws.Built.{built_records}

-- a clean network of which the work is enough is judged
pub judgeable : (store work : List ℕ) (n : ℕ) (l : Layout) → n * 24 ≤ length store → LayoutOf (records n store) l
    → file_row [] (records n store) ≡ none → work_needed (records n store) ≤ length work → Judgeable n l store work
judgeable store work n l room laid passes enough = record { clean = record { room = room; laid = laid; passes = passes }; room = enough }

same_answer : (j : Answered Violation) → check_answer_of (Ok j) ≡ of_verdict (verdict_of j)
same_answer Whole = refl
same_answer (Broken v) = refl

-- the check call
module _ (store : List ℕ) (n : ℕ) (work : List ℕ) where
  pub check_refused : (k p : ℕ) → some (k, p) ≡ check_refusal store n (length work) → CheckPromised store n work (CheckAnswer.refused k p) work
  unfolding check_answer check_work
  check_refused k p e = record { answered = rw (← e) refl; works = rw (← e) refl }

  pub check_judged : check_refusal store n (length work) ≡ none → (j : Answered Violation) (after : List ℕ)
      → Judges (records n store) work j after → CheckPromised store n work (check_answer_of (Ok j)) after
  unfolding check_answer check_work cleared
  check_judged e j after J = record {
    answered = rw e (same_answer j ∙ ap of_verdict J.answer);
    works = rw e J.work;
  }

-- which of the rows refuses a command
module _ (store : List ℕ) (n work : ℕ) (given : Rec) where
  pub refused_early : (f : ℕ × ℕ) → some f ≡ check_refusal store n work → some f ≡ command_refusal store n work given
  unfolding command_refusal
  refused_early f e = rw (← e) refl

  pub refused_late : (f : ℕ × ℕ) → check_refusal store n work ≡ none → some f ≡ command_row (records n store) given → some f ≡ command_refusal store n work given
  unfolding command_refusal
  refused_late f q e = rw (q, ← e) refl

  pub no_row : check_refusal store n work ≡ none → none ≡ command_row (records n store) given → command_refusal store n work given ≡ none
  unfolding command_refusal
  no_row q e = rw (q, ← e) refl

-- the command call, refused
pub command_refused : (store : List ℕ) (n : ℕ) (work : List ℕ) (given : Rec) (k p : ℕ) → some (k, p) ≡ command_refusal store n (length work) given
    → Promised (call store n work given (CommandAnswer.refused k p) store work)
unfolding outcome_of command_work
command_refused store n work given k p e = record { answered = rw (← e) refl; stores = rw (← e) refl; works = rw (← e) refl }

-- a network on which no row refuses a command has a first record, which stands in the store
module _ (store : List ℕ) (n work : ℕ) (given : Rec) (e : command_refusal store n work given ≡ none) where
  pub first_within : 24 ≤ length store
  first_within = omega (arith, (passed store n work given e).check.arguments.long)

  pub some_record : 0 < n
  some_record = (passed store n work given e).check.arguments.some

-- the command call, not refused
module _ (store : List ℕ) (n : ℕ) (work : List ℕ) (given : Rec) (e : command_refusal store n (length work) given ≡ none)
    (version : Version) (same : version ≡ version_of (records n store)) where
  abbrev present : Net
  present = records n store

  abbrev result : Net
  result = applied version given present

  abbrev found : Installed
  found = record { count = n; bytes = store }

  goes : GoesOn present result
  goes = subst⁻¹ (λ (v : Version). GoesOn present (applied v given present)) same (goes_on store n (length work) given e)

  pub few : length result ≤ most_records
  few = goes.few

  -- what was made is the network that the command would leave
  module _ (count : ℕ) (next : List ℕ) (M : Built result count next) where
    read : records count next ≡ result
    read = built_records M goes.whole

    pub next_long : length next ≡ store_bytes
    unfolding padded
    next_long =
        let f = length_flat result goes.whole in
        ap length M.bytes_are
        ∙ length-append (flat result) (replicate (store_bytes - length (flat result)) 0)
        ∙ omega (arith, length-replicate {A = ℕ} (store_bytes - length (flat result)) 0, goes.few)

    same_work : work_needed (records count next) ≡ work_needed present
    same_work = ap work_needed read ∙ work_same present result goes

    module _ (l : Layout) (L : LayoutOf present l) where
      present_long : length present ≡ n
      present_long = length_records n store

      pub moved_ready : (l.nodes ≤ l.groups) × (l.groups ≤ n) × (n ≤ count + l.nodes)
      moved_ready = (L.within.0, omega (arith, L.within, present_long), omega (arith, behind present result l L goes, present_long, M.count_is))

      pub judged_ready : (m : Layout) → ((net after : Net) → length net ≡ n → length after ≡ count → LayoutOf net l → GoesOn net after → LayoutOf after m) → Judgeable count m next work
      judged_ready m H =
          judgeable next work count m
          (omega (arith, M.count_is, next_long, goes.few))
          (subst⁻¹ (λ (net : Net). LayoutOf net m) read (H present result present_long (sym M.count_is) L goes))
          (ap (file_row []) read ∙ goes.passes)
          (omega (arith, same_work, (passed store n (length work) given e).check.enough))

    stepped : (v : Verdict) → verdict result ≡ v → outcome_of found given (length work) ≡ judgedStep found result v
    unfolding outcome_of
    stepped v q = rw (e, ← same, q) refl

    module _ (j : Answered Violation) (after : List ℕ) (J : Judges (records count next) work j after) where
      verdict_is : verdict result ≡ verdict_of j
      verdict_is = sym (J.answer ∙ ap verdict read)

      work_is : after ≡ command_work found given work
      unfolding command_work cleared
      work_is = J.work ∙ ap (λ (k : ℕ). replicate k 0 ++ drop k work) same_work ∙ rw e refl

      pub command_blocked : (v : Violation) → j ≡ Broken v → Promised (call store n work given (blocked v.policy v.state) store after)
      unfolding judgedStep
      command_blocked v q =
          let s = stepped (violated v.policy v.state) (verdict_is ∙ ap verdict_of q) in
          record {
            answered = sym (ap (λ (o : Outcome). o.answer) s);
            stores = sym (ap (λ (o : Outcome). o.after.bytes) s);
            works = work_is;
          }

      pub command_forwarded : (store' : List ℕ) → j ≡ Whole → store' ≡ next ++ drop store_bytes store
          → Promised (call store n work given (forwarded count) store' after)
      unfolding judgedStep
      command_forwarded store' q b =
          let s = stepped holds (verdict_is ∙ ap verdict_of q) in
          record {
            answered = ap forwarded M.count_is ∙ sym (ap (λ (o : Outcome). o.answer) s);
            stores =
                b ∙ ap (λ (l : List ℕ). l ++ drop store_bytes store) M.bytes_are
                ∙ sym (stored_filled result store) ∙ sym (ap (λ (o : Outcome). o.after.bytes) s);
            works = work_is;
          }
