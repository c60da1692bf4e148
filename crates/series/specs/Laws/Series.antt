-- The theorem about a whole series of calls, by induction on it, from what each call promises.
use Rattle.std.proofs.Math.Path.{◌≡◌, refl, ap, ap₂, subst, subst⁻¹}
use Rattle.std.proofs.Common.{sym, ◌∙◌, arith}
use mathlib.Core.List.{List, ◌∷◌, map}
use Rattle.std.proofs.Math.Option.{none, some}
use Rattle.std.specs.Prelude.{ℕ, length}
use Rattle.format.specs.Record.{Rec, Net}
use Rattle.refusals.specs.Refusal.{Refusal, command_refusal}
use Rattle.format.specs.Laws.Records.{Whole}
use Rattle.judgement.specs.Verdict.{Verdict, holds, violated, Holds, Is}
use Rattle.judgement.specs.Judgement.{verdict, verdict_meant, only}
use Rattle.book.specs.Answer.{CheckAnswer, CommandAnswer, forwarded, blocked}
use Rattle.effect.specs.Apply.{would_leave}
use Rattle.book.specs.Found.{found_holds}
use Rattle.book.specs.Reference.{Installed, network, Outcome, judged, outcome_of, answers, installed}
use Rattle.book.specs.Command.{Call, start_of, Promised, left, NotRefused}
use Rattle.series.specs.Series.{count_after, Series, end, next, SaidToHold, fed, if_forwarded, forwarded_applied, JudgedByResult, EachJudged, Kept}
use Rattle.book.specs.Laws.Store.{stored_records}
use Rattle.book.specs.Laws.Outcomes.{outcome_by}
use Rattle.book.specs.Laws.Refusals.{goes_on}

-- what the check call said to hold holds
pub said_holds : (i : Installed) → SaidToHold i → Holds (network i)
said_holds i s = found_holds i.bytes i.count s.0 CheckAnswer.holds (sym s.1)

module _ (i : Installed) (c : Rec) (work : ℕ) where
  abbrev net : Net
  net = would_leave c (network i)

  -- the outcome, by whether it is refused and by its verdict
  abbrev outcome : Refusal → Verdict → Outcome
  outcome = outcome_by i c

  whole : command_refusal i.bytes i.count work c ≡ none → Whole net
  whole e = (goes_on i.bytes i.count work c e).whole

  count_is : (r : Refusal) (v : Verdict) → count_after i.count (outcome r v).answer ≡ (outcome r v).after.count
  unfolding judged
  count_is (some f) v = refl
  count_is none holds = refl
  count_is none (violated p x) = refl

  records_are : (r : Refusal) (v : Verdict) → (r ≡ none → Whole net) → network (outcome r v).after ≡ if_forwarded (outcome r v).answer c (network i)
  unfolding judged
  records_are (some f) v w = refl
  records_are none holds w = stored_records net i.bytes (w refl)
  records_are none (violated p x) w = refl

  holds_after : (r : Refusal) (v : Verdict) → (r ≡ none → Whole net) → Is net v → Holds (network i) → Holds (network (outcome r v).after)
  unfolding judged
  holds_after (some f) v w e h = h
  holds_after none holds w e h = subst⁻¹ Holds (stored_records net i.bytes (w refl)) e
  holds_after none (violated p x) w e h = h

  answer_is : (r : Refusal) (v : Verdict) (a : CommandAnswer) → a ≡ (outcome r v).answer → ((k p : ℕ) → a ≡ CommandAnswer.refused k p → ⊥) → a ≡ (judged i net v).answer
  answer_is (some f) v a e n = absurd (n f.0 f.1 e)
  answer_is none v a e n = e

  forwarded_case : (v : Verdict) (m : ℕ) → forwarded m ≡ (judged i net v).answer → (v ≡ holds) × (m ≡ length net)
  unfolding judged
  forwarded_case holds m e = (refl, cc)
  forwarded_case (violated p x) m e = let z : ◌≡◌ {A = ℕ} 0 1 = cc in absurd (omega arith)

  blocked_case : (v : Verdict) (p x : ℕ) → blocked p x ≡ (judged i net v).answer → v ≡ violated p x
  unfolding judged
  blocked_case holds p x e = let z : ◌≡◌ {A = ℕ} 0 1 = cc in absurd (omega arith)
  blocked_case (violated q y) p x e = cc

  answer_of : (v : Verdict) → verdict net ≡ v → (judged i net (verdict net)).answer ≡ (judged i net v).answer
  answer_of v e = ap (λ (u : Verdict). (judged i net u).answer) e

-- one call
module _ (c : Call) (d : Promised c) where
  abbrev refusal : Refusal
  refusal = command_refusal c.store c.count (length c.work) c.given

  abbrev after : Installed
  after = record { count = count_after c.count c.answer; bytes = c.store_after }

  pub call_after : after ≡ (outcome_of (start_of c) c.given (length c.work)).after
  unfolding outcome_of
  call_after =
      ap₂ (λ (n : ℕ) (s : List ℕ). record { count = n; bytes = s })
      (ap (count_after c.count) d.answered ∙ count_is (start_of c) c.given (length c.work) refusal (verdict (left c)))
      d.stores

  pub call_records : network after ≡ if_forwarded c.answer c.given (network (start_of c))
  unfolding outcome_of
  call_records =
      ap network call_after
      ∙ records_are (start_of c) c.given (length c.work) refusal (verdict (left c)) (whole (start_of c) c.given (length c.work))
      ∙ ap (λ (a : CommandAnswer). if_forwarded a c.given (network (start_of c))) (sym d.answered)

  call_holds : Holds (network (start_of c)) → Holds (network after)
  unfolding outcome_of
  call_holds h =
      subst⁻¹ (λ (i : Installed). Holds (network i)) call_after
      (holds_after (start_of c) c.given (length c.work) refusal (verdict (left c)) (whole (start_of c) c.given (length c.work))
      (verdict_meant (left c)) h)

  pub call_judged : NotRefused c → JudgedByResult c
  unfolding outcome_of judged
  call_judged n =
      let i = start_of c in
      let a : c.answer ≡ (judged i (left c) (verdict (left c))).answer =
      answer_is i c.given (length c.work) refusal (verdict (left c)) c.answer d.answered n in
      record {
        holds_forwarded = λ h. a ∙ answer_of i c.given (length c.work) holds (only (left c) (verdict (left c)) holds (verdict_meant (left c)) h);
        forwarded_holds = λ m e.
            let f = forwarded_case i c.given (length c.work) (verdict (left c)) m (sym e ∙ a) in
            (subst (Is (left c)) f.0 (verdict_meant (left c)), f.1);
        broken_blocked = λ p x l.
            a ∙ answer_of i c.given (length c.work) (violated p x) (only (left c) (verdict (left c)) (violated p x) (verdict_meant (left c)) l);
        blocked_broken = λ p x e.
            subst (Is (left c)) (blocked_case i c.given (length c.work) (verdict (left c)) p x (sym e ∙ a)) (verdict_meant (left c));
      }

-- what is so from any network that holds
pub from_holding : {start : Installed} {cs : List Call} {final : Installed} → Series start cs final → Holds (network start) → Kept start cs final
unfolding answers installed forwarded_applied EachJudged
from_holding end h = record { still_holds = h; exactly = refl; answers_are = refl; bytes = refl; forwarded_iff = tt }
from_holding (next {cs} c d rest) h =
    let k = from_holding rest (call_holds c d h) in
    let fs : List (Rec × ℕ) = map fed cs in
    record {
      still_holds = k.still_holds;
      exactly = k.exactly ∙ ap (forwarded_applied cs) (call_records c d);
      answers_are = ap₂ {C = List CommandAnswer} ◌∷◌ d.answered (k.answers_are ∙ ap (λ (i : Installed). answers i fs) (call_after c d));
      bytes = k.bytes ∙ ap (λ (i : Installed). installed i fs) (call_after c d);
      forwarded_iff = (call_judged c d, k.forwarded_iff);
    }
