-- The policies that the check call finds to hold.
use Rattle.std.specs.Prelude.{◌≡◌, List, ℕ, ◌<◌}
use Rattle.std.proofs.Common.{subst}
use Rattle.std.proofs.Math.Option.{none, some}
use Rattle.format.specs.Record.{Net, records, widths_of}
use Rattle.widths.specs.Widths.{states}
use Rattle.format.specs.Policy.{policy_count}
use Rattle.refusals.specs.Refusal.{Refusal, check_refusal}
use Rattle.judgement.specs.Verdict.{Verdict, holds, violated, Breaks, Is}
use Rattle.judgement.specs.Judgement.{verdict, verdict_meant}
use Rattle.book.specs.Answer.{CheckAnswer}
use Rattle.book.specs.Check.{unless, of_verdict, check_answer}

-- by an answer policy p is found to hold: the network holds, or the lowest broken policy is a later one
abbrev pub FoundToHold : Net → CheckAnswer → ℕ → Type 0
FoundToHold net CheckAnswer.holds p = p < policy_count net
FoundToHold net (CheckAnswer.violated q x) p = p < q
FoundToHold net (CheckAnswer.refused number place) p = ⊥

-- no state breaks it
abbrev Unbroken : Net → ℕ → Type 0
Unbroken net p = (x : ℕ) → x < states (widths_of net) → Breaks net p x → ⊥

by_verdict : (net : Net) (r : Refusal) (v : Verdict) → Is net v → (p : ℕ) → FoundToHold net (unless r CheckAnswer.refused (of_verdict v)) p → Unbroken net p
by_verdict net (some f) v i p h = absurd h
by_verdict net none holds i p h = i p h
by_verdict net none (violated q y) i p h = i.no_policy_below p h

-- such a policy holds
pub found_holds : (store : List ℕ) (n work : ℕ) (answer : CheckAnswer) → answer ≡ check_answer store n work → (p : ℕ) → FoundToHold (records n store) answer p
    → (x : ℕ) → x < states (widths_of (records n store)) → Breaks (records n store) p x → ⊥
unfolding check_answer
found_holds store n work answer e p f =
    let net = records n store in
    by_verdict net (check_refusal store n work) (verdict net) (verdict_meant net) p (subst (λ (a : CheckAnswer). FoundToHold net a p) e f)
