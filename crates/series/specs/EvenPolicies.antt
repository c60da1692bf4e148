-- What a forwarded command and a whole series leave: every even policy of the installed network holds under every choice among equals.
use Rattle.std.specs.Prelude.{◌≡◌, List, ℕ, ◌<◌}
use Rattle.std.proofs.Common.{subst, arith}
use Rattle.std.proofs.Math.Path.{subst⁻¹}
use Rattle.format.specs.Record.{Rec, records}
use Rattle.format.specs.Policy.{forbidden}
use Rattle.truth.specs.Even.{Even}
use Rattle.judgement.specs.Verdict.{Holds}
use Rattle.judgement.specs.Choice.{Choice, HoldsUnder, EvenPoliciesHold}
use Rattle.judgement.specs.EvenPolicies.{even_holds, even_policies_hold}
use Rattle.book.specs.Answer.{CommandAnswer, forwarded, blocked}
use Rattle.book.specs.Reference.{Installed, network}
use Rattle.book.specs.Command.{Call, start_of, Promised, left, NotRefused}
use Rattle.series.specs.Series.{count_after, Series, SaidToHold, if_forwarded}
use Rattle.series.specs.Theorem.{kept}
use Rattle.series.specs.Laws.Series.{call_records, call_judged}

-- after a forwarded command: of the network that then stands in the store
pub forwarded_even : (c : Call) → Promised c → (m : ℕ) → c.answer ≡ forwarded m → EvenPoliciesHold (records m c.store_after)
forwarded_even c d m e = even_policies_hold (records m c.store_after) (subst⁻¹ Holds stored ((call_judged c d not_refused).forwarded_holds m e).0)
  where
    not_refused : NotRefused c
    not_refused k p q = let z : ◌≡◌ {A = ℕ} 0 1 = cc in omega arith

    stored : records m c.store_after ≡ left c
    stored =
        subst
        (λ (a : CommandAnswer). network (record { count = count_after c.count a; bytes = c.store_after }) ≡ if_forwarded a c.given (network (start_of c)))
        e (call_records c d)

-- after a blocked one: of the network that it would leave, the policies below the one that is named, which are found to hold
pub blocked_even : (c : Call) → Promised c → (p x : ℕ) → c.answer ≡ blocked p x → (q : ℕ) → q < p → Even (forbidden (left c) q)
    → (k : ℕ → Rec) → Choice (left c) k → HoldsUnder (left c) k q
blocked_even c d p x e q below even k choice y hy b =
    ((call_judged c d not_refused).blocked_broken p x e).no_policy_below q below y hy (even_holds (left c) q even k choice y hy b)
  where
    not_refused : NotRefused c
    not_refused n m r = let z : ◌≡◌ {A = ℕ} 0 1 = cc in omega arith

-- after a series, from any network that the check call said to hold
pub series_even : {start : Installed} {cs : List Call} {final : Installed} → SaidToHold start → Series start cs final → EvenPoliciesHold (network final)
series_even {start} {cs} {final} said series = even_policies_hold (network final) (kept said series).still_holds
