-- A command that no row refuses is judged by the whole network that it would leave, and by nothing else.
use Rattle.std.specs.Prelude.{◌≡◌, ℕ}
use Rattle.std.proofs.Math.Option.{none}
use Rattle.format.specs.Record.{Rec}
use Rattle.effect.specs.Apply.{would_leave}
use Rattle.judgement.specs.Verdict.{Verdict, holds, violated, Holds, Is}
use Rattle.judgement.specs.Judgement.{verdict, verdict_meant}
use Rattle.book.specs.Answer.{forwarded}
use Rattle.refusals.specs.Refusal.{command_refusal}
use Rattle.book.specs.Reference.{Installed, network, judged, outcome_of}

-- where it is forwarded, that network holds
pub forwarded_holds : (i : Installed) (c : Rec) (work m : ℕ) → command_refusal i.bytes i.count work c ≡ none → (outcome_of i c work).answer ≡ forwarded m → Holds (would_leave c (network i))
unfolding outcome_of judged
forwarded_holds i c work m r e = go (verdict (would_leave c (network i))) (verdict_meant (would_leave c (network i))) (rw r at e)
  where
    go : (v : Verdict) → Is (would_leave c (network i)) v → (judged i (would_leave c (network i)) v).answer ≡ forwarded m → Holds (would_leave c (network i))
    go holds h e = h
    go (violated p x) l e = cc
