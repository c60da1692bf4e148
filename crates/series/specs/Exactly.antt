-- Demand 3 in its own words: a command that is not refused is forwarded exactly if the network that it would leave holds, and blocked exactly if not.
use Rattle.std.specs.Prelude.{List, [], ◌∷◌, ◌↔◌, ◌≡◌, ℕ, length}
use Rattle.judgement.specs.Verdict.{Verdict, holds, violated, Holds, Is}
use Rattle.judgement.specs.Judgement.{verdict, verdict_meant}
use Rattle.book.specs.Answer.{forwarded, blocked}
use Rattle.book.specs.Reference.{Installed}
use Rattle.book.specs.Command.{Call, left, NotRefused}
use Rattle.series.specs.Series.{Series, SaidToHold, JudgedByResult, EachJudged}
use Rattle.series.specs.Theorem.{kept}

-- the network that the command would leave holds, or does not
pub record Exactly (c : Call) : Type 0 where
  pub forwarded_exactly : Holds (left c) ↔ ((m : ℕ) × (c.answer ≡ forwarded m))
  pub blocked_exactly : (Holds (left c) → ⊥) ↔ ((p : ℕ) × (x : ℕ) × (c.answer ≡ blocked p x))

-- so it is with each call of a series that was not refused
unfoldable pub EachExactly : List Call → Type 0
EachExactly [] = Unit {0}
EachExactly (c ∷ cs) = (NotRefused c → Exactly c) × EachExactly cs

-- a network that does not hold has a lowest broken policy and a lowest state that breaks it, with which the command is blocked
pub exactly : (c : Call) → JudgedByResult c → Exactly c
exactly c j =
    record {
      forwarded_exactly = (λ h. (length (left c), j.holds_forwarded h), λ f. (j.forwarded_holds f.0 f.1).0);
      blocked_exactly = (
        λ broken. go (verdict (left c)) (verdict_meant (left c)) broken,
        λ b h. let l = j.blocked_broken b.0 b.1 b.2 in h b.0 l.a_policy b.1 l.a_state l.broken,
      );
    }
  where
    go : (v : Verdict) → Is (left c) v → (Holds (left c) → ⊥) → (p : ℕ) × (x : ℕ) × (c.answer ≡ blocked p x)
    go holds h broken = absurd (broken h)
    go (violated p x) l broken = (p, x, j.broken_blocked p x l)

each_exactly : (cs : List Call) → EachJudged cs → EachExactly cs
unfolding EachJudged EachExactly
each_exactly [] j = tt
each_exactly (c ∷ cs) j = (λ n. exactly c (j.0 n), each_exactly cs j.1)

-- from any network that the check call said to hold, each call of a series
pub exactly_when : {start : Installed} {cs : List Call} {final : Installed} → SaidToHold start → Series start cs final → EachExactly cs
exactly_when {start} {cs} said series = each_exactly cs (kept said series).forwarded_iff
