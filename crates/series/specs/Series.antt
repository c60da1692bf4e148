-- A series of command calls, and what is so at its end: demand 3 as one claim about the whole series.
use Rattle.std.specs.Prelude.{◌≡◌, List, [], ◌∷◌, map, ℕ, length}
use Rattle.format.specs.Record.{Rec, Net}
use Rattle.judgement.specs.Verdict.{Holds, Lowest}
use Rattle.book.specs.Answer.{CheckAnswer, CommandAnswer, forwarded, blocked}
use Rattle.effect.specs.Apply.{would_leave}
use Rattle.book.specs.Check.{check_answer}
use Rattle.book.specs.Reference.{Installed, network, answers, installed}
use Rattle.book.specs.Command.{left, NotRefused, Call, start_of, Promised}

-- the count last answered as forwarded
abbrev pub count_after : ℕ → CommandAnswer → ℕ
count_after n (CommandAnswer.forwarded m) = m
count_after n (CommandAnswer.blocked p x) = n
count_after n (CommandAnswer.refused k p) = n

-- calls one after the other, each with the store that the one before left and the count last answered as forwarded
pub data Series : Installed → List Call → Installed → Type 0 where
  end : {i : Installed} → Series i [] i
  next : {cs : List Call} {i : Installed} (c : Call) → Promised c
      → Series (record { count = count_after c.count c.answer; bytes = c.store_after }) cs i
      → Series (start_of c) (c ∷ cs) i

-- the check call said that it holds, with some length of work
abbrev pub SaidToHold : Installed → Type 0
SaidToHold i = (work : ℕ) × (check_answer i.bytes i.count work ≡ CheckAnswer.holds)

-- what the reference is fed of a call: the command's bytes and the work buffer's length
abbrev pub fed : Call → Rec × ℕ
fed c = (c.given, length c.work)

-- a command applied if it was forwarded
abbrev pub if_forwarded : CommandAnswer → Rec → Net → Net
if_forwarded (CommandAnswer.forwarded m) c net = would_leave c net
if_forwarded (CommandAnswer.blocked p x) c net = net
if_forwarded (CommandAnswer.refused k p) c net = net

-- the forwarded commands applied in order
unfoldable pub forwarded_applied : List Call → Net → Net
forwarded_applied [] net = net
forwarded_applied (c ∷ cs) net = forwarded_applied cs (if_forwarded c.answer c.given net)

-- forwarded exactly when the network that the command would leave holds, blocked exactly when not, with its lowest broken policy and state
pub record JudgedByResult (c : Call) : Type 0 where
  pub holds_forwarded : Holds (left c) → c.answer ≡ forwarded (length (left c))
  pub forwarded_holds : (m : ℕ) → c.answer ≡ forwarded m → Holds (left c) × (m ≡ length (left c))
  pub broken_blocked : (p x : ℕ) → Lowest (left c) p x → c.answer ≡ blocked p x
  pub blocked_broken : (p x : ℕ) → c.answer ≡ blocked p x → Lowest (left c) p x

-- so it is with each call that was not refused
unfoldable pub EachJudged : List Call → Type 0
EachJudged [] = Unit {0}
EachJudged (c ∷ cs) = (NotRefused c → JudgedByResult c) × EachJudged cs

-- what is so at the end of a series
pub record Kept (start : Installed) (cs : List Call) (final : Installed) : Type 0 where
  pub still_holds : Holds (network final)
  pub exactly : network final ≡ forwarded_applied cs (network start)
  pub answers_are : map (λ (c : Call). c.answer) cs ≡ answers start (map fed cs)
  pub bytes : final ≡ installed start (map fed cs)
  pub forwarded_iff : EachJudged cs
