-- The even policies that the check call finds to hold also hold under every choice among equals.
use Rattle.std.specs.Prelude.{List, ℕ, length}
use Rattle.format.specs.Record.{Rec, records}
use Rattle.format.specs.Policy.{forbidden}
use Rattle.truth.specs.Even.{Even}
use Rattle.judgement.specs.Choice.{Choice, HoldsUnder, EvenPoliciesHold}
use Rattle.judgement.specs.EvenPolicies.{even_holds}
use Rattle.book.specs.Answer.{CheckAnswer}
use Rattle.book.specs.Check.{CheckPromised}
use Rattle.book.specs.Found.{FoundToHold, found_holds}

-- an even policy that the check call found to hold holds under every choice
pub check_even : {store : List ℕ} {n : ℕ} {work : List ℕ} {answer : CheckAnswer} {after : List ℕ} → CheckPromised store n work answer after
    → (p : ℕ) → FoundToHold (records n store) answer p → Even (forbidden (records n store) p)
    → (c : ℕ → Rec) → Choice (records n store) c → HoldsUnder (records n store) c p
check_even {store} {n} {work} {answer} d p f e c h x hx b =
    found_holds store n (length work) answer d.answered p f x hx (even_holds (records n store) p e c h x hx b)

-- so if it answered that the network holds, every even policy holds under every choice
pub holds_even : {store : List ℕ} {n : ℕ} {work after : List ℕ} → CheckPromised store n work CheckAnswer.holds after → EvenPoliciesHold (records n store)
holds_even d = check_even d
