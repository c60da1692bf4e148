-- What reading a network answers.
use Rattle.std.specs.Prelude.{◌≡◌, List, ℕ, Result, MatchResult}
use Rattle.std.proofs.Math.Option.{none}
use Rattle.refusals.specs.Numbers.{refusal_of}
use Rattle.refusals.specs.Refusal.{Refusal}
use Rattle.refusals.specs.declared.Refused.{Refused}
use Rattle.scan.specs.declared.network.Network.{Network}

-- reading n records of a store answers the refusal given, or where there is none the network that they are, whose type says where
-- its parts stand
abbrev pub Read : List ℕ → ℕ → Refusal → Result Network Refused → Type 0
Read store n refusal answer =
    MatchResult answer (λ net. (refusal ≡ none) × (net.store.now ≡ store) × (net.n ≡ n)) (λ refused. refusal_of refused ≡ refusal)
