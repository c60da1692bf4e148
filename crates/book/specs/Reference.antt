-- The reference of a series of commands, document 01's book: it is fed each command's bytes and its work buffer's length, nothing else.
use Rattle.std.specs.Prelude.{List, [], ◌∷◌, ◌++◌, ℕ, ◌-◌, length, drop, replicate}
use Rattle.format.specs.Record.{Rec, Net, store_bytes, records, flat}
use Rattle.format.specs.NetK.{in_store}
use Rattle.refusals.specs.Rows.{work_needed}
use Rattle.refusals.specs.Refusal.{command_refusal}
use Rattle.judgement.specs.Verdict.{Verdict, holds, violated}
use Rattle.judgement.specs.Judgement.{verdict}
use Rattle.book.specs.Answer.{CommandAnswer, forwarded, blocked}
use Rattle.effect.specs.Apply.{would_leave}
use Rattle.book.specs.Check.{unless, cleared}

-- a count and the store's bytes
pub record Installed : Type 0 where
  pub count : ℕ
  pub bytes : List ℕ

-- the installed network: the store's records up to the count
abbrev pub network : Installed → Net
network i = records i.count i.bytes

-- a network at the start, in a store of 15,768 bytes
abbrev pub installed_at_start : Net → Installed
installed_at_start net = record { count = length net; bytes = in_store net }

-- what a command is answered, and what it leaves
pub record Outcome : Type 0 where
  pub answer : CommandAnswer
  pub after : Installed

-- the new records, then zeros to byte 15,768, later bytes kept
unfoldable pub stored : Net → List ℕ → List ℕ
stored net store = let bytes = flat net in bytes ++ (replicate (store_bytes - length bytes) 0 ++ drop store_bytes store)

-- refused and blocked leave everything as it was
abbrev pub unchanged : Installed → CommandAnswer → Outcome
unchanged i a = record { answer = a; after = i }

-- forwarded leaves the network that the command would leave
unfoldable pub judged : Installed → Net → Verdict → Outcome
judged i net holds = let bytes = stored net i.bytes in record { answer = forwarded (length net); after = record { count = length net; bytes = bytes } }
judged i net (violated p x) = unchanged i (blocked p x)

-- one command: refused by the first row, or else judged by the whole network that it would leave
unfoldable pub outcome_of : Installed → Rec → ℕ → Outcome
outcome_of i c work =
    let net = would_leave c (network i) in
    let outcome = judged i net (verdict net) in
    unless (command_refusal i.bytes i.count work c) (λ number place. unchanged i (CommandAnswer.refused number place)) outcome

-- the work buffer after a command: untouched by a refusal; after a verdict the length that it needs is all zero
unfoldable pub command_work : Installed → Rec → List ℕ → List ℕ
command_work i c work =
    let zero = cleared (work_needed (network i)) work in
    unless (command_refusal i.bytes i.count (length work) c) (λ number place. work) zero

-- a series of commands, each with its work buffer's length: the answers
unfoldable pub answers : Installed → List (Rec × ℕ) → List CommandAnswer
answers i [] = []
answers i (c ∷ rest) = let o = outcome_of i c.0 c.1 in o.answer ∷ answers o.after rest

-- and what is installed at the end
unfoldable pub installed : Installed → List (Rec × ℕ) → Installed
installed i [] = i
installed i (c ∷ rest) = installed (outcome_of i c.0 c.1).after rest
