use mathlib.Core.Bool.{false}
use mathlib.Core.List.{[]}
use Rattle.streams.specs.Input.{is_command}
use mathlib.Core.Path.{◌≡◌, refl, sym, ◌∙◌}
use mathlib.Core.Logic.{◌⊎◌, inl, inr}
use Prim.Native.Nat.{◌<◌}
use native.Mathlib.Omega.{arith}
use borrow.Author.Rules.{rules}
use Rattle.format.specs.Record.{most_records}
use Rattle.streams.specs.Laws.Store.{with_none}
use Rattle.streams.specs.Laws.Reading.{network_fewer, too_many_full, no_command, holds_as, holds_more}
use Rattle.streams.specs.declared.input.Next.{Next}
use Rattle.streams.specs.declared.input.Next.TheVariants as next
use Rattle.gate.proofs.load.Goals as goal

-- one more record of the network is not one too many, and no command
fewer : (c : goal.After-keep) → c.loop-n.n < most_records
fewer c =
    let read = c.read_piece-piece in
    network_fewer c.loop-n.n read.new.rec read.result (sym c.next_of-met.ensures ∙ c.in-Network.is)

plain : (c : goal.After-keep) → is_command c.read_piece-piece.new.rec ≡ false
plain c =
    let read = c.read_piece-piece in
    no_command c.loop-n.n read.new.rec read.result (sym c.next_of-met.ensures ∙ c.in-Network.is) (search rules)

-- what ends the loop otherwise is not one record too many
other : (x : Next) → x ≡ next.TooMany → (x ≡ next.Command) ⊎ ((x ≡ next.CutCommand) ⊎ ((x ≡ next.Cut) ⊎ ((x ≡ next.End) ⊎ (x ≡ next.Failed)))) → ⊥
other x t (inl e) = cc
other x t (inr (inl e)) = cc
other x t (inr (inr (inl e))) = cc
other x t (inr (inr (inr (inl e)))) = cc
other x t (inr (inr (inr (inr e)))) = cc

pub next_of-met-requires : goal.next_of-met-requires
next_of-met-requires c = c.read_piece-piece.ensures.within

pub keep-requires : goal.keep-requires
keep-requires c =
    let read = c.read_piece-piece in
    network_fewer c.loop-n.n read.new.rec read.result (sym c.next_of-met.ensures ∙ c.in-Network.is)

pub loop-n-preserved : goal.loop-n-preserved
loop-n-preserved c =
    let h = fewer c in
    (omega arith, holds_more _ c.loop-n.invariant.1 c.keep.ensures (search rules) (plain c))

pub loop-n-init : goal.loop-n-init
loop-n-init c = (search rules, record { net = []; whole = tt; none = tt; size = refl; stored = sym (with_none _) })

pub returns-in-TooMany : goal.returns-in-TooMany
returns-in-TooMany c =
    let read = c.read_piece-piece in
    let n = c.loop-n.n in
    let met = c.in-TooMany.is in
    let full = too_many_full n read.new.rec read.result (sym c.next_of-met.ensures ∙ met) in
    record { held = holds_as (omega arith) c.loop-n.invariant.1; many = λ t. omega arith; few = λ t. absurd (t met) }

pub returns-in-Command : goal.returns-in-Command
returns-in-Command c =
    record { held = holds_as (omega arith) c.loop-n.invariant.1; many = λ t. absurd (other _ t c.in-Command.is); few = λ t. omega arith }
