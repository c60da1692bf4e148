use mathlib.Core.List.{flat_map}
use Prim.Native.Nat.{ℕ, ◌+◌}
use lib.Dec.{eqb}
use Rattle.basics.specs.Lists.{keep}
use Rattle.format.specs.Record.{Net, records, of_kind}
use Rattle.format.specs.Laws.Parts.{part}
use Rattle.widths.specs.declared.Widths.{Widths}
use Rattle.onestep.specs.ByBytes.{rank_of}
use Rattle.onestep.specs.Chosen.{Arrival}
use Rattle.onestep.specs.Actions.{sent}
use Rattle.groups.specs.Laws.Running.{Toward}
use Rattle.steps.specs.Arrivals.{arrives, acting_send}
use Rattle.steps.proofs.run_leaders.Given as goal

-- the rules of a rank from number j up to number e
abbrev pub leading : Net → Widths → Arrival → ℕ → ℕ → ℕ → Net
leading net w v r j e = keep (λ x. eqb (rank_of w v x) r) (part (of_kind 4 net) j e)

-- the rules from number j on are left
abbrev pub invariant-loop-j : goal.invariant-loop-j
invariant-loop-j l =
    let x = l.initial.relay in
    let net = l.rules.net in
    let rs = records net.n net.store.now in
    let v = arrives x.frame in
    Toward (acting_send net x.frame) (flat_map (sent rs net.layout.widths v) (leading rs net.layout.widths v l.lead.rank l.j (l.lead.last + 1))) x l.relay
