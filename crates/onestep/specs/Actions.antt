-- What a record's actions send.
use Rattle.std.specs.Prelude.{true, false, ◌&&◌, List, [], ◌∷◌, ◌++◌, ℕ, zero, suc, ◌+◌, ◌-◌, ◌*◌, ◌^◌, eqb}
use Rattle.basics.specs.Lists.{keep, from}
use Rattle.format.specs.Record.{Rec, Net, at, action_kind}
use Rattle.format.specs.declared.kinds.ActionKind.{ActionKind}
use Rattle.format.specs.declared.kinds.ActionKind.TheVariants.{Output as k_output, Set as k_set, InPort as k_in_port, RunGroup as k_run_group, Unknown as k_no_action}
use Rattle.format.specs.State.{ordinary}
use Rattle.format.specs.Pattern.{matches, put_bits}
use Rattle.widths.specs.declared.Widths.{Widths}
use Rattle.onestep.specs.Chosen.{Arrival}
use Rattle.onestep.specs.Departing.{except, departing}
use Rattle.onestep.specs.Groups.{group_sent}

-- the ports that OUTPUT names: without stars its one port, drop and controller included; with stars ordinary ports only
unfoldable pub named : Widths → ℕ → ℕ → List ℕ
named w value care =
    elim (eqb care (2 ^ w.p - 1)) [
      | true ↦ value ∷ []
      | false ↦ keep (λ q. ordinary w q && matches w.p value care q) (from 0 (2 ^ w.p))
    ]

-- the ports that OUTPUT reaches: those that it names, with or without stars, and not the arrival port p
unfoldable pub reached : Widths → ℕ → ℕ → ℕ → List ℕ
reached w p value care = except p (named w value care)

-- the copies that an action of each kind sends from a switch, p being the arrival port and h the header of that moment: OUTPUT to the ports
-- that it reaches, IN_PORT back to the arrival port, and a group what its buckets send
abbrev pub sent_as : ActionKind → Net → Widths → ℕ → ℕ → ℕ → ℕ → ℕ → List ℕ
sent_as k_output net w sw p h value care = departing w sw h (reached w p value care)
sent_as k_set net w sw p h value care = []
sent_as k_in_port net w sw p h value care = departing w sw h (p ∷ [])
sent_as k_run_group net w sw p h value care = group_sent net w sw p value h
sent_as k_no_action net w sw p h value care = []

-- the header after an action of each kind: SET puts the cared bits into it; after a group it is the one from before
abbrev pub header_by : ActionKind → Widths → ℕ → ℕ → ℕ → ℕ
header_by k_output w value care h = h
header_by k_set w value care h = put_bits w.h value care h
header_by k_in_port w value care h = h
header_by k_run_group w value care h = h
header_by k_no_action w value care h = h

-- the copies that action i of a record sends
unfoldable pub sent_by : Net → Widths → ℕ → ℕ → Rec → ℕ → ℕ → List ℕ
sent_by net w sw p r h i = sent_as (action_kind (at r (9 + 3 * i))) net w sw p h (at r (10 + 3 * i)) (at r (11 + 3 * i))

-- the header after action i of a record
unfoldable pub header_after : Widths → Rec → ℕ → ℕ → ℕ
header_after w r h i = header_by (action_kind (at r (9 + 3 * i))) w (at r (10 + 3 * i)) (at r (11 + 3 * i)) h

-- the copies that k actions of a record from number i on send, one action after the other
unfoldable pub copies : Net → Widths → Arrival → Rec → ℕ → ℕ → ℕ → List ℕ
copies net w a r h i zero = []
copies net w a r h i (suc k) = sent_by net w a.switch a.port r h i ++ copies net w a r (header_after w r h i) (suc i) k

-- what a record's actions send: each copy is a departing state at that switch and port
unfoldable pub sent : Net → Widths → Arrival → Rec → List ℕ
sent net w a r = copies net w a r a.header 0 (at r 8)
