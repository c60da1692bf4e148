use Prim.Native.Nat.{◌-◌}
use Rattle.format.specs.Record.{at, records}
use Rattle.onestep.specs.ByBytes.{arrival}
use Rattle.onestep.specs.Actions.{copies}
use Rattle.groups.specs.Relayed.{HeaderFits}
use Rattle.groups.specs.Laws.Running.{Toward}
use Rattle.actions.specs.Acted.{record_sends}
use Rattle.actions.proofs.run.Given as goal

-- the actions from i on are left
abbrev pub invariant-loop-i : goal.invariant-loop-i
invariant-loop-i l =
    let x = l.initial.relay in
    let net = x.groups.now.net in
    HeaderFits x l.header
    × Toward (record_sends x l.r) (copies (records net.n net.store.now) net.layout.widths (arrival x.frame.switch x.frame.port x.frame.header) l.r l.header l.i (at l.r 8 - l.i)) x l.relay
