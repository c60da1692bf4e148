use Prim.Native.Nat.{◌-◌, ◌^◌}
use Rattle.basics.specs.Lists.{from}
use Rattle.onestep.specs.Flooding.{flooded}
use Rattle.groups.specs.Relayed.{departs}
use Rattle.groups.specs.Laws.Running.{Toward}
use Rattle.actions.proofs.flood.Given as goal

-- the ports from q on are left
abbrev pub invariant-loop-q : goal.invariant-loop-q
invariant-loop-q l =
    let x = l.initial.relay in
    let w = x.groups.now.net.layout.widths in
    Toward (departs x l.header (flooded w x.frame.port l.value l.care (from 0 (2 ^ w.p)))) (departs x l.header (flooded w x.frame.port l.value l.care (from l.q (2 ^ w.p - l.q)))) x l.relay
