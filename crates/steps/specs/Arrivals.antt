-- What the records of a network send of a frame that arrives.
use Rattle.std.specs.Prelude.{List, ℕ}
use mathlib.Core.List.{flat_map}
use Rattle.format.specs.Record.{records}
use Rattle.scan.specs.declared.network.Network.{Network}
use Rattle.states.specs.declared.Frame.{Frame}
use Rattle.onestep.specs.Chosen.{Arrival, chosen}
use Rattle.onestep.specs.ByBytes.{arrival}
use Rattle.onestep.specs.Actions.{sent}
use Rattle.onestep.specs.Relayed.{relayed}

-- a frame as it arrives
abbrev pub arrives : Frame → Arrival
arrives f = arrival f.switch f.port f.header

-- what the records that act on it send
abbrev pub acting_send : Network → Frame → List ℕ
acting_send net f = let rs = records net.n net.store.now in flat_map (sent rs net.layout.widths (arrives f)) (chosen rs (arrives f))

-- what it steps to
abbrev pub frame_sends : Network → Frame → List ℕ
frame_sends net f = relayed (records net.n net.store.now) net.layout.widths (arrives f)
