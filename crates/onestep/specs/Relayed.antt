-- What arriving states step to.
use Rattle.std.specs.Prelude.{cond, ℕ, eqb}
use mathlib.Core.List.{List, [], flat_map, map}
use Rattle.format.specs.Record.{Net}
use Rattle.format.specs.State.{header_of, port_of, switch_of, direction_of, state}
use Rattle.widths.specs.declared.Widths.{Widths}
use Rattle.onestep.specs.Chosen.{Arrival, chosen}
use Rattle.onestep.specs.ByBytes.{arrival}
use Rattle.onestep.specs.Actions.{sent}

-- what an arrival steps to: at port 0 nothing, else what the records that act send
unfoldable pub relayed : Net → Widths → Arrival → List ℕ
relayed net w a = cond (eqb a.port 0) [] (flat_map (sent net w a) (chosen net a))

-- what a state steps to if it arrives; a departing state is left to the links
unfoldable pub relays : Net → Widths → ℕ → List ℕ
relays net w s = cond (eqb (direction_of w s) 0) (relayed net w (arrival (switch_of w s) (port_of w s) (header_of w s))) []

-- the states with header h that arrive at some points
unfoldable pub arriving : Widths → ℕ → List (ℕ × ℕ) → List ℕ
arriving w h ends = map (λ e. state w 0 e.0 e.1 h) ends
