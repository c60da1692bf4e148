-- One step of a packet state.
use Rattle.std.specs.Prelude.{◌≡◌, Bool, true, false, cond, not, ◌&&◌, ℕ, eqb}
use mathlib.Core.List.{List, [], ◌∷◌, ◌++◌, map, flat_map}
use Rattle.basics.specs.Lists.{member}
use Rattle.format.specs.Record.{Net, at, of_kind, linked, widths_of}
use Rattle.format.specs.State.{state, header_of, port_of, switch_of, direction_of, ordinary}
use Rattle.onestep.specs.Chosen.{Arrival, chosen}
use Rattle.onestep.specs.Actions.{sent}

-- the other ends of the links at a point
unfoldable pub across : ℕ → ℕ → Net → List (ℕ × ℕ)
across sw p [] = []
across sw p (l ∷ links) =
    cond (eqb (at l 1) sw && eqb (at l 2) p) ((at l 3, at l 4) ∷ []) []
    ++ (cond (eqb (at l 3) sw && eqb (at l 4) p) ((at l 1, at l 2) ∷ []) [] ++ across sw p links)

-- the arrival that a state is, where its direction is 0
abbrev pub arrival_of : Net → ℕ → Arrival
arrival_of net s = let w = widths_of net in record { switch = switch_of w s; port = port_of w s; header = header_of w s }

-- the states that a state steps to, where these records act on it if it arrives
unfoldable pub next_by : Net → Net → ℕ → List ℕ
next_by net acts s =
    let w = widths_of net in
    let sw = switch_of w s in
    let p = port_of w s in
    elim (eqb (direction_of w s) 0) [
      | true ↦ elim (eqb p 0) [ true ↦ [] | false ↦ flat_map (sent net w (arrival_of net s)) acts ]
      | false ↦ map (λ e. state w 0 e.0 e.1 (header_of w s)) (across sw p (of_kind 2 net))
    ]

-- the states that a state steps to: wherever any of the records that act on it sends it, or a link takes it
unfoldable pub next : Net → ℕ → List ℕ
next net s = next_by net (chosen net (arrival_of net s)) s

-- s steps to t
unfoldable pub Step : Net → ℕ → ℕ → Type 0
Step net s t = member t (next net s) ≡ true

-- the point of a state is external: an ordinary port at which no link ends, either direction
unfoldable pub external : Net → ℕ → Bool
external net s = let w = widths_of net in ordinary w (port_of w s) && not (linked net (switch_of w s) (port_of w s))
