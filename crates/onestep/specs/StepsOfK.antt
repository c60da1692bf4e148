-- The steps of network K from state 2, by computation: a frame with header 0 arrives at (switch 0, port 1) and leaves at (switch 1, port 2).
use Rattle.std.specs.Prelude.{◌≡◌, refl}
use mathlib.Core.List.{[], ◌∷◌, map, flat_map}
use Rattle.format.specs.State.{header_of, port_of, switch_of, direction_of}
use Rattle.format.specs.NetK.{record24, node, A, B, policy0, K}
use Rattle.onestep.specs.Computing.{sending}
use Rattle.onestep.specs.Step.{across, next_by, next}

steps_of_K : map (next K) (2 ∷ 20 ∷ 10 ∷ 28 ∷ []) ≡ (20 ∷ []) ∷ (10 ∷ []) ∷ (28 ∷ []) ∷ [] ∷ []
unfolding flat_map header_of port_of switch_of direction_of sending across next_by next record24 node A B policy0 K
steps_of_K = refl
