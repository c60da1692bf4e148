-- The whole step table of a small network with groups, by computation: what each state steps to, written by hand from request 4 of document 02.
use Rattle.std.specs.Prelude.{◌≡◌, refl}
use mathlib.Core.List.{[], ◌∷◌, map, flat_map}
use Rattle.std.proofs.Math.Option.{none}
use Rattle.basics.specs.Lists.{from}
use Rattle.format.specs.State.{header_of, port_of, switch_of, direction_of}
use Rattle.format.specs.NetK.{record24}
use Rattle.refusals.specs.Refusal.{file_row}
use Rattle.refusals.specs.Computing.{refusing}
use Rattle.onestep.specs.Computing.{sending}
use Rattle.onestep.specs.GroupWards.{miss_pair, miss_uplink, fan_out, lowered, raised, echoed, pair, fan, other_pair, uplink, group_wards}
use Rattle.onestep.specs.Step.{across, next_by, next}

-- no row refuses the network
passes : file_row [] group_wards ≡ none
unfolding refusing record24 miss_pair miss_uplink fan_out lowered raised echoed pair fan other_pair uplink group_wards
passes = refl

-- what each of the 64 states steps to, with the headers 0 to 3 of a point in one line; copies stand in the order of the actions, then of the buckets
table :
    map (next group_wards) (from 0 64)
    -- arriving at switch 0: ports 0, 1, 2 and 3
    ≡ [] ∷ [] ∷ [] ∷ []
    ∷ (46 ∷ 40 ∷ 32 ∷ 44 ∷ []) ∷ (47 ∷ 41 ∷ 32 ∷ 45 ∷ []) ∷ (46 ∷ 42 ∷ 32 ∷ 46 ∷ []) ∷ (47 ∷ 43 ∷ 32 ∷ 47 ∷ [])
    ∷ (37 ∷ 44 ∷ []) ∷ (37 ∷ 45 ∷ []) ∷ (39 ∷ 46 ∷ []) ∷ (39 ∷ 47 ∷ [])
    ∷ (37 ∷ []) ∷ (37 ∷ []) ∷ (39 ∷ []) ∷ (39 ∷ [])
    -- arriving at switch 1
    ∷ [] ∷ [] ∷ [] ∷ []
    ∷ (57 ∷ 62 ∷ 58 ∷ []) ∷ (57 ∷ 63 ∷ 59 ∷ []) ∷ (57 ∷ 62 ∷ 58 ∷ []) ∷ (57 ∷ 63 ∷ 59 ∷ [])
    ∷ (53 ∷ 60 ∷ []) ∷ (53 ∷ 61 ∷ []) ∷ (55 ∷ 62 ∷ []) ∷ (55 ∷ 63 ∷ [])
    ∷ (57 ∷ 53 ∷ []) ∷ (57 ∷ 53 ∷ 61 ∷ []) ∷ (57 ∷ 55 ∷ []) ∷ (57 ∷ 55 ∷ 63 ∷ [])
    -- departing from switch 0: port 2 is linked
    ∷ [] ∷ [] ∷ [] ∷ []
    ∷ [] ∷ [] ∷ [] ∷ []
    ∷ (20 ∷ []) ∷ (21 ∷ []) ∷ (22 ∷ []) ∷ (23 ∷ [])
    ∷ [] ∷ [] ∷ [] ∷ []
    -- departing from switch 1: port 1 is linked
    ∷ [] ∷ [] ∷ [] ∷ []
    ∷ (8 ∷ []) ∷ (9 ∷ []) ∷ (10 ∷ []) ∷ (11 ∷ [])
    ∷ [] ∷ [] ∷ [] ∷ []
    ∷ [] ∷ [] ∷ [] ∷ []
    ∷ []
unfolding flat_map header_of port_of switch_of direction_of sending across next_by next record24 miss_pair miss_uplink fan_out lowered raised echoed pair fan other_pair uplink group_wards
table = refl
