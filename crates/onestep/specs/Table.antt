-- The whole step table of a small network, by computation: what each state steps to, written by hand from document 01, "One step", and from requests 2 and 6 of document 02.
use Rattle.std.specs.Prelude.{◌≡◌, refl}
use mathlib.Core.List.{[], ◌∷◌, map, flat_map}
use Rattle.std.proofs.Math.Option.{none}
use Rattle.basics.specs.Lists.{keep, member, from}
use Rattle.format.specs.State.{header_of, port_of, switch_of, direction_of}
use Rattle.format.specs.NetK.{record24}
use Rattle.refusals.specs.Refusal.{file_row}
use Rattle.refusals.specs.Computing.{refusing}
use Rattle.onestep.specs.Computing.{sending}
use Rattle.onestep.specs.Wards.{flood, shadowed, mirror, equal, rewrite, back, answer, wards}
use Rattle.onestep.specs.Step.{across, next_by, next, external}

-- all that its steps compute with
unfoldable stepping : Unit {0}
unfolding flat_map member header_of port_of switch_of direction_of refusing sending across next_by next external record24 flood shadowed mirror equal rewrite back answer wards
stepping = tt

-- no row refuses the network
passes : file_row [] wards ≡ none
unfolding stepping
passes = refl

-- what each of the 64 states steps to, with the headers 0 to 3 of a point in one line; copies stand in the order of the rules, then of the actions, then of the ports
table :
    map (next wards) (from 0 64)
    -- arriving at switch 0: ports 0, 1, 2 and 3
    ≡ [] ∷ [] ∷ [] ∷ []
    ∷ (40 ∷ []) ∷ (41 ∷ []) ∷ (42 ∷ []) ∷ (43 ∷ [])
    ∷ (36 ∷ 45 ∷ 44 ∷ []) ∷ (37 ∷ 45 ∷ []) ∷ (46 ∷ []) ∷ (35 ∷ [])
    ∷ (40 ∷ []) ∷ (33 ∷ []) ∷ (42 ∷ []) ∷ (35 ∷ [])
    -- arriving at switch 1
    ∷ [] ∷ [] ∷ [] ∷ []
    ∷ (56 ∷ 54 ∷ []) ∷ (57 ∷ 54 ∷ []) ∷ (54 ∷ []) ∷ (55 ∷ [])
    ∷ (60 ∷ []) ∷ (61 ∷ []) ∷ (62 ∷ []) ∷ (63 ∷ [])
    ∷ (60 ∷ []) ∷ (61 ∷ []) ∷ [] ∷ []
    -- departing from switch 0: port 2 is linked
    ∷ [] ∷ [] ∷ [] ∷ []
    ∷ [] ∷ [] ∷ [] ∷ []
    ∷ (20 ∷ []) ∷ (21 ∷ []) ∷ (22 ∷ []) ∷ (23 ∷ [])
    ∷ [] ∷ [] ∷ [] ∷ []
    -- departing from switch 1: port 1 is linked
    ∷ [] ∷ [] ∷ [] ∷ []
    ∷ (8 ∷ []) ∷ (9 ∷ []) ∷ (10 ∷ []) ∷ (11 ∷ [])
    ∷ [] ∷ [] ∷ [] ∷ []
    ∷ [] ∷ [] ∷ [] ∷ []
    ∷ []
unfolding stepping
table = refl

-- the states whose point is external: (0, 1) and (1, 2) arriving, then the same departing
externals : keep (external wards) (from 0 64) ≡ 4 ∷ 5 ∷ 6 ∷ 7 ∷ 24 ∷ 25 ∷ 26 ∷ 27 ∷ 36 ∷ 37 ∷ 38 ∷ 39 ∷ 56 ∷ 57 ∷ 58 ∷ 59 ∷ []
unfolding stepping
externals = refl
