-- A small network made to try groups, and what an arrival at each of its points sends: by computation, written by hand from request 4 of document 02.
use Rattle.std.specs.Prelude.{◌≡◌, refl, ℕ}
use mathlib.Core.List.{List, [], ◌∷◌, map, flat_map}
use Rattle.basics.specs.Lists.{from}
use Rattle.format.specs.Record.{Rec, Net, widths_of}
use Rattle.format.specs.NetK.{record24}
use Rattle.onestep.specs.Chosen.{chosen}
use Rattle.onestep.specs.ByBytes.{arrival}
use Rattle.onestep.specs.Actions.{sent}
use Rattle.onestep.specs.Computing.{sending}

-- the miss of switch 0: group 1
unfoldable pub miss_pair : Rec
miss_pair = record24 (3 ∷ 0 ∷ 0 ∷ 0 ∷ 0 ∷ 0 ∷ 0 ∷ 0 ∷ 1 ∷ 4 ∷ 1 ∷ 0 ∷ [])

-- the miss of switch 1: group 15
unfoldable pub miss_uplink : Rec
miss_uplink = record24 (3 ∷ 1 ∷ 0 ∷ 0 ∷ 0 ∷ 0 ∷ 0 ∷ 0 ∷ 1 ∷ 4 ∷ 15 ∷ 0 ∷ [])

-- switch 0, priority 5, port 1, any header: group 2, then OUTPUT 3, with the header from before the group
unfoldable pub fan_out : Rec
fan_out = record24 (4 ∷ 0 ∷ 5 ∷ 0 ∷ 1 ∷ 3 ∷ 0 ∷ 0 ∷ 2 ∷ 4 ∷ 2 ∷ 0 ∷ 1 ∷ 3 ∷ 3 ∷ [])

-- switch 0, priority 4, port 3, header 1*: SET *0, then group 1, which comes last
unfoldable pub lowered : Rec
lowered = record24 (4 ∷ 0 ∷ 4 ∷ 0 ∷ 3 ∷ 3 ∷ 2 ∷ 2 ∷ 2 ∷ 2 ∷ 0 ∷ 1 ∷ 4 ∷ 1 ∷ 0 ∷ [])

-- switch 1, priority 9, port 1, any header: SET 1*, group 15, OUTPUT 2
unfoldable pub raised : Rec
raised = record24 (4 ∷ 1 ∷ 9 ∷ 0 ∷ 1 ∷ 3 ∷ 0 ∷ 0 ∷ 3 ∷ 2 ∷ 2 ∷ 2 ∷ 4 ∷ 15 ∷ 0 ∷ 1 ∷ 2 ∷ 3 ∷ [])

-- switch 1, priority 8, port 3, header *1: group 1, then IN_PORT
unfoldable pub echoed : Rec
echoed = record24 (4 ∷ 1 ∷ 8 ∷ 0 ∷ 3 ∷ 3 ∷ 1 ∷ 1 ∷ 2 ∷ 4 ∷ 1 ∷ 0 ∷ 3 ∷ 0 ∷ 0 ∷ [])

-- switch 0, group 1: SET *1 to port 1; the header as it entered to the controller
unfoldable pub pair : Rec
pair = record24 (9 ∷ 0 ∷ 1 ∷ 0 ∷ 0 ∷ 0 ∷ 0 ∷ 0 ∷ 2 ∷ 1 ∷ 1 ∷ 1 ∷ 1 ∷ 0 ∷ 0 ∷ 1 ∷ 3 ∷ [])

-- switch 0, group 2: SET 1* on to group 1; the header as it entered to port 2; SET 00 to drop
unfoldable pub fan : Rec
fan = record24 (9 ∷ 0 ∷ 2 ∷ 0 ∷ 0 ∷ 0 ∷ 0 ∷ 0 ∷ 3 ∷ 2 ∷ 2 ∷ 2 ∷ 1 ∷ 0 ∷ 0 ∷ 1 ∷ 2 ∷ 0 ∷ 3 ∷ 1 ∷ 0 ∷ [])

-- switch 1, group 1, which is another than that of switch 0: SET 0* to port 2; the header as it entered to port 1
unfoldable pub other_pair : Rec
other_pair = record24 (9 ∷ 1 ∷ 1 ∷ 0 ∷ 0 ∷ 0 ∷ 0 ∷ 0 ∷ 2 ∷ 0 ∷ 2 ∷ 1 ∷ 2 ∷ 0 ∷ 0 ∷ 1 ∷ 1 ∷ [])

-- switch 1, group 15: SET *1 on to group 1; the header as it entered to the controller
unfoldable pub uplink : Rec
uplink = record24 (9 ∷ 1 ∷ 15 ∷ 0 ∷ 0 ∷ 0 ∷ 0 ∷ 0 ∷ 2 ∷ 1 ∷ 1 ∷ 2 ∷ 1 ∷ 0 ∷ 0 ∷ 1 ∷ 3 ∷ [])

-- widths H 2, P 2, W 1; the link (0, 2) to (1, 1); the misses, the rules and the groups
unfoldable pub group_wards : Net
group_wards =
    record24 (1 ∷ 2 ∷ 2 ∷ 1 ∷ [])
    ∷ record24 (2 ∷ 0 ∷ 2 ∷ 1 ∷ 1 ∷ [])
    ∷ miss_pair ∷ miss_uplink ∷ fan_out ∷ lowered ∷ raised ∷ echoed ∷ pair ∷ fan ∷ other_pair ∷ uplink ∷ []

-- what an arrival with a header at a point sends
abbrev copies_at : ℕ → ℕ → ℕ → List ℕ
copies_at sw p h = flat_map (sent group_wards (widths_of group_wards) (arrival sw p h)) (chosen group_wards (arrival sw p h))

-- the copies of the headers 0 to 3 at ports 1, 2 and 3 of switch 0, then of switch 1, in the order of the actions, then of the buckets
sends :
    flat_map (λ (sw : ℕ). flat_map (λ (p : ℕ). map (copies_at sw p) (from 0 4)) (from 1 3)) (from 0 2)
    ≡ (46 ∷ 40 ∷ 32 ∷ 44 ∷ []) ∷ (47 ∷ 41 ∷ 32 ∷ 45 ∷ []) ∷ (46 ∷ 42 ∷ 32 ∷ 46 ∷ []) ∷ (47 ∷ 43 ∷ 32 ∷ 47 ∷ [])
    ∷ (37 ∷ 44 ∷ []) ∷ (37 ∷ 45 ∷ []) ∷ (39 ∷ 46 ∷ []) ∷ (39 ∷ 47 ∷ [])
    ∷ (37 ∷ []) ∷ (37 ∷ []) ∷ (39 ∷ []) ∷ (39 ∷ [])
    ∷ (57 ∷ 62 ∷ 58 ∷ []) ∷ (57 ∷ 63 ∷ 59 ∷ []) ∷ (57 ∷ 62 ∷ 58 ∷ []) ∷ (57 ∷ 63 ∷ 59 ∷ [])
    ∷ (53 ∷ 60 ∷ []) ∷ (53 ∷ 61 ∷ []) ∷ (55 ∷ 62 ∷ []) ∷ (55 ∷ 63 ∷ [])
    ∷ (57 ∷ 53 ∷ []) ∷ (57 ∷ 53 ∷ 61 ∷ []) ∷ (57 ∷ 55 ∷ []) ∷ (57 ∷ 55 ∷ 63 ∷ [])
    ∷ []
unfolding flat_map sending record24 miss_pair miss_uplink fan_out lowered raised echoed pair fan other_pair uplink group_wards
sends = refl
