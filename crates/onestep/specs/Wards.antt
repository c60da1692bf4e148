-- A small network made to try every kind of action, and what an arrival at each of its points sends: by computation, written by hand from document 01 and from requests 2 and 6 of document 02.
use Rattle.std.specs.Prelude.{◌≡◌, refl, ℕ}
use mathlib.Core.List.{List, [], ◌∷◌, map, flat_map}
use Rattle.basics.specs.Lists.{from}
use Rattle.format.specs.Record.{Rec, Net, widths_of}
use Rattle.format.specs.NetK.{record24}
use Rattle.onestep.specs.Chosen.{chosen}
use Rattle.onestep.specs.ByBytes.{arrival}
use Rattle.onestep.specs.Actions.{sent}
use Rattle.onestep.specs.Computing.{sending}

-- switch 0, priority 256, port 1, any header: OUTPUT ** floods, but for the arrival port
unfoldable pub flood : Rec
flood = record24 (4 ∷ 0 ∷ 0 ∷ 1 ∷ 1 ∷ 3 ∷ 0 ∷ 0 ∷ 1 ∷ 1 ∷ 0 ∷ 0 ∷ [])

-- switch 0, priority 2, port 1, header *1: OUTPUT 0; it is below 256, though its low byte is above
unfoldable pub shadowed : Rec
shadowed = record24 (4 ∷ 0 ∷ 2 ∷ 0 ∷ 1 ∷ 3 ∷ 1 ∷ 1 ∷ 1 ∷ 1 ∷ 0 ∷ 3 ∷ [])

-- switch 0, priority 7, port 2, header 0*: OUTPUT 1, SET *1, OUTPUT 3
unfoldable pub mirror : Rec
mirror = record24 (4 ∷ 0 ∷ 7 ∷ 0 ∷ 2 ∷ 3 ∷ 0 ∷ 2 ∷ 3 ∷ 1 ∷ 1 ∷ 3 ∷ 2 ∷ 1 ∷ 1 ∷ 1 ∷ 3 ∷ 3 ∷ [])

-- switch 0, priority 7, any port, header *0: OUTPUT 2, which sends nothing from port 2, OUTPUT 3; the equal of the one before: where both match, both act, each with the header that arrived
unfoldable pub equal : Rec
equal = record24 (4 ∷ 0 ∷ 7 ∷ 0 ∷ 0 ∷ 0 ∷ 0 ∷ 1 ∷ 2 ∷ 1 ∷ 2 ∷ 3 ∷ 1 ∷ 3 ∷ 3 ∷ [])

-- switch 1, priority 512, port 1, any header: OUTPUT 1*, SET 1*, SET *0, IN_PORT
unfoldable pub rewrite : Rec
rewrite = record24 (4 ∷ 1 ∷ 0 ∷ 2 ∷ 1 ∷ 3 ∷ 0 ∷ 0 ∷ 4 ∷ 1 ∷ 2 ∷ 2 ∷ 2 ∷ 2 ∷ 2 ∷ 2 ∷ 0 ∷ 1 ∷ 3 ∷ 0 ∷ 0 ∷ [])

-- switch 1, priority 513, port 1, header 1*: IN_PORT, back to where it came from, SET *1, OUTPUT 1, which sends nothing; it is above 512 by its low byte alone
unfoldable pub back : Rec
back = record24 (4 ∷ 1 ∷ 1 ∷ 2 ∷ 1 ∷ 3 ∷ 2 ∷ 2 ∷ 3 ∷ 3 ∷ 0 ∷ 0 ∷ 2 ∷ 1 ∷ 1 ∷ 1 ∷ 1 ∷ 3 ∷ [])

-- switch 1, priority 1, port 3, header 0*: IN_PORT, back to the controller
unfoldable pub answer : Rec
answer = record24 (4 ∷ 1 ∷ 1 ∷ 0 ∷ 3 ∷ 3 ∷ 0 ∷ 2 ∷ 1 ∷ 3 ∷ 0 ∷ 0 ∷ [])

-- widths H 2, P 2, W 1; the link (0, 2) to (1, 1); the misses OUTPUT 0 and OUTPUT 3; the rules
unfoldable pub wards : Net
wards =
    record24 (1 ∷ 2 ∷ 2 ∷ 1 ∷ [])
    ∷ record24 (2 ∷ 0 ∷ 2 ∷ 1 ∷ 1 ∷ [])
    ∷ record24 (3 ∷ 0 ∷ 0 ∷ 0 ∷ 0 ∷ 0 ∷ 0 ∷ 0 ∷ 1 ∷ 1 ∷ 0 ∷ 3 ∷ [])
    ∷ record24 (3 ∷ 1 ∷ 0 ∷ 0 ∷ 0 ∷ 0 ∷ 0 ∷ 0 ∷ 1 ∷ 1 ∷ 3 ∷ 3 ∷ [])
    ∷ flood ∷ shadowed ∷ mirror ∷ equal ∷ rewrite ∷ back ∷ answer ∷ []

-- what an arrival with a header at a point sends
abbrev copies_at : ℕ → ℕ → ℕ → List ℕ
copies_at sw p h = flat_map (sent wards (widths_of wards) (arrival sw p h)) (chosen wards (arrival sw p h))

-- the copies of the headers 0 to 3 at ports 1, 2 and 3 of switch 0, then of switch 1, in the order of the rules, then of the actions, then of the ports
sends :
    flat_map (λ (sw : ℕ). flat_map (λ (p : ℕ). map (copies_at sw p) (from 0 4)) (from 1 3)) (from 0 2)
    ≡ (40 ∷ []) ∷ (41 ∷ []) ∷ (42 ∷ []) ∷ (43 ∷ [])
    ∷ (36 ∷ 45 ∷ 44 ∷ []) ∷ (37 ∷ 45 ∷ []) ∷ (46 ∷ []) ∷ (35 ∷ [])
    ∷ (40 ∷ []) ∷ (33 ∷ []) ∷ (42 ∷ []) ∷ (35 ∷ [])
    ∷ (56 ∷ 54 ∷ []) ∷ (57 ∷ 54 ∷ []) ∷ (54 ∷ []) ∷ (55 ∷ [])
    ∷ (60 ∷ []) ∷ (61 ∷ []) ∷ (62 ∷ []) ∷ (63 ∷ [])
    ∷ (60 ∷ []) ∷ (61 ∷ []) ∷ [] ∷ []
    ∷ []
unfolding flat_map sending record24 flood shadowed mirror equal rewrite back answer wards
sends = refl
