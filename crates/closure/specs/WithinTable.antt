-- Planes that lie within a buffer, and some that do not, written by hand: by computation.
use Rattle.std.specs.Prelude.{◌≡◌, refl, true, false, [], ◌∷◌}
use Rattle.closure.specs.Closed.{lies_within}

-- a plane of 8 states has 8 bytes: at byte 0 of 8 and of 7, and at byte 1 of 9 and of 8; a line of 128 bytes, with all the room that it needs and a byte less, and one of 129; no state
within :
    lies_within 8 0 1 ∷ lies_within 7 0 1 ∷ lies_within 9 1 1 ∷ lies_within 8 1 1 ∷ lies_within 131072 0 128 ∷ lies_within 131071 0 128 ∷ lies_within 200000 0 129 ∷ lies_within 0 0 0 ∷ []
    ≡ true ∷ false ∷ true ∷ false ∷ true ∷ false ∷ false ∷ true ∷ []
within = refl
