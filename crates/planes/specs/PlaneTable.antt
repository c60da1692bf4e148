-- The bits of a number, and a plane of eight states behind one byte of a buffer, written by hand: by computation.
use Rattle.std.specs.Prelude.{◌≡◌, refl, Bool, true, false, List, [], ◌∷◌, map, ℕ}
use Rattle.basics.specs.Bit.{bit_of}
use Rattle.planes.specs.Plane.{bit, cell, plane_size}

-- 6 has the bits of weight 2 and 4
bits_of_6 : map (bit_of 6) (0 ∷ 1 ∷ 2 ∷ 3 ∷ []) ≡ false ∷ true ∷ true ∷ false ∷ []
unfolding bit_of
bits_of_6 = refl

-- a byte that is not the plane's, then its lines, one byte each: 0 leads to 1 and 7, and 2 to 0
abbrev buffer : List ℕ
buffer = 255 ∷ 130 ∷ 0 ∷ 1 ∷ 0 ∷ 0 ∷ 0 ∷ 0 ∷ 0 ∷ []

-- whether x leads to y
leads : ℕ × ℕ → Bool
leads c = cell buffer 1 1 c.0 c.1

-- line x, bit y
lines_of_8 :
    map leads ((0, 0) ∷ (0, 1) ∷ (0, 7) ∷ (1, 0) ∷ (2, 0) ∷ (0, 2) ∷ (7, 0) ∷ [])
    ≡ false ∷ true ∷ true ∷ false ∷ true ∷ false ∷ false ∷ []
unfolding leads bit bit_of
lines_of_8 = refl

-- with 16 states a line has two bytes: 0 leads to 9, and 1 to 2
lines_of_16 : let leads = cell (0 ∷ 2 ∷ 4 ∷ 0 ∷ []) 0 2 in leads 0 9 ∷ leads 1 2 ∷ leads 0 1 ∷ leads 2 1 ∷ leads 1 10 ∷ [] ≡ true ∷ true ∷ false ∷ false ∷ false ∷ []
unfolding bit bit_of
lines_of_16 = refl

-- the bytes of planes of 8, 16 and 1,024 states
plane_bytes_lem : map plane_size (1 ∷ 2 ∷ 128 ∷ []) ≡ 8 ∷ 32 ∷ 131072 ∷ []
plane_bytes_lem = refl
