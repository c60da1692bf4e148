-- The three cases of a bit, and patterns of two bits, as tables: by computation.
use Rattle.std.specs.Prelude.{◌≡◌, refl, List, [], ◌∷◌, map, ℕ}
use Rattle.basics.specs.Bit.{bit_of}
use Rattle.basics.specs.Lists.{keep, from}
use Rattle.format.specs.Pattern.{ternary, matches, put_bits}
use Rattle.format.specs.declared.Ternary.TheVariants.{Fixed0, Fixed1, Star}

-- a care bit 1 fixes that bit to the value's, 0 is the star
cases : (ternary 0 1 0 ≡ Fixed0) × (ternary 1 1 0 ≡ Fixed1) × (ternary 0 0 0 ≡ Star)
unfolding bit_of ternary
cases = (refl, refl, refl)

-- what a pattern of two bits matches
matching : ℕ → ℕ → List ℕ
matching value care = keep (matches 2 value care) (from 0 4)

-- 01, 1*, *1 and **
matches_table : (matching 1 3 ≡ 1 ∷ []) × (matching 2 2 ≡ 2 ∷ 3 ∷ []) × (matching 1 1 ≡ 1 ∷ 3 ∷ []) × (matching 0 0 ≡ 0 ∷ 1 ∷ 2 ∷ 3 ∷ [])
unfolding matching keep from bit_of ternary matches
matches_table = (refl, refl, refl, refl)

-- what SET by it makes of 0, 1, 2 and 3
setting : ℕ → ℕ → List ℕ
setting value care = map (put_bits 2 value care) (from 0 4)

-- the same patterns
set_table : (setting 1 3 ≡ 1 ∷ 1 ∷ 1 ∷ 1 ∷ []) × (setting 2 2 ≡ 2 ∷ 3 ∷ 2 ∷ 3 ∷ []) × (setting 1 1 ≡ 1 ∷ 1 ∷ 3 ∷ 3 ∷ []) × (setting 0 0 ≡ 0 ∷ 1 ∷ 2 ∷ 3 ∷ [])
unfolding setting from bit_of ternary put_bits
set_table = (refl, refl, refl, refl)
