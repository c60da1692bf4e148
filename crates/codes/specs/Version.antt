-- The version of the library as one number.
use Rattle.std.specs.Prelude.{◌≡◌, refl, [], ◌∷◌, ℕ, ◌+◌, ◌*◌}

-- a version by its three numbers
abbrev pub numbered : ℕ → ℕ → ℕ → ℕ
numbered major minor patch = 1000000 * major + 1000 * minor + patch

-- the version that the file VERSION names
abbrev pub library_version : ℕ
library_version = numbered 0 7 4

-- three digits for each of the last two
numbers : numbered 0 7 4 ∷ numbered 1 20 300 ∷ [] ≡ 7004 ∷ 1020300 ∷ []
numbers = refl
