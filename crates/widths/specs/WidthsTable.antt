-- The limits of the widths, written by hand from document 01's table of records: by computation.
use Rattle.std.specs.Prelude.{◌≡◌, refl, List, [], ◌∷◌, map, ℕ, replicate}
use Rattle.basics.specs.Lists.{keep, from}
use Rattle.widths.specs.Widths.{within_limits}
use Rattle.widths.specs.declared.Widths.{Widths}

-- the widths of each number of bits
abbrev pub widths : ℕ → ℕ → ℕ → Widths
widths h p w = record { h = h; p = p; w = w }

-- the header widths of 0 to 7 that a port and a switch width allow
allowed : ℕ → ℕ → List ℕ
allowed p w = keep (λ h. within_limits (widths h p w)) (from 0 8)

-- P from 0 to 5, and for each W from 0 to 5: H is 1 to 6, and fewer where N would be above 10
limits :
    map (λ p. map (allowed p) (from 0 6)) (from 0 6)
    ≡ replicate 6 []
    ∷ replicate 6 []
    ∷ (from 1 6 ∷ from 1 6 ∷ from 1 5 ∷ from 1 4 ∷ from 1 3 ∷ [] ∷ [])
    ∷ (from 1 6 ∷ from 1 5 ∷ from 1 4 ∷ from 1 3 ∷ from 1 2 ∷ [] ∷ [])
    ∷ (from 1 5 ∷ from 1 4 ∷ from 1 3 ∷ from 1 2 ∷ from 1 1 ∷ [] ∷ [])
    ∷ replicate 6 []
    ∷ []
unfolding keep from allowed within_limits
limits = refl
