-- Parts of two records that the library's `==` compares.
use Rattle.std.specs.Prelude.{◌≡◌, refl, ◌&&◌, List, [], ◌∷◌, ℕ, eqb, Bool}
use Rattle.std.specs.Cmp.Lexicographic.{pointwise}
use Rattle.std.proofs.Math.Path.{ap}
use Rattle.basics.specs.Lists.{same_numbers}

pub same_pointwise : (a b : List ℕ) → pointwise eqb a b ≡ same_numbers a b
unfolding same_numbers
same_pointwise [] [] = refl
same_pointwise [] (y ∷ b) = refl
same_pointwise (x ∷ a) [] = refl
same_pointwise (x ∷ a) (y ∷ b) = ap (λ (r : Bool). eqb x y && r) (same_pointwise a b)
