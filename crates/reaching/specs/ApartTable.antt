-- Two planes that share no byte, and some that do, written by hand: by computation.
use Rattle.std.specs.Prelude.{◌≡◌, refl, true, false, [], ◌∷◌}
use Rattle.reaching.specs.Into.{lie_apart}

-- planes of 8 bytes in 16: one behind the other, in either order; with a byte in common; the same; in 15 bytes; lines of 129 bytes
apart :
    lie_apart 16 0 8 1 ∷ lie_apart 16 8 0 1 ∷ lie_apart 16 0 7 1 ∷ lie_apart 16 7 0 1 ∷ lie_apart 16 4 4 1 ∷ lie_apart 15 0 8 1 ∷ lie_apart 15 8 0 1 ∷ lie_apart 300000 0 140000 129 ∷ []
    ≡ true ∷ true ∷ false ∷ false ∷ false ∷ false ∷ false ∷ false ∷ []
apart = refl
