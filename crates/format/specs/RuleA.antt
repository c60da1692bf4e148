-- Rule A of network K, as document 01 prints it: by computation.
use Rattle.std.specs.Prelude.{◌≡◌, refl, [], ◌∷◌, ◌++◌, replicate}
use Rattle.format.specs.Record.{priority}
use Rattle.format.specs.NetK.{record24, A}

-- its bytes in hex, then zeros
bytes_of_A : A ≡ (0x04 ∷ 0x00 ∷ 0x0A ∷ 0x00 ∷ 0x01 ∷ 0x03 ∷ 0x00 ∷ 0x01 ∷ 0x01 ∷ 0x01 ∷ 0x02 ∷ 0x03 ∷ []) ++ replicate 12 0
unfolding record24 A
bytes_of_A = refl

-- its priority, low byte first, is 10
priority_of_A : priority A ≡ 10
unfolding record24 A priority
priority_of_A = refl
