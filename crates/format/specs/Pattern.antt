-- Patterns: a value and a care mask. A care bit 1 fixes that bit, 0 is the star.
use Rattle.std.specs.Prelude.{◌≡◌, Bool, true, false, cond, not, ◌&&◌, ℕ, zero, suc, ◌+◌, ◌^◌, eqb, ltb}
use Rattle.std.specs.Int.Bits.{bit_and}
use Rattle.basics.specs.Bit.{bit_of}
use Rattle.format.specs.declared.Ternary.{Ternary}
use Rattle.format.specs.declared.Ternary.TheVariants.{Fixed0, Fixed1, Star}

-- bit i of the pattern: fixed to the value's bit where care has it, else the star
unfoldable pub ternary : ℕ → ℕ → ℕ → Ternary
ternary value care i = cond (bit_of care i) (cond (bit_of value i) Fixed1 Fixed0) Star

-- it is fixed to the other value than the bit b
abbrev pub FixedToOther : Ternary → Bool → Type 0
FixedToOther Fixed0 b = b ≡ true
FixedToOther Fixed1 b = b ≡ false
FixedToOther Star b = ⊥

-- it is not, as a test
abbrev pub agrees : Ternary → Bool → Bool
agrees Fixed0 b = not b
agrees Fixed1 b = b
agrees Star b = true

-- what SET makes of a bit
abbrev pub written : Ternary → Bool → Bool
written Fixed0 b = false
written Fixed1 b = true
written Star b = b

-- a number of k bits matches the pattern: no bit is fixed to the other value
unfoldable pub matches : ℕ → ℕ → ℕ → ℕ → Bool
matches zero value care x = true
matches (suc k) value care x = agrees (ternary value care k) (bit_of x k) && matches k value care x

-- what SET makes of a number of k bits: each bit as it is written
unfoldable pub put_bits : ℕ → ℕ → ℕ → ℕ → ℕ
put_bits zero value care x = 0
put_bits (suc k) value care x = cond (written (ternary value care k) (bit_of x k)) (2 ^ k) 0 + put_bits k value care x

-- value bits lie within care, and care within the width of k bits
unfoldable pub pattern_good : ℕ → ℕ → ℕ → Bool
pattern_good k value care = ltb care (2 ^ k) && eqb (bit_and value care) value
