-- The numbers that a pattern matches, as the bits of one number.
use Rattle.std.specs.Prelude.{◌≡◌, ℕ, ◌*◌, ◌^◌, ◌<◌}
use Rattle.std.specs.Int.Bits.{bit_or}
use Rattle.basics.specs.Bit.{bit_of}
use Rattle.format.specs.Pattern.{matches}
use Rattle.format.specs.declared.Ternary.{Ternary}
use Rattle.format.specs.declared.Ternary.TheVariants.{Fixed0, Fixed1, Star}

-- of the numbers of k bits, the set has just those that match
pub record MatchedSet (k value care set : ℕ) : Type 0 where
  pub numbers : (x : ℕ) → x < 2 ^ k → bit_of set x ≡ matches k value care x
  pub only : set < 2 ^ (2 ^ k)

-- the set for one bit more, bit i, by its case: the numbers with bit i 0, with bit i 1, or both
abbrev pub widened : Ternary → ℕ → ℕ → ℕ
widened Fixed0 set i = set
widened Fixed1 set i = set * 2 ^ (2 ^ i)
widened Star set i = bit_or set (set * 2 ^ (2 ^ i))
