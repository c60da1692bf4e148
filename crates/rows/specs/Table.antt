-- Tables of bits by a switch and a number.
use Rattle.std.specs.Prelude.{ℕ, ◌+◌, ◌*◌}

-- the bit of number k of a switch
abbrev pub table_bit : ℕ → ℕ → ℕ
table_bit sw k = sw * 16 + k
