-- The widths of a network, their limits and the sizes that follow from them.
use Rattle.std.specs.Prelude.{Bool, ◌&&◌, ℕ, ◌+◌, ◌*◌, ◌/◌, ◌^◌, leb}
use Rattle.widths.specs.declared.Widths.{Widths}

-- N, the bits of a state
abbrev pub width : Widths → ℕ
width w = 1 + w.h + w.p + w.w

-- the number of packet states
unfoldable pub states : Widths → ℕ
states w = 2 ^ width w

-- the bytes of a plane, which has 2^(2N) bits
unfoldable pub plane_bytes : Widths → ℕ
plane_bytes w = 2 ^ (2 * width w) / 8

-- the bytes of a line of a plane, which has a bit for each state
abbrev pub line_bytes : Widths → ℕ
line_bytes w = states w / 8

-- H is 1 to 6, P 2 to 4, W 0 to 4, and N at most 10
unfoldable pub within_limits : Widths → Bool
within_limits w = leb 1 w.h && leb w.h 6 && leb 2 w.p && leb w.p 4 && leb w.w 4 && leb (width w) 10
