-- The numbers of packet states.
use Rattle.std.specs.Prelude.{Bool, ◌&&◌, ℕ, ◌+◌, ◌-◌, ◌*◌, ◌/◌, ◌%◌, ◌^◌, ltb}
use Rattle.widths.specs.declared.Widths.{Widths}

-- the state with header h at port p of switch sw, in the direction d: 0 arriving, 1 departing
unfoldable pub state : Widths → ℕ → ℕ → ℕ → ℕ → ℕ
state w d sw p h = d * 2 ^ (w.h + w.p + w.w) + sw * 2 ^ (w.h + w.p) + p * 2 ^ w.h + h

-- the header of a state
unfoldable pub header_of : Widths → ℕ → ℕ
header_of w s = s % 2 ^ w.h

-- the port of a state
unfoldable pub port_of : Widths → ℕ → ℕ
port_of w s = s / 2 ^ w.h % 2 ^ w.p

-- the switch of a state
unfoldable pub switch_of : Widths → ℕ → ℕ
switch_of w s = s / 2 ^ (w.h + w.p) % 2 ^ w.w

-- the direction of a state
unfoldable pub direction_of : Widths → ℕ → ℕ
direction_of w s = s / 2 ^ (w.h + w.p + w.w)

-- a port is ordinary if it is neither 0, drop, nor 2^P − 1, the controller
unfoldable pub ordinary : Widths → ℕ → Bool
ordinary w p = ltb 0 p && ltb p (2 ^ w.p - 1)
