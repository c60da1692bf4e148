-- How much a call of read moved.
use mathlib.Core.Bool.{Bool, true, false}
use mathlib.Core.Path.{sym}
use mathlib.Core.List.{List}
use Prim.Native.Nat.{ℕ, zero, suc, ◌≤◌, ◌^◌}
use native.Mathlib.Omega.{arith}
use lib.Dec.{ltb}
use lib.IntN.{pos, negsuc}
use lib.ListN.{length}
use lib.Seq.{length-take-le}
use mir.Syntax.{w64}
use mir.Val.{to_z, sel}
use Rattle.io.specs.Counts.{IsPrefixLen}
use Rattle.streams.specs.Reading.{said_by, InRoom}

-- no more than it was given room for
in_room : (b : Bool) (m n k : ℕ) → k ≤ n → InRoom (said_by (sel b (pos k) (negsuc m))) n
in_room false m n k h = tt
in_room true m n zero h = tt
in_room true m n (suc k) h = (omega arith, h)

pub moved : (n k : ℕ) → k ≤ n → InRoom (said_by (to_z w64 k)) n
moved n k h = in_room (ltb k (2 ^ 63)) _ n k h

pub counts : (k : ℕ) (buffer : List ℕ) → k ≤ length buffer → IsPrefixLen k buffer
counts k buffer h = (h, sym (length-take-le k buffer h))
