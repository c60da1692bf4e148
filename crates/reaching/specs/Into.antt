-- What closing a plane into another one leaves.
use Rattle.std.specs.Prelude.{◌≡◌, Bool, true, false, ◌&&◌, ◌||◌, List, ◌↔◌, ℕ, ◌+◌, ◌*◌, ◌<◌, ◌≤◌, leb, length, get_or}
use Rattle.planes.specs.Plane.{On, plane_size}
use Rattle.walks.specs.Walk.{Walk}
use Rattle.closure.specs.Closed.{lies_within}

-- the plane at to relates two states exactly if a walk over the plane that was at from leads from one to the other; all other bytes are as before
pub record ClosedInto (from to pitch : ℕ) (before after : List ℕ) : Type 0 where
  pub len : length after ≡ length before
  pub reaches : (x y : ℕ) → x < pitch * 8 → y < pitch * 8 → On after to pitch x y ↔ Walk (pitch * 8) (On before from pitch) x y
  pub under : (m : ℕ) → m < to → get_or after m 0 ≡ get_or before m 0
  pub over : (m : ℕ) → to + plane_size pitch ≤ m → get_or after m 0 ≡ get_or before m 0

-- whether two planes lie within a buffer of len bytes, in lines of at most 128, and share no byte
abbrev pub lie_apart : ℕ → ℕ → ℕ → ℕ → Bool
lie_apart len from to pitch =
    lies_within len from pitch && lies_within len to pitch && (leb (from + plane_size pitch) to || leb (to + plane_size pitch) from)

-- where they do, the plane at to becomes the closure of the plane at from, and the answer is true; else it is false, and every byte is as before
pub record ClosedApart (from to pitch : ℕ) (before : List ℕ) (answer : Bool) (after : List ℕ) : Type 0 where
  pub answer_is : answer ≡ lie_apart (length before) from to pitch
  pub closed : answer ≡ true → ClosedInto from to pitch before after
  pub left : answer ≡ false → after ≡ before
