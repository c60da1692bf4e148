-- The forms in which the tests of a node stand in the work buffer, and what the functions on forms leave.
use Rattle.std.specs.Prelude.{◌≡◌, Bool, true, List, ◌↔◌, ◌⊎◌, ℕ, ◌+◌, ◌*◌, ◌<◌, length, get_or}
use Rattle.planes.specs.Plane.{bit, cell, On, plane_size}
use Rattle.format.specs.declared.kinds.Var.{Var}
use Rattle.format.specs.declared.kinds.Var.TheVariants.{X, Y}
use Rattle.walks.specs.Walk.{Walk}
use Rattle.truth.specs.Truth.{value, with_x, with_y}
use Rattle.lines.specs.Shapes.{op_bool, full_byte, over, Outside, Plane, Source}
use Rattle.lines.specs.declared.Op.{Op}
use Rattle.lines.specs.declared.Row.{Row}
use Rattle.lines.specs.declared.Rows.{Rows}
use Rattle.lines.specs.declared.Row.TheVariants.{Full, From}
use Rattle.forms.specs.declared.Form.{Form}
use Rattle.forms.specs.declared.Form.TheVariants.{OfX, OfY, Both, Turned}
use Rattle.forms.specs.declared.Joined.{Joined}
use Rattle.forms.specs.declared.Way.{Way}
use Rattle.forms.specs.declared.Way.TheVariants.{Over, Straight, Exchanged, FirstTurned, SecondTurned}

-- the test of a form with X = x, Y = y: a bit of a line over X, of a line over Y, of a plane, of a plane with X and Y exchanged
abbrev pub tests : Form → List ℕ → ℕ → ℕ → ℕ → Bool
tests (OfX at) bytes pitch x y = bit bytes (at * 8 + x)
tests (OfY at) bytes pitch x y = bit bytes (at * 8 + y)
tests (Both at) bytes pitch x y = cell bytes at pitch x y
tests (Turned at) bytes pitch x y = cell bytes at pitch y x

-- the byte at which a form starts
abbrev pub place : Form → ℕ
place (OfX at) = at
place (OfY at) = at
place (Both at) = at
place (Turned at) = at

-- the same tests with X and Y exchanged
abbrev pub turned : Form → Form
turned (OfX at) = OfY at
turned (OfY at) = OfX at
turned (Both at) = Turned at
turned (Turned at) = Both at

-- the line over a variable that starts at a byte
abbrev pub line_form : Var → ℕ → Form
line_form X at = OfX at
line_form Y at = OfY at

-- the other variable
abbrev pub other : Var → Var
other X = Y
other Y = X

-- a form starts where the plane at own does, the first plane, or the second
abbrev pub Placed : ℕ → ℕ → Form → Type 0
Placed pitch own f = (place f ≡ own) ⊎ ((place f ≡ 0) ⊎ (place f ≡ plane_size pitch))

-- the form of a node whose own plane starts at own lies there; only a plane may lie in the first plane, or in the second
abbrev pub Lies : ℕ → ℕ → Form → Type 0
Lies pitch own (OfX at) = at ≡ own
Lies pitch own (OfY at) = at ≡ own
Lies pitch own (Both at) = Placed pitch own (Both at)
Lies pitch own (Turned at) = Placed pitch own (Turned at)

-- a form does not stand exchanged, so that its lines are bytes of the buffer, or equal tests
abbrev pub Upright : Form → Type 0
Upright (OfX at) = Unit {0}
Upright (OfY at) = Unit {0}
Upright (Both at) = Unit {0}
Upright (Turned at) = ⊥

-- line x of such a form
abbrev pub row_of : Form → List ℕ → ℕ → ℕ → Row
row_of (OfX at) bytes pitch x = Full (full_byte (bit bytes (at * 8 + x)))
row_of (OfY at) bytes pitch x = From at
row_of (Both at) bytes pitch x = From (at + x * pitch)
row_of (Turned at) bytes pitch x = From at

-- the operation on line x of two such forms
abbrev pub rows_of : Joined → List ℕ → ℕ → ℕ → Rows
rows_of j bytes pitch x = record { op = j.op; first = row_of j.first bytes pitch x; second = row_of j.second bytes pitch x }

-- two forms are taken as lines over a variable only if both are, one is exchanged only if it stands exchanged, and then none does
abbrev pub Pairs : Form → Form → Way → Type 0
Pairs a b (Over v) = (a ≡ line_form v (place a)) × (b ≡ line_form v (place b))
Pairs a b Straight = Upright a × Upright b
Pairs a b Exchanged = Upright (turned a) × Upright (turned b)
Pairs a b FirstTurned = (a ≡ Turned (place a)) × Upright b
Pairs a b SecondTurned = (b ≡ Turned (place b)) × Upright a

-- one of two forms, the first or the second, is exchanged so
abbrev pub Mixed : Form → Form → Type 0
Mixed a b = Pairs a b FirstTurned ⊎ Pairs a b SecondTurned

-- a form is read while the plane at base is laid line by line: it shares no byte with it, or is the plane itself
abbrev pub Readable : List ℕ → ℕ → ℕ → Form → Type 0
Readable bytes pitch base f = Source bytes pitch base (place f) ⊎ (f ≡ Both base)

-- two forms lie within a buffer, and can be read line by line
pub record Paired (bytes : List ℕ) (pitch : ℕ) (j : Joined) : Type 0 where
  pub first : Plane bytes pitch (place j.first)
  pub second : Plane bytes pitch (place j.second)
  pub upright : Upright j.first × Upright j.second

-- two forms share no byte with the plane at base
pub record Sources (bytes : List ℕ) (pitch base : ℕ) (j : Joined) : Type 0 where
  pub first : Source bytes pitch base (place j.first)
  pub second : Source bytes pitch base (place j.second)

-- two forms can be read line by line while the plane at base is laid
pub record Joinable (bytes : List ℕ) (pitch base : ℕ) (j : Joined) : Type 0 where
  pub first : Readable bytes pitch base j.first
  pub second : Readable bytes pitch base j.second
  pub upright : Upright j.first × Upright j.second

-- the operation on two forms
abbrev pub joined : Joined → List ℕ → ℕ → ℕ → ℕ → Bool
joined j bytes pitch x y = op_bool j.op (tests j.first bytes pitch x y) (tests j.second bytes pitch x y)

-- the same with X and Y exchanged
abbrev pub turned_joined : Joined → Joined
turned_joined j = record { op = j.op; first = turned j.first; second = turned j.second }

-- the operation with the variable v running over every state, by another operation
abbrev pub ranged : Op → Var → Joined → List ℕ → ℕ → ℕ → ℕ → Bool
ranged o v j bytes pitch x y = over o (pitch * 8) (λ z. joined j bytes pitch (with_x v z x) (with_y v z y))

-- a form with the variables (u, v) for (X, Y)
abbrev pub arranged : Var → Var → Form → List ℕ → ℕ → ℕ → ℕ → Bool
arranged u v f bytes pitch x y = tests f bytes pitch (value u x y) (value v x y)

-- a form tests g; every byte outside of the plane at base is as before
pub record Stands (g : ℕ → ℕ → Bool) (f : Form) (pitch base : ℕ) (before after : List ℕ) : Type 0 where
  pub len : length after ≡ length before
  pub lies : Lies pitch base f
  pub here : (x y : ℕ) → x < pitch * 8 → y < pitch * 8 → tests f after pitch x y ≡ g x y
  pub rest : (m : ℕ) → Outside pitch base m → get_or after m 0 ≡ get_or before m 0

-- a form has the tests of f with the variables (u, v) for (X, Y), and lies as the form of a node does if f does; every byte outside
-- of the plane at base is as before
pub record Arranges (u v : Var) (f g : Form) (pitch base : ℕ) (before after : List ℕ) : Type 0 where
  pub len : length after ≡ length before
  pub placed : Placed pitch base g
  pub lies : Lies pitch base f → Lies pitch base g
  pub here : (x y : ℕ) → x < pitch * 8 → y < pitch * 8 → tests g after pitch x y ≡ arranged u v f before pitch x y
  pub rest : (m : ℕ) → Outside pitch base m → get_or after m 0 ≡ get_or before m 0

-- two forms have the tests of those of j, and can be read line by line; every byte outside of the plane at base is as before
pub record Straightened (j r : Joined) (pitch base : ℕ) (before after : List ℕ) : Type 0 where
  pub len : length after ≡ length before
  pub op : r.op ≡ j.op
  pub first : (x y : ℕ) → x < pitch * 8 → y < pitch * 8 → tests r.first after pitch x y ≡ tests j.first before pitch x y
  pub second : (x y : ℕ) → x < pitch * 8 → y < pitch * 8 → tests r.second after pitch x y ≡ tests j.second before pitch x y
  pub joinable : Joinable after pitch base r
  pub rest : (m : ℕ) → Outside pitch base m → get_or after m 0 ≡ get_or before m 0

-- the second plane is the closure of the first
abbrev pub Reached : ℕ → List ℕ → Type 0
Reached pitch bytes =
    (x y : ℕ) → x < pitch * 8 → y < pitch * 8 → On bytes (plane_size pitch) pitch x y ↔ Walk (pitch * 8) (On bytes 0 pitch) x y

-- a form g tests whether a walk over a form f leads from one value of a variable to that of another; every byte outside of the
-- plane at base is as before
pub record Reaches (u v : Var) (f g : Form) (pitch base : ℕ) (before after : List ℕ) : Type 0 where
  pub len : length after ≡ length before
  pub lies : Lies pitch base g
  pub here : (x y : ℕ) → x < pitch * 8 → y < pitch * 8
      → tests g after pitch x y ≡ true ↔ Walk (pitch * 8) (λ i j. tests f before pitch i j ≡ true) (value u x y) (value v x y)
  pub rest : (m : ℕ) → Outside pitch base m → get_or after m 0 ≡ get_or before m 0

-- the same from X to Y
abbrev pub Closes : Form → Form → ℕ → ℕ → List ℕ → List ℕ → Type 0
Closes f g pitch base before after = Reaches X Y f g pitch base before after
