-- What the functions on lines and planes leave. A line of 128 bytes tests each state below 1024; a plane of pitch * 8 states has pitch * 8 lines of pitch bytes.
use Rattle.std.specs.Prelude.{◌≡◌, Bool, true, false, not, ◌&&◌, ◌||◌, List, ◌⊎◌, ℕ, zero, suc, ◌+◌, ◌*◌, ◌/◌, ◌%◌, ◌^◌, ◌≤◌, ◌<◌, length, get_or}
use Rattle.std.specs.Int.Bits.{bit_and, bit_or, bit_xor}
use Rattle.basics.specs.Bit.{bit_of}
use Rattle.planes.specs.Plane.{bit, plane_size}
use Rattle.basics.specs.Below.{any_below, all_below}
use Rattle.lines.specs.declared.Op.{Op}
use Rattle.lines.specs.declared.Op.TheVariants.{Not, And, Or}
use Rattle.lines.specs.declared.Quantifier.{Quantifier}
use Rattle.lines.specs.declared.Quantifier.TheVariants.{All, Any}
use Rattle.lines.specs.declared.Row.{Row}
use Rattle.lines.specs.declared.Row.TheVariants.{Full, From}
use Rattle.lines.specs.declared.Pair.{Pair}
use Rattle.lines.specs.declared.Join.{Join}
use Rattle.lines.specs.declared.Join.TheVariants.{Same, Two}

-- an operation on tests; NOT is of the first
abbrev pub op_bool : Op → Bool → Bool → Bool
op_bool Not p q = not p
op_bool And p q = p && q
op_bool Or p q = p || q

-- the operation on the eight tests of a byte
abbrev pub op_byte : Op → ℕ → ℕ → ℕ
op_byte Not a b = bit_xor a 255
op_byte And a b = bit_and a b
op_byte Or a b = bit_or a b

-- the operation over the tests of the numbers below n: for all, for some
unfoldable pub over : Op → ℕ → (ℕ → Bool) → Bool
over Not n g = false
over And n g = all_below n g
over Or n g = any_below n g

-- the operations that are for all, and for some
abbrev pub Quantifies : Op → Type 0
Quantifies Not = ⊥
Quantifies And = Unit {0}
Quantifies Or = Unit {0}

-- the operation of what quantifies
abbrev pub op_of : Quantifier → Op
op_of All = And
op_of Any = Or

-- a byte of eight equal tests
abbrev pub full_byte : Bool → ℕ
full_byte true = 255
full_byte false = 0

-- what an operation gives of no test
abbrev pub unit : Op → Bool
unit Not = false
unit And = true
unit Or = false

-- the same, in each bit of a byte
abbrev pub unit_byte : Op → ℕ
unit_byte o = full_byte (unit o)

-- the weight of bit i where a test is true, else 0
abbrev pub weight_if : Bool → ℕ → ℕ
weight_if true i = 2 ^ i
weight_if false i = 0

-- byte j of the line that tests bit i: the tests of the numbers from j * 8 on
abbrev pub bit_byte : ℕ → ℕ → ℕ
bit_byte zero j = 170
bit_byte (suc zero) j = 204
bit_byte (suc (suc zero)) j = 240
bit_byte (suc (suc (suc i))) j = full_byte (bit_of j i)

-- the first n bits of a line are the tests f
pub record Line (f : ℕ → Bool) (n : ℕ) (line : List ℕ) : Type 0 where
  pub is : (y : ℕ) → y < n → bit line y ≡ f y

-- bit z is set where t is true; every other bit is as before
pub record Pushed (z : ℕ) (t : Bool) (before after : List ℕ) : Type 0 where
  pub here : bit after z ≡ (bit before z || t)
  pub others : (m : ℕ) → (m ≡ z → ⊥) → bit after m ≡ bit before m

-- there is a plane at byte base
pub record Plane (bytes : List ℕ) (pitch base : ℕ) : Type 0 where
  pub small : pitch ≤ 128
  pub within : base + plane_size pitch ≤ length bytes

-- there is a plane at byte a, and it shares no byte with the one at base
pub record Source (bytes : List ℕ) (pitch base a : ℕ) : Type 0 where
  pub within : a + plane_size pitch ≤ length bytes
  pub apart : (a + plane_size pitch ≤ base) ⊎ (base + plane_size pitch ≤ a)

-- there are len bytes at a, and each is read before it is written where the bytes from to on are laid one by one
pub record Span (bytes : List ℕ) (len to a : ℕ) : Type 0 where
  pub within : a + len ≤ length bytes
  pub ahead : (a + len ≤ to) ⊎ (to ≤ a)

-- byte j of a row
abbrev pub row_byte : Row → List ℕ → ℕ → ℕ
row_byte (Full c) bytes j = c
row_byte (From a) bytes j = get_or bytes (a + j) 0

-- the len bytes of a row can be read while those from to on are laid
abbrev pub Ready : List ℕ → ℕ → ℕ → Row → Type 0
Ready bytes len to (Full c) = Unit {0}
Ready bytes len to (From a) = Span bytes len to a

-- a row of one byte over and over has equal tests
abbrev pub Even : Row → Type 0
Even (Full c) = (s : Bool) × (c ≡ full_byte s)
Even (From a) = Unit {0}

-- the len bytes of a row are within a buffer of n bytes
abbrev pub RowWithin : ℕ → ℕ → Row → Type 0
RowWithin n len (Full c) = Unit {0}
RowWithin n len (From a) = a + len ≤ n

-- an operation on the bytes from two places on, and byte j of what it gives
abbrev pub pair : Op → ℕ → ℕ → Pair
pair t a b = record { op = t; first = a; second = b }

abbrev pub pair_byte : Pair → List ℕ → ℕ → ℕ
pair_byte s bytes j = op_byte s.op (get_or bytes (s.first + j) 0) (get_or bytes (s.second + j) 0)

-- and its test z
abbrev pub pair_bool : Pair → List ℕ → ℕ → Bool
pair_bool s bytes z = op_bool s.op (bit bytes (s.first * 8 + z)) (bit bytes (s.second * 8 + z))

-- byte j of a join
abbrev pub join_byte : Join → List ℕ → ℕ → ℕ
join_byte (Same c) bytes j = c
join_byte (Two s) bytes j = pair_byte s bytes j

-- its len bytes are made of bytes within a buffer of n bytes
abbrev pub JoinWithin : ℕ → ℕ → Join → Type 0
JoinWithin n len (Same c) = Unit {0}
JoinWithin n len (Two s) = (s.first + len ≤ n) × (s.second + len ≤ n)

-- a join is the operation on two rows, test by test
pub record Joins (t : Op) (p q : Row) (e : Join) : Type 0 where
  pub within : (n len : ℕ) → RowWithin n len p → RowWithin n len q → JoinWithin n len e
  pub is : (bytes : List ℕ) (j i : ℕ) → i < 8 → bit_of (join_byte e bytes j) i ≡ op_bool t (bit_of (row_byte p bytes j) i) (bit_of (row_byte q bytes j) i)

-- bit y of the bytes f 0, f 1, ..
abbrev pub bits_of : (ℕ → ℕ) → ℕ → Bool
bits_of f y = bit_of (f (y / 8)) (y % 8)

-- a join is a line of a plane, with the tests g
pub record LineIs (g : ℕ → Bool) (bytes : List ℕ) (pitch : ℕ) (e : Join) : Type 0 where
  pub within : JoinWithin (length bytes) pitch e
  pub is : (y : ℕ) → bits_of (join_byte e bytes) y ≡ g y

-- a byte lies outside of the plane at base
abbrev pub Outside : ℕ → ℕ → ℕ → Type 0
Outside pitch base m = (m < base) ⊎ (base + plane_size pitch ≤ m)

-- the first n bits of the line at base test g; every byte outside of the plane at base is as before
pub record Lined (g : ℕ → Bool) (n pitch base : ℕ) (before after : List ℕ) : Type 0 where
  pub len : length after ≡ length before
  pub here : (z : ℕ) → z < n → bit after (base * 8 + z) ≡ g z
  pub rest : (m : ℕ) → Outside pitch base m → get_or after m 0 ≡ get_or before m 0
