-- What is made of a policy's node: its tests in the work buffer. The step plane comes first, then one for its closure, then a plane
-- for each node.
use Rattle.std.specs.Prelude.{Option, None, Some, unwrap_or, ◌≡◌, Bool, true, List, ◌↔◌, ◌⊎◌, ℕ, ◌+◌, ◌*◌, ◌/◌, ◌%◌, ◌≤◌, ◌<◌, length, get_or}
use Rattle.planes.specs.Plane.{bit, On, plane_size}
use Rattle.format.specs.Record.{most_nodes}
use Rattle.format.specs.Policy.{Formula, absent, BIT, R as r_of, E as e_of, NOT, AND, OR, SOME, ALL, TC, var_of}
use Rattle.format.specs.declared.kinds.NodeKind.{NodeKind}
use Rattle.format.specs.declared.kinds.NodeKind.TheVariants.{Bit as k_bit, R as k_r, E as k_e, Not as k_not, And as k_and, Or as k_or, Some as k_some, All as k_all, Tc as k_tc, Unknown as k_none}
use Rattle.format.specs.declared.kinds.Var.{Var}
use Rattle.truth.specs.Truth.{Model, Truth}
use Rattle.lines.specs.Shapes.{op_of, Outside}
use Rattle.lines.specs.declared.Op.{Op}
use Rattle.lines.specs.declared.Op.TheVariants.{Not, And, Or}
use Rattle.lines.specs.declared.Quantifier.TheVariants.{All, Any}
use Rattle.forms.specs.declared.Form.{Form}
use Rattle.forms.specs.declared.Form.TheVariants.{Both}
use Rattle.forms.specs.declared.Joined.{Joined}
use Rattle.forms.specs.declared.Site.{Site}
use Rattle.forms.specs.Forms.{tests, Placed, Lies, Reached}
use Rattle.nodes.specs.declared.node.Node.{Node}
use Rattle.nodes.specs.declared.node.Node.TheVariants.{Bit, R, E, Join, Range, Over, Tc, Absent}

-- where the plane of node k stands
abbrev pub plane_at : ℕ → ℕ → ℕ
plane_at pitch k = (k + 2) * plane_size pitch

-- the same, with the bytes of a line
abbrev pub site_of : ℕ → ℕ → Site
site_of k pitch = record { base = plane_at pitch k; pitch = pitch }

-- the number of operands of a node: byte 3, or bytes 3 and 4
abbrev pub arity : NodeKind → ℕ
arity k_bit = 0
arity k_r = 0
arity k_e = 0
arity k_not = 1
arity k_and = 2
arity k_or = 2
arity k_some = 1
arity k_all = 1
arity k_tc = 1
arity k_none = 0

-- node j is an operand of a node with bytes 3 and 4
abbrev pub Operand : NodeKind → ℕ → ℕ → ℕ → Type 0
Operand kind a b j = ((0 < arity kind) × (j ≡ a)) ⊎ ((1 < arity kind) × (j ≡ b))

-- the node of a kind, by bytes 3 and 4
abbrev pub node_of : NodeKind → ℕ → ℕ → Node
node_of k_bit a b = Bit (var_of a) b
node_of k_r a b = R (var_of a) (var_of b)
node_of k_e a b = E (var_of a)
node_of k_not a b = Join Not a a
node_of k_and a b = Join And a b
node_of k_or a b = Join Or a b
node_of k_some a b = Range (record { by = Any; over = var_of b }) a
node_of k_all a b = Range (record { by = All; over = var_of b }) a
node_of k_tc a b = Tc a (var_of (b / 2)) (var_of (b % 2))
node_of k_none a b = Absent

-- the nodes that a node is made of, a single one twice
abbrev pub operands : Node → Option (ℕ × ℕ)
operands (Bit v i) = None
operands (R u v) = None
operands (E v) = None
operands (Join t a b) = Some (a, b)
operands (Range r a) = Some (a, a)
operands (Over r t a b) = Some (a, b)
operands (Tc a u v) = Some (a, a)
operands Absent = None

-- node j is one of two
abbrev pub Among : Option (ℕ × ℕ) → ℕ → Type 0
Among None j = ⊥
Among (Some p) j = (j ≡ p.0) ⊎ (j ≡ p.1)

-- a node is made of node j
abbrev pub Needs : Node → ℕ → Type 0
Needs n j = Among (operands n) j

-- BIT names a bit of a number
abbrev pub Sound : Node → Type 0
Sound (Bit v i) = i < 64
Sound (R u v) = Unit {0}
Sound (E v) = Unit {0}
Sound (Join t a b) = Unit {0}
Sound (Range r a) = Unit {0}
Sound (Over r t a b) = Unit {0}
Sound (Tc a u v) = Unit {0}
Sound Absent = Unit {0}

-- NOT, AND and OR, by their operation
abbrev pub joins : Op → Formula → Formula → Formula
joins Not f g = NOT f
joins And f g = AND f g
joins Or f g = OR f g

-- ALL and SOME, by theirs
abbrev pub ranges : Op → Var → Formula → Formula
ranges Not v f = absent
ranges And v f = ALL f v
ranges Or v f = SOME f v

-- what a node says, an operand being a formula
abbrev pub says : Node → (ℕ → Formula) → Formula
says (Bit v i) operand = BIT v i
says (R u v) operand = r_of u v
says (E v) operand = e_of v
says (Join t a b) operand = joins t (operand a) (operand b)
says (Range r a) operand = ranges (op_of r.by) r.over (operand a)
says (Over r t a b) operand = ranges (op_of r.by) r.over (joins t (operand a) (operand b))
says (Tc a u v) operand = TC (operand a) u v
says Absent operand = absent

-- the form of node j, if it is made; else that of the steps
abbrev pub form_at : List (Option Form) → ℕ → Form
form_at forms j = unwrap_or (get_or forms j None) (Both 0)

-- an operation on the forms of two nodes
abbrev pub joined_at : List (Option Form) → Op → ℕ → ℕ → Joined
joined_at forms t a b = record { op = t; first = form_at forms a; second = form_at forms b }

-- the model that a work buffer and a line of external states give: steps are the first plane
abbrev pub model_at : ℕ → List ℕ → List ℕ → Model
model_at pitch ext work = record { count = pitch * 8; Steps = On work 0 pitch; External = λ s. bit ext s ≡ true }

-- the tests of a form are the truth of a formula
pub record Shows (m : Model) (pitch : ℕ) (form : Form) (work : List ℕ) (f : Formula) : Type 0 where
  pub at : (x y : ℕ) → x < pitch * 8 → y < pitch * 8 → tests form work pitch x y ≡ true ↔ Truth m f x y

-- there is room for the plane of node k, its operands are earlier nodes, whose forms are in their own planes or in the first two,
-- it is sound, and the second plane is the closure of the first if that is said
pub record Makeable (n : Node) (forms : List (Option Form)) (k pitch : ℕ) (closed : Bool) (work : List ℕ) : Type 0 where
  pub few : k < most_nodes
  pub small : pitch ≤ 128
  pub within : plane_at pitch k + plane_size pitch ≤ length work
  pub earlier : (j : ℕ) → Needs n j → j < k
  pub lies : (j : ℕ) → Needs n j → Placed pitch (plane_at pitch j) (form_at forms j)
  pub sound : Sound n
  pub reached : closed ≡ true → Reached pitch work

-- the form that is answered of node k is the truth of what it says, where the forms of its operands are the truth of theirs; it
-- lies in its own plane, or is one of the first two; every byte outside of the node's plane is as before
pub record NodeMade (forms : List (Option Form)) (n : Node) (k pitch : ℕ) (ext before : List ℕ) (f : Form) (after : List ℕ) : Type 0 where
  pub len : length after ≡ length before
  pub lies : Lies pitch (plane_at pitch k) f
  pub shows : (operand : ℕ → Formula)
      → ((j : ℕ) → Needs n j → Shows (model_at pitch ext before) pitch (form_at forms j) before (operand j))
      → Shows (model_at pitch ext before) pitch f after (says n operand)
  pub rest : (m : ℕ) → Outside pitch (plane_at pitch k) m → get_or after m 0 ≡ get_or before m 0
