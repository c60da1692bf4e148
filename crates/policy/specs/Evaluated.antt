-- What working out the nodes of a policy leaves. Its nodes are `count` records of a store, from number `start` on.
use Rattle.std.specs.Prelude.{Option, Some, None, ◌≡◌, Bool, true, List, [], ℕ, ◌+◌, ◌-◌, ◌*◌, ◌≤◌, ◌<◌, length, get_or, drop}
use Rattle.format.specs.Record.{Rec, Net, at, records, most_nodes}
use Rattle.format.specs.Policy.{node_kind, first_nodes, Formula, formula}
use Rattle.truth.specs.Truth.{Model, Truth}
use Rattle.forms.specs.declared.Form.{Form}
use Rattle.forms.specs.Forms.{Placed, Lies, Reached}
use Rattle.nodes.specs.Node.{plane_at, Operand, node_of, Needs, Sound, says, model_at, Shows, NodeMade}
use Rattle.nodes.specs.declared.node.Node.{Node}

-- the nodes of a policy
abbrev pub nodes_at : List ℕ → ℕ → ℕ → Net
nodes_at store start count = records count (drop (start * 24) store)

-- node j is an operand of the node that a record is
abbrev pub OperandOf : Rec → ℕ → Type 0
OperandOf r j = Operand (node_kind (at r 2)) (at r 3) (at r 4) j

-- the node in record i of a store
abbrev pub node_at : List ℕ → ℕ → Node
node_at store i = node_of (node_kind (get_or store (i * 24 + 2) 0)) (get_or store (i * 24 + 3) 0) (get_or store (i * 24 + 4) 0)

-- operands are earlier nodes, and BIT names a bit of a number
pub record SoundNodes (nodes : Net) : Type 0 where
  pub earlier : (i : ℕ) → i < length nodes → (j : ℕ) → OperandOf (get_or nodes i []) j → j < i
  pub bits : (i : ℕ) → i < length nodes → at (get_or nodes i []) 2 ≡ 0 → at (get_or nodes i []) 4 < 64

-- a policy of sound nodes stands in a store
pub record Standing (store : List ℕ) (start count : ℕ) : Type 0 where
  pub stored : (start + count) * 24 ≤ length store
  pub sound : SoundNodes (nodes_at store start count)
  pub few : count ≤ most_nodes

-- a node says what node k of a policy says, and is made of earlier nodes
pub record Planned (nodes : Net) (k : ℕ) (n : Node) : Type 0 where
  pub means : says n (first_nodes nodes k) ≡ formula nodes k
  pub earlier : (j : ℕ) → Needs n j → j < k
  pub sound : Sound n

-- node j is made
abbrev pub IsMade : List (Option Form) → ℕ → Type 0
IsMade forms j = (f : Form) × (get_or forms j None ≡ Some f)

-- the form of each node that is made is in its own plane or in the first two, and is the truth of its formula, in the model
-- that a buffer gives
abbrev pub Held : Net → ℕ → List ℕ → List ℕ → List (Option Form) → List ℕ → Type 0
Held nodes pitch ext model forms work =
    (j : ℕ) → j < length nodes → (f : Form) → get_or forms j None ≡ Some f → Placed pitch (plane_at pitch j) f × Shows (model_at pitch ext model) pitch f work (formula nodes j)

-- each form that is kept lies as that of its node does
abbrev pub AllLie : ℕ → List (Option Form) → Type 0
AllLie pitch forms = (j : ℕ) → (f : Form) → get_or forms j None ≡ Some f → Lies pitch (plane_at pitch j) f

-- a policy of sound nodes stands in a store, a work buffer has room for their planes, and its second plane is the closure of the
-- first if that is said
pub record PolicyReady (store : List ℕ) (start count pitch : ℕ) (closed : Bool) (work : List ℕ) : Type 0 where
  pub stored : (start + count) * 24 ≤ length store
  pub sound : SoundNodes (nodes_at store start count)
  pub few : count ≤ most_nodes
  pub small : pitch ≤ 128
  pub room : plane_at pitch count ≤ length work
  pub reached : closed ≡ true → Reached pitch work

-- node k is asked for, where the nodes that are made are held
pub record Asked (store : List ℕ) (start count : ℕ) (ext : List ℕ) (closed : Bool) (work : List ℕ) (pitch k : ℕ) (forms : List (Option Form)) : Type 0 where
  pub ready : PolicyReady store start count pitch closed work
  pub inside : k < count
  pub held : Held (nodes_at store start count) pitch ext work forms work

-- what is made stays made, and all of it is held, and lies as the forms of nodes do where what was made before does; the first two
-- planes and every byte behind the nodes' planes are as before
pub record Worked (nodes : Net) (pitch : ℕ) (ext : List ℕ) (forms : List (Option Form)) (before : List ℕ) (forms' : List (Option Form)) (after : List ℕ) : Type 0 where
  pub len : length after ≡ length before
  pub kept : (j : ℕ) → IsMade forms j → IsMade forms' j
  pub held : Held nodes pitch ext before forms' after
  pub lies : AllLie pitch forms → AllLie pitch forms'
  pub planes : (m : ℕ) → m < plane_at pitch 0 → get_or after m 0 ≡ get_or before m 0
  pub behind : (m : ℕ) → plane_at pitch (length nodes) ≤ m → get_or after m 0 ≡ get_or before m 0

-- and node k is made
pub record Given (nodes : Net) (pitch : ℕ) (ext : List ℕ) (k : ℕ) (forms : List (Option Form)) (before : List ℕ) (forms' : List (Option Form)) (after : List ℕ) : Type 0 where
  pub worked : Worked nodes pitch ext forms before forms' after
  pub made : IsMade forms' k

-- node k was made, and its form is kept; every other form is as before
pub record NodeSettled (forms : List (Option Form)) (n : Node) (k pitch : ℕ) (ext before : List ℕ) (forms' : List (Option Form)) (after : List ℕ) : Type 0 where
  pub form : Form
  pub kept : get_or forms' k None ≡ Some form
  pub made : NodeMade forms n k pitch ext before form after
  pub others : (j : ℕ) → (j ≡ k → ⊥) → get_or forms' j None ≡ get_or forms j None

-- the lowest number below n that passes, or none
abbrev pub LowestPassing : ℕ → (ℕ → Bool) → Option ℕ → Type 0
LowestPassing n g (Some x) = (x < n) × (g x ≡ true) × ((z : ℕ) → z < x → g z ≡ true → ⊥)
LowestPassing n g None = (z : ℕ) → z < n → g z ≡ true → ⊥

-- the lowest state with which, as X, a formula is true in a model, or none
abbrev pub LowestTrue : Model → Formula → Option ℕ → Type 0
LowestTrue m f (Some x) = (x < m.count) × Truth m f x 0 × ((z : ℕ) → z < x → Truth m f z 0 → ⊥)
LowestTrue m f None = (z : ℕ) → z < m.count → Truth m f z 0 → ⊥

-- the lowest state that breaks a policy, whose last node is the forbidden condition
pub record Tested (nodes : Net) (pitch : ℕ) (ext before : List ℕ) (r : Option ℕ) (after : List ℕ) : Type 0 where
  pub len : length after ≡ length before
  pub lowest : LowestTrue (model_at pitch ext before) (formula nodes (length nodes - 1)) r
  pub planes : (m : ℕ) → m < plane_at pitch 0 → get_or after m 0 ≡ get_or before m 0
  pub behind : (m : ℕ) → plane_at pitch (length nodes) ≤ m → get_or after m 0 ≡ get_or before m 0
