-- Policies: the formula that a node record stands for, and its free variables.
use Rattle.std.specs.Prelude.{Bool, true, false, cond, not, ◌&&◌, ◌||◌, [], ◌∷◌, ℕ, zero, suc, ◌-◌, ◌/◌, ◌%◌, max, eqb, length, get_or}
use Rattle.basics.specs.Lists.{keep}
use Rattle.format.specs.Record.{Rec, Net, at, kind}
use Rattle.format.specs.declared.kinds.Var.{Var}
use Rattle.format.specs.declared.kinds.Var.TheVariants.{X, Y}
use Rattle.format.specs.declared.kinds.NodeKind.{NodeKind}
use Rattle.format.specs.declared.kinds.NodeKind.TheVariants.{Bit as k_bit, R as k_r, E as k_e, Not as k_not, And as k_and, Or as k_or, Some as k_some, All as k_all, Tc as k_tc, Unknown as k_none}

-- the policy logic; `absent` is no node, and false
pub data Formula : Type 0 where
  absent : Formula
  BIT : Var → ℕ → Formula
  R : Var → Var → Formula
  E : Var → Formula
  NOT : Formula → Formula
  AND OR : Formula → Formula → Formula
  SOME ALL : Formula → Var → Formula
  TC : Formula → Var → Var → Formula

-- the variable that a byte names
abbrev pub var_of : ℕ → Var
var_of zero = X
var_of (suc n) = Y

-- BIT is 0, R 1, E 2, NOT 3, AND 4, OR 5, SOME 6, ALL 7, TC 8
unfoldable pub node_kind : ℕ → NodeKind
node_kind k = get_or (k_bit ∷ k_r ∷ k_e ∷ k_not ∷ k_and ∷ k_or ∷ k_some ∷ k_all ∷ k_tc ∷ []) k k_none

-- what a node of a kind says by its bytes 3 and 4, an operand being a formula; TC's pairs are 0 (X,X), 1 (X,Y), 2 (Y,X), 3 (Y,Y)
unfoldable pub node_says : NodeKind → ℕ → ℕ → (ℕ → Formula) → Formula
node_says k_bit a b operand = BIT (var_of a) b
node_says k_r a b operand = R (var_of a) (var_of b)
node_says k_e a b operand = E (var_of a)
node_says k_not a b operand = NOT (operand a)
node_says k_and a b operand = AND (operand a) (operand b)
node_says k_or a b operand = OR (operand a) (operand b)
node_says k_some a b operand = SOME (operand a) (var_of b)
node_says k_all a b operand = ALL (operand a) (var_of b)
node_says k_tc a b operand = TC (operand a) (var_of (b / 2)) (var_of (b % 2))
node_says k_none a b operand = absent

-- the formula of a node's record over its operands
abbrev pub said : Rec → (ℕ → Formula) → Formula
said r operand = node_says (node_kind (at r 2)) (at r 3) (at r 4) operand

-- the formulas of the first k nodes of a policy; an operand is the number of an earlier node
unfoldable pub first_nodes : Net → ℕ → ℕ → Formula
first_nodes nodes zero j = absent
first_nodes nodes (suc k) j = elim (eqb j k) [ true ↦ said (get_or nodes k []) (first_nodes nodes k) | false ↦ first_nodes nodes k j ]

-- the formula that node i of a policy's nodes stands for
unfoldable pub formula : Net → ℕ → Formula
formula nodes i = said (get_or nodes i []) (first_nodes nodes i)

-- the nodes of policy p, numbered from 0
unfoldable pub nodes_of : ℕ → Net → Net
nodes_of p net = keep (λ r. eqb (kind r) 5 && eqb (at r 1) p) net

-- how many policies there are, numbered from 0 without gaps
unfoldable pub policy_count : Net → ℕ
policy_count [] = 0
policy_count (r ∷ rs) = let rest = policy_count rs in cond (eqb (kind r) 5) (max (suc (at r 1)) rest) rest

-- the forbidden condition of policy p: its last node
unfoldable pub forbidden : Net → ℕ → Formula
forbidden net p = let nodes = nodes_of p net in formula nodes (length nodes - 1)

-- the nodes of the longest of the first k policies
unfoldable pub longest_of : ℕ → Net → ℕ
longest_of zero net = 0
longest_of (suc p) net = max (length (nodes_of p net)) (longest_of p net)

-- the nodes of the longest policy, 0 if there is none
unfoldable pub longest : Net → ℕ
longest net = longest_of (policy_count net) net

-- two variables are one
abbrev pub same_var : Var → Var → Bool
same_var X X = true
same_var X Y = false
same_var Y X = false
same_var Y Y = true

-- a variable is free in a formula: SOME and ALL remove theirs, TC has exactly its pair
unfoldable pub free : Var → Formula → Bool
free v absent = false
free v (BIT u i) = same_var v u
free v (R t u) = same_var v t || same_var v u
free v (E u) = same_var v u
free v (NOT f) = free v f
free v (AND f g) = free v f || free v g
free v (OR f g) = free v f || free v g
free v (SOME f u) = free v f && not (same_var v u)
free v (ALL f u) = free v f && not (same_var v u)
free v (TC f t u) = same_var v t || same_var v u
