-- What is known of a network's policies as its records are read, and what a node meets.
use Rattle.std.specs.Prelude.{◌≡◌, Bool, false, not, ◌&&◌, ◌||◌, [], ◌∷◌, ◌++◌, ◌⊎◌, ℕ, suc, ◌-◌, ◌/◌, ◌%◌, eqb, length, Result, MatchResult}
use Rattle.std.proofs.Math.Option.{none, some}
use Rattle.basics.specs.Bit.{bit_of}
use Rattle.format.specs.Record.{Rec, Net}
use Rattle.format.specs.Policy.{first_nodes, nodes_of, policy_count, longest, free}
use Rattle.format.specs.declared.kinds.NodeKind.{NodeKind}
use Rattle.format.specs.declared.kinds.NodeKind.TheVariants.{Bit as k_bit, R as k_r, E as k_e, Not as k_not, And as k_and, Or as k_or, Some as k_some, All as k_all, Tc as k_tc, Unknown as k_none}
use Rattle.format.specs.declared.kinds.Var.TheVariants.{Y}
use Rattle.refusals.specs.Rows.{row9, row10}
use Rattle.refusals.specs.Numbers.{row_number}
use Rattle.refusals.specs.declared.Row.{Row}
use Rattle.refusals.specs.Refusal.{Refusal, or_else, row}
use Rattle.noderows.specs.declared.Policies.{Policies}

-- the bits of a mask are the nodes of a policy in which Y is free
abbrev pub Marks : Net → ℕ → Type 0
Marks nodes mask = (j : ℕ) → bit_of mask j ≡ free Y (first_nodes nodes (length nodes) j)

-- what is known of the policies of the records before
pub record PoliciesOf (before : Net) (s : Policies) : Type 0 where
  pub count : s.count ≡ policy_count before
  pub nodes : s.nodes ≡ length (nodes_of (s.count - 1) before)
  pub marks : Marks (nodes_of (s.count - 1) before) s.free
  pub longest : s.longest ≡ longest before

-- policy p is the last of so many, or one more
abbrev pub follows : ℕ → ℕ → Bool
follows p count = eqb (suc p) count || eqb p count

-- what is known of the policies as a node of policy p comes next
pub record Entered (before : Net) (p : ℕ) (s : Policies) : Type 0 where
  pub follow : (suc p ≡ policy_count before) ⊎ (p ≡ policy_count before)
  pub count : s.count ≡ suc p
  pub nodes : s.nodes ≡ length (nodes_of p before)
  pub marks : Marks (nodes_of p before) s.free
  pub longest : s.longest ≡ longest before

-- whether Y is free in a node of each kind, by whether it is in each of the nodes before
abbrev pub y_said : NodeKind → ℕ → ℕ → (ℕ → Bool) → Bool
y_said k_bit a b y = not (eqb a 0)
y_said k_r a b y = not (eqb a 0) || not (eqb b 0)
y_said k_e a b y = not (eqb a 0)
y_said k_not a b y = y a
y_said k_and a b y = y a || y b
y_said k_or a b y = y a || y b
y_said k_some a b y = eqb b 0 && y a
y_said k_all a b y = eqb b 0 && y a
y_said k_tc a b y = not (eqb (b / 2) 0) || not (eqb (b % 2) 0)
y_said k_none a b y = false

-- rows 9 and 10 of a node
unfoldable pub node_row : Net → Rec → Net → Refusal
node_row before r after = or_else (row (row9 before r after) 9 (length before)) (row (row10 before r) 10 (length before))

-- what adding a node answers: the lower of rows 9 and 10 that it meets, or what is known of the policies after it
abbrev pub NodeAnswered : Net → Rec → Net → Result Policies Row → Type 0
NodeAnswered before r after answer =
    MatchResult answer (λ s. (node_row before r after ≡ none) × PoliciesOf (before ++ (r ∷ [])) s) (λ k. node_row before r after ≡ some (row_number k, length before))
