-- Laws of the formulas of a policy's nodes: more nodes change none of them, and a mask keeps in which of them Y is free.
use Rattle.std.specs.Prelude.{◌≡◌, refl, Bool, true, not, cond, ◌&&◌, ◌||◌, ◌⊎◌, [], ◌∷◌, ◌++◌, ℕ, zero, suc, ◌/◌, ◌%◌, ◌^◌, ◌≤◌, ◌<◌, get_or}
use Rattle.std.proofs.Math.Path.{sym, ap, fun_ext}
use Rattle.std.proofs.Common.{ap₂, ◌∙◌, inl, inr, ⊎_elim, not-suc-le-zero, le_of_suc-le-suc, eq-or-lt_of_le, arith, length-append}
use Rattle.std.proofs.Math.Bool.{false, and-true, and-false, or-false}
use Rattle.std.specs.Int.Bits.{bit_or}
use Rattle.std.proofs.Math.Dec.{eqb, eqb-suc-zero}
use Rattle.std.proofs.Math.ListN.{length, get_or-append}
use Rattle.std.proofs.Math.Seq.{get_or-append_seam}
use borrow.Author.Tests.{eq-eqb, ne_eqb, eqb-true, eqb-false}
use Rattle.basics.specs.Bit.{bit_of}
use Rattle.basics.specs.Laws.Bits.{bit-zero, bit_or_lem, bit_power}
use Rattle.format.specs.Record.{Rec, Net, at}
use Rattle.format.specs.Policy.{Formula, absent, var_of, node_says, said, first_nodes, formula, nodes_of, same_var, free}
use Rattle.format.specs.declared.kinds.NodeKind.{NodeKind}
use Rattle.format.specs.declared.kinds.NodeKind.TheVariants.{Bit as k_bit, R as k_r, E as k_e, Not as k_not, And as k_and, Or as k_or, Some as k_some, All as k_all, Tc as k_tc, Unknown as k_none}
use Rattle.format.specs.declared.kinds.Var.TheVariants.{Y}
use Rattle.refusals.specs.Rows.{free_at}
use Rattle.noderows.specs.Policies.{Marks, y_said}

-- more nodes change none of the first k formulas
pub first_prefix : (nodes more : Net) (k : ℕ) → k ≤ length nodes → first_nodes (nodes ++ more) k ≡ first_nodes nodes k
unfolding first_nodes
first_prefix nodes more zero h = refl
first_prefix nodes more (suc k) h =
    fun_ext
    (λ j.
    ap₂ (λ (r : Rec) (f : ℕ → Formula). elim (eqb j k) [ true ↦ said r f | false ↦ f j ])
    (get_or-append nodes more [] k (omega arith)) (first_prefix nodes more k (omega arith)))

-- the formula of a node after the others
pub formula_last : (nodes : Net) (r : Rec) → formula (nodes ++ (r ∷ [])) (length nodes) ≡ said r (first_nodes nodes (length nodes))
unfolding formula
formula_last nodes r = ap₂ said (get_or-append_seam nodes r [] []) (first_prefix nodes (r ∷ []) (length nodes) (omega arith))

-- whether Y is free at a node, by the formulas before it
pub free_at_lem : (before : Net) (r : Rec)
    → free_at before r ≡ free Y (said r (first_nodes (nodes_of (at r 1) before) (length (nodes_of (at r 1) before))))
unfolding free_at
free_at_lem before r = ap (free Y) (formula_last (nodes_of (at r 1) before) r)

-- the last of the first suc k formulas, and the others
pub first_last : (nodes : Net) (k : ℕ) → first_nodes nodes (suc k) k ≡ said (get_or nodes k []) (first_nodes nodes k)
unfolding first_nodes
first_last nodes k = rw (eq-eqb k k refl, first_nodes)

pub first_other : (nodes : Net) (k j : ℕ) → (j ≡ k → ⊥) → first_nodes nodes (suc k) j ≡ first_nodes nodes k j
unfolding first_nodes
first_other nodes k j h = rw (ne_eqb j k h, first_nodes)

-- whether Y is free in a node, by its kind
y_named : (a : ℕ) → same_var Y (var_of a) ≡ not (eqb a 0)
y_named zero = refl
y_named (suc a) = ap not (sym (eqb-suc-zero a))

removed : (f b : Bool) → (f && not (not b)) ≡ (b && f)
removed true true = refl
removed true false = refl
removed false true = refl
removed false false = refl

pub y_said_lem : (k : NodeKind) (a b : ℕ) (operand : ℕ → Formula) → free Y (node_says k a b operand) ≡ y_said k a b (λ j. free Y (operand j))
unfolding node_says free
y_said_lem k_bit a b operand = y_named a
y_said_lem k_r a b operand = ap₂ ◌||◌ (y_named a) (y_named b)
y_said_lem k_e a b operand = y_named a
y_said_lem k_not a b operand = refl
y_said_lem k_and a b operand = refl
y_said_lem k_or a b operand = refl
y_said_lem k_some a b operand = rw (y_named b) (removed (free Y (operand a)) (eqb b 0))
y_said_lem k_all a b operand = rw (y_named b) (removed (free Y (operand a)) (eqb b 0))
y_said_lem k_tc a b operand = ap₂ ◌||◌ (y_named (b / 2)) (y_named (b % 2))
y_said_lem k_none a b operand = refl

-- no node stands at k or beyond among the first k
pub first_beyond : (nodes : Net) (k j : ℕ) → k ≤ j → first_nodes nodes k j ≡ absent
unfolding first_nodes
first_beyond nodes zero j h = refl
first_beyond nodes (suc k) j h = first_other nodes k j (λ q. omega arith) ∙ first_beyond nodes k j (omega arith)

-- a formula among the first k is the node's own
pub first_formula : (nodes : Net) (k j : ℕ) → j < k → first_nodes nodes k j ≡ formula nodes j
unfolding formula
first_formula nodes zero j h = absurd (not-suc-le-zero h)
first_formula nodes (suc k) j h =
    ⊎_elim
    (λ q. let e : k ≡ j = sym q in rw e (first_last nodes j))
    (λ l. first_other nodes k j (λ q. omega arith) ∙ first_formula nodes k j l)
    (eq-or-lt_of_le (le_of_suc-le-suc h))

pub marks_none : Marks [] 0
unfolding first_nodes free
marks_none j = bit-zero j

marked : (y : Bool) (mask n j : ℕ) → bit_of (cond y (bit_or mask (2 ^ n)) mask) j ≡ (bit_of mask j || (y && eqb j n))
marked true mask n j = bit_or_lem mask (2 ^ n) j ∙ ap (λ (b : Bool). bit_of mask j || b) (bit_power n j)
marked false mask n j = sym (or-false (bit_of mask j))

pub same_or_not : (a b : ℕ) → (a ≡ b) ⊎ (a ≡ b → ⊥)
same_or_not a b = go (eqb a b) refl
  where
    go : (t : Bool) → eqb a b ≡ t → (a ≡ b) ⊎ (a ≡ b → ⊥)
    go true e = inl (eqb-true a b e)
    go false e = inr (eqb-false a b e)

-- one node more, in which Y is free or not
module _ (nodes : Net) (mask : ℕ) (r : Rec) (y : Bool) (m : Marks nodes mask) (e : y ≡ free Y (said r (first_nodes nodes (length nodes)))) where
  mark_here : bit_of (cond y (bit_or mask (2 ^ length nodes)) mask) (length nodes) ≡ free Y (first_nodes (nodes ++ (r ∷ [])) (suc (length nodes)) (length nodes))
  unfolding free
  mark_here =
      let n = length nodes in
      let z : bit_of mask n ≡ false = m n ∙ ap (free Y) (first_beyond nodes n n (omega arith)) in
      let t : (bit_of mask n || (y && eqb n n)) ≡ y = rw (z, eq-eqb n n refl) (and-true y) in
      marked y mask n n ∙ t ∙ e ∙ ap (free Y) (sym (formula_last nodes r) ∙ sym (first_formula (nodes ++ (r ∷ [])) (suc n) n (omega arith)))

  mark_there : (j : ℕ) → (j ≡ length nodes → ⊥)
      → bit_of (cond y (bit_or mask (2 ^ length nodes)) mask) j ≡ free Y (first_nodes (nodes ++ (r ∷ [])) (suc (length nodes)) j)
  mark_there j q =
      let n = length nodes in
      let t : (bit_of mask j || (y && eqb j n)) ≡ bit_of mask j = rw (ne_eqb j n q, and-false y) (or-false (bit_of mask j)) in
      let s : first_nodes (nodes ++ (r ∷ [])) (suc n) j ≡ first_nodes nodes n j =
      first_other (nodes ++ (r ∷ [])) n j q ∙ ap (λ (f : ℕ → Formula). f j) (first_prefix nodes (r ∷ []) n (omega arith)) in
      marked y mask n j ∙ t ∙ m j ∙ ap (free Y) (sym s)

  pub marks_more : Marks (nodes ++ (r ∷ [])) (cond y (bit_or mask (2 ^ length nodes)) mask)
  marks_more j =
      let l : length (nodes ++ (r ∷ [])) ≡ suc (length nodes) = length-append nodes (r ∷ []) ∙ omega arith in
      rw l (⊎_elim (λ q. let t : j ≡ length nodes = q in rw t mark_here) (λ q. mark_there j q) (same_or_not j (length nodes)))
