use borrow.Author.Tests.{le-leb, lt-leb}
use Rattle.std.proofs.Common.{◌≡◌, Bool, true, false, ◌&&◌, ◌||◌, ◌⊎◌, inl, inr, ℕ, ◌<◌, ◌≤◌, leb, length, sym, ap, ap₂, ◌∙◌}
use Rattle.std.proofs.Math.Path.{fun_ext}
use Rattle.std.proofs.Math.Bool.{and-false}
use Rattle.std.proofs.Math.Option.{some}
use Rattle.basics.specs.Bit.{bit_of}
use Rattle.format.specs.Record.{Rec, Net, at, kind}
use Rattle.format.specs.Policy.{node_kind, first_nodes, nodes_of, policy_count}
use Rattle.format.specs.declared.kinds.NodeKind.{NodeKind}
use Rattle.refusals.specs.Rows.{operands_earlier, operands_good, ends_policy, free_at}
use Rattle.refusals.specs.Refusal.{row}
use Rattle.noderows.specs.Policies.{follows, Entered, y_said, node_row}
use Rattle.noderows.specs.declared.Policies.{Policies}
use Rattle.noderows.specs.Laws.Formulas.{free_at_lem, y_said_lem}
use Rattle.noderows.specs.Laws.NodeRows.{not_next, not_earlier, free_at_end, row_ten}
use Rattle.noderows.proofs.add_node.Goals.{else-y-via-then-y+else-ends_policy, else-y-via-else-y, then-r-ge-MOST_POLICIES-via-then-r-ge-MOST_POLICIES, then-r-ge-MOST_POLICIES-via-else-r-ge-MOST_POLICIES+then-here-ge-MOST_NODES}
use Rattle.noderows.proofs.add_node.Goals as goal

-- the tests of the code, of a node whose policy was entered
module _ (before : Net) (r : Rec) (k : NodeKind) (is : k ≡ node_kind (at r 2)) (here : Policies) (entered : Entered before (at r 1) here) where
  operands : (b : Bool) → b ≡ operands_earlier k (at r 3) (at r 4) here.nodes → operands_good (at r 2) (at r 3) (at r 4) (length (nodes_of (at r 1) before)) ≡ b
  unfolding operands_good
  operands b e = ap₂ (λ (K : NodeKind) (n : ℕ). operands_earlier K (at r 3) (at r 4) n) (sym is) (sym entered.nodes) ∙ sym e

  y_free : (y : Bool) → y ≡ y_said k (at r 3) (at r 4) (bit_of here.free) → free_at before r ≡ y
  y_free y e =
      free_at_lem before r
      ∙ y_said_lem (node_kind (at r 2)) (at r 3) (at r 4) (first_nodes (nodes_of (at r 1) before) (length (nodes_of (at r 1) before)))
      ∙ ap₂ (λ (K : NodeKind) (f : ℕ → Bool). y_said K (at r 3) (at r 4) f) (sym is) (sym (fun_ext entered.marks))
      ∙ sym e

  ten : (after : Net) → kind r ≡ 5 → follows (at r 1) (policy_count before) ≡ true → true ≡ operands_earlier k (at r 3) (at r 4) here.nodes
      → (ends_policy r after && free_at before r) ≡ false → node_row before r after ≡ row (leb 8 (at r 1) || leb 32 here.nodes) 10 (length before)
  ten after node follow good e = row_ten before r after node follow (operands true good) e ∙ rw entered.nodes

-- no end of a policy at which Y is free: by either of the tests of the code
fine : (before : Net) (r s : Rec) (after : Net) (y : Bool) → r ≡ s → free_at before r ≡ y → (ends_policy s after ≡ false) ⊎ (y ≡ false) → (ends_policy r after && free_at before r) ≡ false
fine before r s after y is free (inl ends) = rw (is, ends)
fine before r s after y is free (inr none) = rw (free ∙ none) (and-false (ends_policy r after))

-- one policy or node too many
over : (p nodes place : ℕ) → (8 ≤ p) ⊎ ((p < 8) × (32 ≤ nodes)) → row (leb 8 p || leb 32 nodes) 10 place ≡ some (10, place)
over p nodes place (inl h) = rw (le-leb 8 p h)
over p nodes place (inr h) = rw (lt-leb 8 p h.0, le-leb 32 nodes h.1)

pub returns-in_default : goal.returns-in_default
returns-in_default c before known =
    let is = c.record-r.ensures.is in
    rw (← is) (not_next before _ _ (ap kind is ∙ c.requires) (c.in_default.ensures before known))

pub returns-then-not-operands_good : goal.returns-then-not-operands_good
returns-then-not-operands_good c before known =
    let is = c.record-r.ensures.is in
    let e = c.in-Some.ensures before known in
    let r = c.record-r.result.now in
    rw (← is) (not_earlier before r _ (ap kind is ∙ c.requires) (operands before r _ c.from-kind.ensures _ e.1 _ c.operands_good.ensures ∙ c.if-not-operands_good.true))

pub returns-then-ends_policy : goal.returns-then-ends_policy
returns-then-ends_policy c before known =
    let is = c.record-r.ensures.is in
    let e = c.in-Some.ensures before known in
    let r = c.record-r.result.now in
    let ends = sym c.ends_policy.ensures ∙ c.if-ends_policy.true in
    let y = y_free before r _ c.from-kind.ensures _ e.1 _ c.y_free-y.ensures ∙ c.if-y.true in
    rw (← is) (free_at_end before r _ (ap kind is ∙ c.requires) (rw (y, is, ends)))

pub returns-then-r-ge-MOST_POLICIES : goal.returns-then-r-ge-MOST_POLICIES
returns-then-r-ge-MOST_POLICIES c before known =
    let is = c.record-r.ensures.is in
    let e = c.in-Some.ensures before known in
    let r = c.record-r.result.now in
    let good = sym c.if-not-operands_good.false ∙ c.operands_good.ensures in
    let y = y_free before r _ c.from-kind.ensures _ e.1 _ c.y_free-y.ensures in
    let no_fault =
    fine before r _ _ _ is y (
    elim c.else-y.branch [
      | else-y-via-then-y+else-ends_policy w ↦ inl (sym w.ends_policy.ensures ∙ w.if-ends_policy.false)
      | else-y-via-else-y w ↦ inr w.if-y.false
    ]
    ) in
    let limit = ten before r _ c.from-kind.ensures _ e.1 _ (ap kind is ∙ c.requires) e.0 good no_fault in
    rw (← is) (limit ∙ over _ _ _ c.then-r-ge-MOST_POLICIES.either)

pub returns : goal.returns
returns c before known =
    let is = c.record-r.ensures.is in
    let e = c.in-Some.ensures before known in
    let r = c.record-r.result.now in
    let good = sym c.if-not-operands_good.false ∙ c.operands_good.ensures in
    let y = y_free before r _ c.from-kind.ensures _ e.1 _ c.y_free-y.ensures in
    let no_fault =
    fine before r _ _ _ is y (
    elim c.else-y.branch [
      | else-y-via-then-y+else-ends_policy w ↦ inl (sym w.ends_policy.ensures ∙ w.if-ends_policy.false)
      | else-y-via-else-y w ↦ inr w.if-y.false
    ]
    ) in
    let limit = ten before r _ c.from-kind.ensures _ e.1 _ (ap kind is ∙ c.requires) e.0 good no_fault in
    rw (← is) (
      limit ∙ rw (lt-leb 8 _ c.if-r-ge-MOST_POLICIES.false, lt-leb 32 _ c.if-here-ge-MOST_NODES.false),
      c.with_node.ensures before r (ap kind is ∙ c.requires) e.1 (sym y),
    )
