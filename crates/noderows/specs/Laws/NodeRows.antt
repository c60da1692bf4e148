-- Rows 9 and 10 of a policy node.
use Rattle.std.specs.Prelude.{◌≡◌, Bool, true, false, not, ◌&&◌, ◌||◌, leb, length}
use Rattle.std.proofs.Common.{◌∙◌}
use Rattle.std.proofs.Math.Bool.{or-true}
use Rattle.std.proofs.Math.Option.{some}
use Rattle.format.specs.Record.{Rec, Net, at, kind, most_policies, most_nodes}
use Rattle.format.specs.Policy.{nodes_of, policy_count}
use Rattle.refusals.specs.Rows.{row9, row10, operands_good, ends_policy, free_at}
use Rattle.refusals.specs.Refusal.{or_else, row}
use Rattle.noderows.specs.Policies.{node_row, follows}

abbrev pub node_fault : Net → Rec → Net → Bool
node_fault before r after =
    not (operands_good (at r 2) (at r 3) (at r 4) (length (nodes_of (at r 1) before)))
    || not (follows (at r 1) (policy_count before)) || (ends_policy r after && free_at before r)

module _ (before : Net) (r : Rec) (after : Net) where
  pub node_row-is : kind r ≡ 5
      → node_row before r after
      ≡ or_else (row (node_fault before r after) 9 (length before)) (row (leb most_policies (at r 1) || leb most_nodes (length (nodes_of (at r 1) before))) 10 (length before))
  unfolding node_row row9 row10
  node_row-is k = rw k

  -- row 9 of a node by each of its tests, and what is left to row 10
  module _ (k : kind r ≡ 5) where
    pub not_next : follows (at r 1) (policy_count before) ≡ false → node_row before r after ≡ some (9, length before)
    not_next e = node_row-is k ∙ simp (e, or-true)

    pub not_earlier : operands_good (at r 2) (at r 3) (at r 4) (length (nodes_of (at r 1) before)) ≡ false → node_row before r after ≡ some (9, length before)
    not_earlier e = node_row-is k ∙ rw e

    pub free_at_end : (ends_policy r after && free_at before r) ≡ true → node_row before r after ≡ some (9, length before)
    free_at_end e = node_row-is k ∙ simp (e, or-true)

    pub row_ten : follows (at r 1) (policy_count before) ≡ true → operands_good (at r 2) (at r 3) (at r 4) (length (nodes_of (at r 1) before)) ≡ true
        → (ends_policy r after && free_at before r) ≡ false
        → node_row before r after ≡ row (leb most_policies (at r 1) || leb most_nodes (length (nodes_of (at r 1) before))) 10 (length before)
    row_ten f o e = node_row-is k ∙ rw (o, f, e)
