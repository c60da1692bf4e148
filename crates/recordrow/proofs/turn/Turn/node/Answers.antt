use Rattle.std.proofs.Common.{sym, ◌∙◌, arith}
use Rattle.std.proofs.lemmas.Result.{err_from_is_err_and}
use Rattle.widths.specs.Laws.Limits.{limits}
use Rattle.recordrow.specs.Laws.RecordRows.{node_rows, order_first, fields_first, formed}
use Rattle.recordrow.specs.Laws.Scan.{seen_node, misses_known}
use Rattle.recordrow.proofs.turn.Turn.node.Goals as goal

pub returns-then-misplaced : goal.returns-then-misplaced
returns-then-misplaced c = node_rows _ _ _ c.requires ∙ order_first _ _ c.args.self.now.known _ _ c.misplaced.ensures.is _ c.if-misplaced.true

pub returns-then-not-policy_node_good : goal.returns-then-not-policy_node_good
returns-then-not-policy_node_good c =
    let bad = sym (rw c.record-r.ensures.is at c.policy_node_good.ensures) ∙ c.if-not-policy_node_good.true in
    node_rows _ _ _ c.requires
    ∙ fields_first _ _ c.args.self.now.known _ _ c.misplaced.ensures.is _ c.if-misplaced.false (omega (arith, c.requires)) bad

pub incomplete-requires : goal.incomplete-requires
incomplete-requires c = (limits _ (c.args.self.now.known.limits (c.misplaced.ensures.later c.if-misplaced.false))).high_w

pub returns-then-incomplete : goal.returns-then-incomplete
returns-then-incomplete c =
    let known = c.args.self.now.known in
    let good = sym (rw c.record-r.ensures.is at c.policy_node_good.ensures) ∙ c.if-not-policy_node_good.false in
    node_rows _ _ _ c.requires
    ∙ formed _ _ known _ _ c.misplaced.ensures.is _ c.if-misplaced.false (omega (arith, c.requires)) good
    ∙ rw (misses_known _ _ known ∙ sym c.incomplete.ensures ∙ c.if-incomplete.true)

pub returns-in_err-policies : goal.returns-in_err-policies
returns-in_err-policies c =
    let known = c.args.self.now.known in
    let good = sym (rw c.record-r.ensures.is at c.policy_node_good.ensures) ∙ c.if-not-policy_node_good.false in
    let e = err_from_is_err_and c.from_residual.result c.from_residual.ensures.1 in
    let added = c.in_err-policies.ensures _ known.policies in
    rw (e.1, e.2) (
    node_rows _ _ _ c.requires
    ∙ formed _ _ known _ _ c.misplaced.ensures.is _ c.if-misplaced.false (omega (arith, c.requires)) good
    ∙ rw (misses_known _ _ known ∙ sym c.incomplete.ensures ∙ c.if-incomplete.false) added
    )

pub returns : goal.returns
returns c =
    let known = c.args.self.now.known in
    let good = sym (rw c.record-r.ensures.is at c.policy_node_good.ensures) ∙ c.if-not-policy_node_good.false in
    let added = c.in_ok-policies.ensures _ known.policies in
    rw c.record-r.ensures.is (
      node_rows _ _ _ c.requires
          ∙ formed _ _ known _ _ c.misplaced.ensures.is _ c.if-misplaced.false (omega (arith, c.requires)) good
          ∙ rw (misses_known _ _ known ∙ sym c.incomplete.ensures ∙ c.if-incomplete.false) added.0,
      seen_node _ _ known _ (c.misplaced.ensures.later c.if-misplaced.false) _ c.requires added.1,
    )
