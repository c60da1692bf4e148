use Rattle.std.proofs.Common.{sym, ◌∙◌}
use Rattle.widths.specs.Laws.Limits.{limits}
use Rattle.recordrow.specs.Laws.RecordRows.{group_rows}
use Rattle.recordrow.specs.Laws.Scan.{seen_group, misses_known}
use Rattle.recordrow.proofs.turn.Turn.group.Goals as goal

pub returns-then-misplaced : goal.returns-then-misplaced
returns-then-misplaced c = group_rows _ _ _ c.requires ∙ rw (sym c.misplaced.ensures.is ∙ c.if-misplaced.true)

pub incomplete-requires : goal.incomplete-requires
incomplete-requires c = (limits _ (c.args.self.now.known.limits (c.misplaced.ensures.later c.if-misplaced.false))).high_w

pub returns-then-incomplete : goal.returns-then-incomplete
returns-then-incomplete c =
    group_rows _ _ _ c.requires
    ∙ rw (sym c.misplaced.ensures.is ∙ c.if-misplaced.false, misses_known _ _ c.args.self.now.known ∙ sym c.incomplete.ensures ∙ c.if-incomplete.true)

pub returns-then-group_faulty : goal.returns-then-group_faulty
returns-then-group_faulty c =
    group_rows _ _ _ c.requires
    ∙ rw (
      sym c.misplaced.ensures.is ∙ c.if-misplaced.false,
      misses_known _ _ c.args.self.now.known ∙ sym c.incomplete.ensures ∙ c.if-incomplete.false,
      sym c.group_faulty.ensures.is ∙ c.if-group_faulty.true,
    )

pub returns : goal.returns
returns c =
    let t = c.args.self.now in
    rw c.record-r.ensures.is (
      group_rows _ _ _ c.requires
          ∙ rw (
            sym c.misplaced.ensures.is ∙ c.if-misplaced.false,
            misses_known _ _ t.known ∙ sym c.incomplete.ensures ∙ c.if-incomplete.false,
            sym c.group_faulty.ensures.is ∙ c.if-group_faulty.false,
          ),
      seen_group _ _ t.known _ (c.misplaced.ensures.later c.if-misplaced.false) _ c.requires (rw c.record-r.ensures.is at c.with_group.ensures _ t.known.groups),
    )
