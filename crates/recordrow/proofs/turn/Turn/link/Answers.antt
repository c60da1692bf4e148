use Rattle.std.proofs.Common.{sym, ◌∙◌, arith}
use Rattle.widths.specs.Laws.Limits.{limits}
use Rattle.rows.specs.Laws.Noted.{ends_named}
use Rattle.recordrow.specs.Laws.RecordRows.{link_rows, order_first, fields_first, formed}
use Rattle.recordrow.specs.Laws.Scan.{seen_link, few_links}
use Rattle.recordrow.proofs.turn.Turn.link.Goals as goal

pub returns-then-misplaced : goal.returns-then-misplaced
returns-then-misplaced c = (link_rows _ _ _ c.requires.0 ∙ order_first _ _ c.args.self.now.known _ _ c.misplaced.ensures.is _ c.if-misplaced.true, tt)

pub returns-then-not-link_good : goal.returns-then-not-link_good
returns-then-not-link_good c =
    let bad = sym (rw c.record-r.ensures.is at c.link_good.ensures) ∙ c.if-not-link_good.true in
    (link_rows _ _ _ c.requires.0 ∙ fields_first _ _ c.args.self.now.known _ _ c.misplaced.ensures.is _ c.if-misplaced.false (omega (arith, c.requires.0)) bad, tt)

pub is_misplaced-requires : goal.is_misplaced-requires
is_misplaced-requires c =
    let l = limits _ (c.args.self.now.known.limits (c.misplaced.ensures.later c.if-misplaced.false)) in
    let good = sym (rw c.record-r.ensures.is at c.link_good.ensures) ∙ c.if-not-link_good.false in
    rw c.record-r.ensures.is (c.requires.0, ends_named _ l _ c.requires.0 good, l.high_p)

pub returns-then-is_misplaced : goal.returns-then-is_misplaced
returns-then-is_misplaced c =
    let known = c.args.self.now.known in
    let good = sym (rw c.record-r.ensures.is at c.link_good.ensures) ∙ c.if-not-link_good.false in
    let met = sym (rw c.record-r.ensures.is at c.is_misplaced.ensures _ known.widths c.requires.1) ∙ c.if-is_misplaced.true in (
      link_rows _ _ _ c.requires.0
          ∙ formed _ _ known _ _ c.misplaced.ensures.is _ c.if-misplaced.false (omega (arith, c.requires.0)) good
          ∙ rw met,
      tt,
    )

pub note_ends-requires : goal.note_ends-requires
note_ends-requires c =
    let l = limits _ (c.args.self.now.known.limits (c.misplaced.ensures.later c.if-misplaced.false)) in
    let good = sym (rw c.record-r.ensures.is at c.link_good.ensures) ∙ c.if-not-link_good.false in
    rw c.record-r.ensures.is (c.requires.0, ends_named _ l _ c.requires.0 good)

pub overflow_add-result : goal.overflow_add-result
overflow_add-result c =
    let t = c.args.self.now in
    record { fits = omega (arith, few_links _ _ _ t.known, t.at.within, c.record-r.ensures.fits) }

pub returns : goal.returns
returns c =
    let known = c.args.self.now.known in
    let good = sym (rw c.record-r.ensures.is at c.link_good.ensures) ∙ c.if-not-link_good.false in
    let met = sym (rw c.record-r.ensures.is at c.is_misplaced.ensures _ known.widths c.requires.1) ∙ c.if-is_misplaced.false in
    rw c.record-r.ensures.is (
      (
        link_rows _ _ _ c.requires.0
            ∙ formed _ _ known _ _ c.misplaced.ensures.is _ c.if-misplaced.false (omega (arith, c.requires.0)) good
            ∙ rw met,
        seen_link _ _ known _ (c.misplaced.ensures.later c.if-misplaced.false) c.requires.0,
      ),
      rw c.record-r.ensures.is at c.note_ends.ensures _ c.requires.1,
    )
