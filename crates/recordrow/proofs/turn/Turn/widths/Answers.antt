use borrow.Author.Tests.{eq-eqb, ne_eqb}
use Rattle.std.proofs.Common.{◌≡◌, sym, ap, ◌∙◌, arith}
use Rattle.format.specs.Record.{Rec, kind}
use Rattle.widths.specs.Widths.{within_limits}
use Rattle.recordrow.specs.Laws.RecordRows.{widths_rows, widths_order, limits_row, fields_row}
use Rattle.recordrow.specs.Turn.{at_turn}
use Rattle.recordrow.specs.Laws.Scan.{seen_widths}
use Rattle.recordrow.proofs.turn.Turn.widths.Goals as goal

no_group : (r : Rec) → kind r ≡ 1 → kind r ≡ 9 → ⊥
no_group r k e = omega (arith, k, e)

pub returns-then-self-ne0 : goal.returns-then-self-ne0
returns-then-self-ne0 c =
    widths_rows _ _ _ c.requires ∙ rw (widths_order _ _ c.args.self.now.known _ c.requires, ne_eqb _ _ c.if-self-ne0.true)

pub returns-then-not-within_limits : goal.returns-then-not-within_limits
returns-then-not-within_limits c =
    let is = rw c.record-r.ensures.is at c.widths_at-widths.ensures in
    let bad = ap within_limits (sym is) ∙ sym c.within_limits.ensures ∙ c.if-not-within_limits.true in
    widths_rows _ _ _ c.requires
    ∙ rw (widths_order _ _ c.args.self.now.known _ c.requires, eq-eqb _ _ c.if-self-ne0.false, limits_row _ c.requires, bad)

pub returns-then-not-widths_record_good : goal.returns-then-not-widths_record_good
returns-then-not-widths_record_good c =
    let known = c.args.self.now.known in
    let is = rw c.record-r.ensures.is at c.widths_at-widths.ensures in
    let good = ap within_limits (sym is) ∙ sym c.within_limits.ensures ∙ c.if-not-within_limits.false in
    let bad = sym (rw c.record-r.ensures.is at c.widths_record_good.ensures c.args.self.now.seen.widths) ∙ c.if-not-widths_record_good.true in
    widths_rows _ _ _ c.requires
    ∙ rw (widths_order _ _ known _ c.requires, eq-eqb _ _ c.if-self-ne0.false, limits_row _ c.requires, good, fields_row _ _ known (at_turn c.args.self.now) (no_group (at_turn c.args.self.now) c.requires), bad)

pub returns : goal.returns
returns c =
    let known = c.args.self.now.known in
    let is = rw c.record-r.ensures.is at c.widths_at-widths.ensures in
    let limits = sym c.within_limits.ensures ∙ c.if-not-within_limits.false in
    let good = sym (rw c.record-r.ensures.is at c.widths_record_good.ensures c.args.self.now.seen.widths) ∙ c.if-not-widths_record_good.false in
    rw c.record-r.ensures.is (
      widths_rows _ _ _ c.requires
          ∙ rw (
            widths_order _ _ known _ c.requires,
            eq-eqb _ _ c.if-self-ne0.false,
            limits_row _ c.requires,
            ap within_limits (sym is) ∙ limits,
            fields_row _ _ known (at_turn c.args.self.now) (no_group (at_turn c.args.self.now) c.requires),
            good,
          ),
      seen_widths _ _ known _ _ c.requires c.if-self-ne0.false is limits,
    )
