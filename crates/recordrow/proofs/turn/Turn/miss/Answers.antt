use borrow.Author.Tests.{eq-eqb, ne_eqb}
use Rattle.std.proofs.Common.{sym, ◌∙◌, arith}
use Rattle.widths.specs.Laws.Limits.{limits}
use Rattle.format.specs.Laws.NamedGroups.{miss_named}
use Rattle.format.specs.Record.{at}
use Rattle.recordrow.specs.Turn.{at_turn}
use Rattle.recordrow.proofs.Turns.{named}
use Rattle.recordrow.specs.Laws.RecordRows.{miss_rows, order_first, fields_first, formed}
use Rattle.recordrow.specs.Laws.Scan.{seen_miss}
use Rattle.recordrow.proofs.turn.Turn.miss.Goals as goal

pub returns-then-misplaced : goal.returns-then-misplaced
returns-then-misplaced c = miss_rows _ _ _ c.requires ∙ order_first _ _ c.args.self.now.known _ _ c.misplaced.ensures.is _ c.if-misplaced.true

pub returns-then-not-miss_good : goal.returns-then-not-miss_good
returns-then-not-miss_good c =
    let bad = sym (rw c.record-r.ensures.is at c.miss_good.ensures) ∙ c.if-not-miss_good.true in
    miss_rows _ _ _ c.requires ∙ fields_first _ _ c.args.self.now.known _ _ c.misplaced.ensures.is _ c.if-misplaced.false (omega (arith, c.requires)) bad

pub returns-then-from-self : goal.returns-then-from-self
returns-then-from-self c =
    let t = c.args.self.now in
    let known = t.known in
    let next = rw c.record-r.ensures.is at c.from.ensures in
    let good = sym (rw c.record-r.ensures.is at c.miss_good.ensures) ∙ c.if-not-miss_good.false in
    miss_rows _ _ _ c.requires
    ∙ formed _ _ known _ _ c.misplaced.ensures.is _ c.if-misplaced.false (omega (arith, c.requires)) good
    ∙ rw (← known.misses, ne_eqb (at (at_turn t) 1) t.seen.misses (λ q. c.if-from-self.true (next ∙ q)))

pub actions_there-requires : goal.actions_there-requires
actions_there-requires c =
    let l = limits _ (c.args.self.now.known.limits (c.misplaced.ensures.later c.if-misplaced.false)) in
    let good = sym (rw c.record-r.ensures.is at c.miss_good.ensures) ∙ c.if-not-miss_good.false in
    rw c.record-r.ensures.is (miss_named _ l _ c.requires good)

pub returns-then-not-actions_there : goal.returns-then-not-actions_there
returns-then-not-actions_there c =
    let t = c.args.self.now in
    let known = t.known in
    let next = rw c.record-r.ensures.is at c.from.ensures in
    let good = sym (rw c.record-r.ensures.is at c.miss_good.ensures) ∙ c.if-not-miss_good.false in
    let there = sym (rw c.record-r.ensures.is at c.actions_there.ensures _ (named t)) ∙ c.if-not-actions_there.true in
    miss_rows _ _ _ c.requires
    ∙ formed _ _ known _ _ c.misplaced.ensures.is _ c.if-misplaced.false (omega (arith, c.requires)) good
    ∙ rw (← known.misses, eq-eqb (at (at_turn t) 1) t.seen.misses (sym next ∙ c.if-from-self.false), there)

pub returns : goal.returns
returns c =
    let t = c.args.self.now in
    let known = t.known in
    let next = rw c.record-r.ensures.is at c.from.ensures in
    let good = sym (rw c.record-r.ensures.is at c.miss_good.ensures) ∙ c.if-not-miss_good.false in
    let there = sym (rw c.record-r.ensures.is at c.actions_there.ensures _ (named t)) ∙ c.if-not-actions_there.false in
    rw c.record-r.ensures.is (
      miss_rows _ _ _ c.requires
          ∙ formed _ _ known _ _ c.misplaced.ensures.is _ c.if-misplaced.false (omega (arith, c.requires)) good
          ∙ rw (← known.misses, eq-eqb (at (at_turn t) 1) t.seen.misses (sym next ∙ c.if-from-self.false), there),
      seen_miss _ _ known _ (c.misplaced.ensures.later c.if-misplaced.false) c.requires,
    )
