use borrow.Author.Tests.{le-leb, lt-leb}
use Rattle.std.proofs.Common.{◌≡◌, true, false, not, ◌∷◌, ◌++◌, ◌^◌, leb, ltb, length, sym, ◌∙◌, arith, refl}
use Rattle.format.specs.Record.{kind, present}
use Rattle.format.specs.Fields.{fields_good}
use Rattle.format.specs.Group.{actions_there}
use Rattle.refusals.specs.Rows.{row3}
use Rattle.refusals.specs.Refusal.{or_else, row, record_row}
use Rattle.widths.specs.Laws.Limits.{limits}
use Rattle.format.specs.Laws.NamedGroups.{rule_named}
use Rattle.recordrow.specs.Laws.RecordRows.{rule_rows, order_first, fields_first, formed}
use Rattle.recordrow.specs.Laws.Scan.{seen_rule, misses_known}
use Rattle.recordrow.specs.Turn.{before_turn, at_turn, after_turn}
use Rattle.recordrow.specs.declared.turn.Turn.{Turn}
use Rattle.recordrow.proofs.Turns.{named}
use Rattle.recordrow.proofs.turn.Turn.rule.Goals as goal

-- past every row but 10 and 16
last-rows : (t : Turn) → kind (at_turn t) ≡ 4 → row3 (before_turn t) (at_turn t) ≡ false → fields_good t.seen.widths (at_turn t) ≡ true
    → ltb t.seen.misses (2 ^ t.seen.widths.w) ≡ false → present (at_turn t) (before_turn t) ≡ false
    → record_row (before_turn t) (at_turn t) (after_turn t)
    ≡ or_else (row (leb 256 t.seen.rules) 10 (length (before_turn t)))
    (row (not (actions_there (before_turn t ++ (at_turn t ∷ after_turn t)) (at_turn t))) 16 (length (before_turn t)))
last-rows t k placed good few new =
    rule_rows _ _ _ k
    ∙ formed _ _ t.known _ _ (sym placed) _ refl (omega (arith, k)) good
    ∙ rw (misses_known _ _ t.known ∙ few, new, ← t.known.rules)

pub returns-then-misplaced : goal.returns-then-misplaced
returns-then-misplaced c = (rule_rows _ _ _ c.requires.0 ∙ order_first _ _ c.args.self.now.known _ _ c.misplaced.ensures.is _ c.if-misplaced.true, tt)

pub returns-then-not-rule_good : goal.returns-then-not-rule_good
returns-then-not-rule_good c =
    let bad = sym (rw c.record-r.ensures.is at c.rule_good.ensures) ∙ c.if-not-rule_good.true in
    (rule_rows _ _ _ c.requires.0 ∙ fields_first _ _ c.args.self.now.known _ _ c.misplaced.ensures.is _ c.if-misplaced.false (omega (arith, c.requires.0)) bad, tt)

pub incomplete-requires : goal.incomplete-requires
incomplete-requires c = (limits _ (c.args.self.now.known.limits (c.misplaced.ensures.later c.if-misplaced.false))).high_w

pub returns-then-incomplete : goal.returns-then-incomplete
returns-then-incomplete c =
    let known = c.args.self.now.known in
    let good = sym (rw c.record-r.ensures.is at c.rule_good.ensures) ∙ c.if-not-rule_good.false in (
      rule_rows _ _ _ c.requires.0
          ∙ formed _ _ known _ _ c.misplaced.ensures.is _ c.if-misplaced.false (omega (arith, c.requires.0)) good
          ∙ rw (misses_known _ _ known ∙ sym c.incomplete.ensures ∙ c.if-incomplete.true),
      tt,
    )

pub returns-then-is_repeated : goal.returns-then-is_repeated
returns-then-is_repeated c =
    let known = c.args.self.now.known in
    let good = sym (rw c.record-r.ensures.is at c.rule_good.ensures) ∙ c.if-not-rule_good.false in
    let old = sym (rw c.record-r.ensures.is at c.is_repeated.ensures.0) ∙ c.if-is_repeated.true in (
      rule_rows _ _ _ c.requires.0
          ∙ formed _ _ known _ _ c.misplaced.ensures.is _ c.if-misplaced.false (omega (arith, c.requires.0)) good
          ∙ rw (misses_known _ _ known ∙ sym c.incomplete.ensures ∙ c.if-incomplete.false, old),
      tt,
    )

pub returns-then-self-ge-MOST_RULES : goal.returns-then-self-ge-MOST_RULES
returns-then-self-ge-MOST_RULES c =
    let t = c.args.self.now in
    let good = sym (rw c.record-r.ensures.is at c.rule_good.ensures) ∙ c.if-not-rule_good.false in
    let new = sym (rw c.record-r.ensures.is at c.is_repeated.ensures.0) ∙ c.if-is_repeated.false in
    (last-rows t c.requires.0 (sym c.misplaced.ensures.is ∙ c.if-misplaced.false) good (sym c.incomplete.ensures ∙ c.if-incomplete.false) new ∙ rw (le-leb 256 _ c.if-self-ge-MOST_RULES.true), tt)

pub actions_there-requires : goal.actions_there-requires
actions_there-requires c =
    let l = limits _ (c.args.self.now.known.limits (c.misplaced.ensures.later c.if-misplaced.false)) in
    let good = sym (rw c.record-r.ensures.is at c.rule_good.ensures) ∙ c.if-not-rule_good.false in
    rw c.record-r.ensures.is (rule_named _ l _ c.requires.0 good)

pub returns-then-not-actions_there : goal.returns-then-not-actions_there
returns-then-not-actions_there c =
    let t = c.args.self.now in
    let good = sym (rw c.record-r.ensures.is at c.rule_good.ensures) ∙ c.if-not-rule_good.false in
    let new = sym (rw c.record-r.ensures.is at c.is_repeated.ensures.0) ∙ c.if-is_repeated.false in
    let there = sym (rw c.record-r.ensures.is at c.actions_there.ensures _ (named t)) ∙ c.if-not-actions_there.true in
    (last-rows t c.requires.0 (sym c.misplaced.ensures.is ∙ c.if-misplaced.false) good (sym c.incomplete.ensures ∙ c.if-incomplete.false) new ∙ rw (lt-leb 256 _ c.if-self-ge-MOST_RULES.false, there), tt)

pub returns : goal.returns
returns c =
    let t = c.args.self.now in
    let good = sym (rw c.record-r.ensures.is at c.rule_good.ensures) ∙ c.if-not-rule_good.false in
    let new = sym (rw c.record-r.ensures.is at c.is_repeated.ensures.0) ∙ c.if-is_repeated.false in
    let there = sym (rw c.record-r.ensures.is at c.actions_there.ensures _ (named t)) ∙ c.if-not-actions_there.false in
    rw c.record-r.ensures.is (
      (
        last-rows t c.requires.0 (sym c.misplaced.ensures.is ∙ c.if-misplaced.false) good (sym c.incomplete.ensures ∙ c.if-incomplete.false) new ∙ rw (lt-leb 256 _ c.if-self-ge-MOST_RULES.false, there),
        seen_rule _ _ t.known _ (c.misplaced.ensures.later c.if-misplaced.false) c.requires.0,
      ),
      rw c.record-r.ensures.is at c.is_repeated.ensures.1,
    )
