use borrow.Author.Tests.{eq-eqb, ne_eqb}
use Rattle.std.proofs.Common.{sym, ◌∙◌}
use Rattle.recordrow.specs.Laws.RecordRows.{later_order}
use Rattle.recordrow.proofs.turn.Turn.misplaced.Goals as goal

pub returns-then-self-eq0-clause-is : goal.returns-then-self-eq0-clause-is
returns-then-self-eq0-clause-is c = sym (later_order _ _ c.args.self.now.known _ c.requires ∙ rw (eq-eqb _ _ c.if-self-eq0.true))

pub returns-else-self-eq0-clause-is : goal.returns-else-self-eq0-clause-is
returns-else-self-eq0-clause-is c = sym (later_order _ _ c.args.self.now.known _ c.requires ∙ rw (ne_eqb _ _ c.if-self-eq0.false, ← c.record.ensures.is))
