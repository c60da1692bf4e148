use Rattle.std.proofs.Common.{sym, ◌∙◌}
use Rattle.refusals.specs.Refusal.{file_row}
use Rattle.recordrow.specs.Laws.Scan.{misses_known}
use Rattle.scan.specs.Laws.Layout.{counted}
use Rattle.scan.proofs.end.Goals as goal

pub returns-then-incomplete : goal.returns-then-incomplete
unfolding file_row
returns-then-incomplete c net known len = sym (rw (misses_known net _ known ∙ sym c.incomplete.ensures ∙ c.if-incomplete.true, len))

pub returns : goal.returns
unfolding file_row
returns c net known len = (rw (misses_known net _ known ∙ sym c.incomplete.ensures ∙ c.if-incomplete.false), counted net c.args.s c.args.n known len)
