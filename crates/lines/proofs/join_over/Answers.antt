-- `lines::join_over` meets its contract.
use mathlib.Core.Path.{◌∙◌}
use Rattle.lines.specs.Laws.Quantified.{quantifies, bytes_same}
use Rattle.lines.proofs.join_over.Goals as goal

pub returns-in-Same : goal.returns-in-Same
returns-in-Same c =
    rw c.in-Same.is (c.byte_over.ensures ∙ bytes_same _ (quantifies c.args.q) _ _ c.requires.len_nonzero)
