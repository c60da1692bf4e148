use Rattle.std.proofs.lemmas.Bool.{ne_eqb}
use Rattle.sinks.specs.Laws.Turning.{met_no_line}
use Rattle.reaching.proofs.by_search.Goals as goal

pub returns-else-pitch-eq0 : goal.returns-else-pitch-eq0
returns-else-pitch-eq0 c = rw (ne_eqb _ _ c.if-pitch-eq0.false) (met_no_line _ _ _)
