use Rattle.sinks.proofs.Blanks.{front_blank}
use Rattle.sinks.proofs.is_blank.Goals as goal

pub returns-in-Some : goal.returns-in-Some
returns-in-Some c = λ t. front_blank _ _ c.requires c.in-Some.ensures.cases (c.all_zero.ensures t)
