use borrow.Author.Rules.{rules}
use Rattle.format.specs.Pattern.{ternary}
use Rattle.patterns.proofs.ternary_at.Goals as goal

pub returns-in-true-true : goal.returns-in-true-true
unfolding ternary
returns-in-true-true c = search rules

pub returns-in-true-false : goal.returns-in-true-false
unfolding ternary
returns-in-true-false c = search rules

pub returns-in-false-default : goal.returns-in-false-default
unfolding ternary
returns-in-false-default c = search rules
