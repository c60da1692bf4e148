-- `reaching::lowest` meets its contract.
use native.Mathlib.Omega.{arith}
use lib.Count.{trailing_le}
use Rattle.words.specs.Laws.Digits.{lowest_is}
use Rattle.words.proofs.lowest.Goals as goal

pub overflow_cast-result : goal.overflow_cast-result
overflow_cast-result c = omega (arith, trailing_le 64 c.args.v)

pub returns : goal.returns
returns c = lowest_is _ c.requires (omega arith)
