use native.Mathlib.Omega.{arith}
use Rattle.narrow.proofs.WordRounds.{spread_more}
use Rattle.narrow.proofs.round.Goals as goal

pub loop-x-preserved : goal.loop-x-preserved
loop-x-preserved c = spread_more _ _ _ _ _ c.loop-x.invariant (omega (arith, c.loop-x.invariant.len)) _ _ c.has.ensures c.word_if.ensures
