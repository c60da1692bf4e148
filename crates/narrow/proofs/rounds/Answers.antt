use native.Mathlib.Omega.{arith}
use Rattle.narrow.proofs.WordRounds.{after_none, after_more, after_all}
use Rattle.narrow.proofs.rounds.Goals as goal

pub loop-k-init : goal.loop-k-init
loop-k-init c = after_none _ _

pub loop-k-preserved : goal.loop-k-preserved
loop-k-preserved c = after_more _ _ _ _ _ c.loop-k.invariant c.loop-k-test.true c.requires c.round.ensures

pub returns : goal.returns
returns c = after_all _ _ _ _ c.loop-k.invariant (omega arith)
