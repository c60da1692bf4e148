use native.Mathlib.Omega.{arith}
use borrow.Author.Tests.{eqb-true}
use Rattle.sinks.proofs.Blanks.{has_more, has_blank}
use Rattle.sinks.proofs.all_zero.Goals as goal

pub loop-b-preserved : goal.loop-b-preserved
loop-b-preserved c = has_more _ _ _ c.loop-b.invariant

pub returns : goal.returns
returns c = λ t. has_blank _ _ _ _ c.loop-b.invariant (omega arith) (eqb-true _ 0 t)
