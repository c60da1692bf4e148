use native.Mathlib.Omega.{arith}
use Rattle.planes.specs.Laws.LaidBytes.{laid_none, laid_more, laid_all}
use Rattle.narrow.proofs.put_word.Goals as goal

pub loop-j-init : goal.loop-j-init
loop-j-init c = laid_none _ _ _

pub loop-j-preserved : goal.loop-j-preserved
loop-j-preserved c = laid_more _ _ _ _ _ _ c.loop-j.invariant c.loop-j-test.true c.requires.0 _ c.byte_of.ensures

pub returns : goal.returns
returns c = laid_all (omega arith, c.loop-j.invariant) c.loop-j-test.false
