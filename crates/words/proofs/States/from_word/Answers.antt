use Rattle.std.proofs.Common.{arith, ◌*◌}
use Rattle.words.specs.Laws.Seeking.{lacks_none, lacks_on, first_on, whole_lacks, whole_found}
use Rattle.words.proofs.States.from_word.Goals as goal

pub loop-i-init : goal.loop-i-init
loop-i-init c = lacks_none _ _ _ (omega arith)

pub returns-then-v-ne0 : goal.returns-then-v-ne0
returns-then-v-ne0 c =
    first_on _ _ (c.loop-i.i * 64) _ (omega arith) c.loop-i.invariant (whole_found _ _ _ c.eight-v.ensures _ c.lowest.ensures (omega arith))

pub loop-i-preserved : goal.loop-i-preserved
loop-i-preserved c = lacks_on _ _ (c.loop-i.i * 64) _ c.loop-i.invariant (whole_lacks _ _ _ c.eight-v.ensures c.if-v-ne0.false)
