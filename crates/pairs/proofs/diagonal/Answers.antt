-- `pairs::diagonal` meets its contract.
use Rattle.lines.specs.Laws.LineBits.{upto_none}
use Rattle.pairs.proofs.diagonal.Goals as goal

pub loop-z-init : goal.loop-z-init
loop-z-init c = upto_none _
