-- `quantify::gather_y` meets its contract.
use Rattle.lines.specs.Laws.LineBits.{upto_none}
use Rattle.quantify.proofs.gather_y.Goals as goal

pub loop-x-init : goal.loop-x-init
loop-x-init c = upto_none _
