use Rattle.recordrow.specs.Laws.Scan.{seen_none}
use Rattle.scan.proofs.start.Goals as goal

pub returns : goal.returns
returns c = seen_none
