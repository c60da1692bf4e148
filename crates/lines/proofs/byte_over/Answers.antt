-- `lines::byte_over` meets its contract.
use Rattle.lines.specs.Laws.Quantified.{byte_all, byte_some}
use Rattle.lines.proofs.byte_over.Goals as goal

pub returns-in-All : goal.returns-in-All
returns-in-All c = rw c.in-All.is (byte_all c.args.b c.ranges.b.fits)

pub returns-in-Any : goal.returns-in-Any
returns-in-Any c = rw c.in-Any.is (byte_some c.args.b c.ranges.b.fits)
