use Rattle.onestep.specs.Departing.{departing}
use Rattle.planes.specs.Laws.AddedBits.{added_none}
use Rattle.groups.specs.Laws.SentCopies.{except_same, except_other}
use Rattle.groups.proofs.copies.send_on.Goals as goal

pub returns-then-q-p : goal.returns-then-q-p
returns-then-q-p c = rw (except_other c.args.p c.args.q c.if-q-p.true) c.send.ensures

pub returns-else-q-p : goal.returns-else-q-p
unfolding departing
returns-else-q-p c = rw (except_same c.args.p c.args.q c.if-q-p.false) (added_none _ _ _)
