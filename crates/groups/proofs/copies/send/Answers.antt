use Rattle.onestep.specs.Departing.{departing}
use Rattle.groups.specs.Laws.SentCopies.{has_byte, copy_added}
use Rattle.groups.proofs.copies.send.Goals as goal

pub set_at-requires : goal.set_at-requires
set_at-requires c =
    let a = c.args in
    rw c.number.ensures (has_byte a.w a.line a.sw a.q a.h a.work.now c.requires.0 c.requires.1)

pub returns : goal.returns
unfolding departing
returns c =
    let a = c.args in
    copy_added a.w a.line a.sw a.q a.h a.work.now c.requires.0 c.requires.1 _ (rw c.number.ensures at c.set_at.ensures)
