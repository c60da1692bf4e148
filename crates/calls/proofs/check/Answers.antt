use Rattle.std.proofs.lemmas.Result.{err_from_is_err_and}
use Rattle.book.specs.Laws.Refusals.{checks}
use Rattle.calls.proofs.Promises.{check_refused, check_judged}
use Rattle.calls.proofs.check.Goals as goal

pub returns-in_err-net : goal.returns-in_err-net
returns-in_err-net c =
    let a = c.args in
    let e = err_from_is_err_and c.from_residual.result c.from_residual.ensures.1 in
    rw (e.1, e.2) (check_refused a.store.now a.n a.work.now _ _ c.in_err-net.ensures)

pub judge-requires : goal.judge-requires
judge-requires c =
    let net = c.in_ok-net.net in
    let told = c.in_ok-net.ensures in
    let passed = rw (← told.1, ← told.2) at (checks c.args.store.now c.args.n _ told.0) in
    record { clean = record { room = net.stored.room; laid = net.stored.laid; passes = passed.file }; room = passed.enough }

-- What was judged is the network that was read: its store and its number of
-- records are those that the call was lent.
pub returns : goal.returns
returns c =
    let a = c.args in
    let read = c.in_ok-net.ensures in
    check_judged a.store.now a.n a.work.now read.0 _ _ (rw (read.1, read.2) at c.judge.ensures)
