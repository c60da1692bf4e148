use Rattle.std.proofs.lemmas.Result.{err_from_is_err_and}
use Rattle.book.specs.Laws.Refusals.{checks}
use Rattle.calls.proofs.Promises.{refused_early, refused_late, no_row, command_refused}
use Rattle.calls.proofs.command.Goals as goal

pub returns-in_err-installed : goal.returns-in_err-installed
returns-in_err-installed c =
    let a = c.args in
    let e = err_from_is_err_and c.from_residual.result c.from_residual.ensures.1 in
    rw (e.1, e.2) (command_refused a.store.now a.n a.work.now a.given.now _ _ (refused_early a.store.now a.n _ a.given.now _ c.in_err-installed.ensures))

pub returns-in-Err : goal.returns-in-Err
returns-in-Err c =
    let a = c.args in
    let read = c.in_ok-installed.ensures in
    let table = c.of-table.ensures in
    let row = rw (table.0, table.1, read.1, read.2) at c.in-Err.ensures.row in
    command_refused a.store.now a.n a.work.now a.given.now _ _ (refused_late a.store.now a.n _ a.given.now _ read.0 row)

pub judged_in-requires : goal.judged_in-requires
judged_in-requires c =
    let a = c.args in
    let read = c.in_ok-installed.ensures in
    let table = c.of-table.ensures in
    let row = rw (table.0, table.1, read.1, read.2) at c.in-Ok.ensures.row in
    rw (read.1, read.2, c.in-Ok.ensures.passed) (no_row a.store.now a.n _ a.given.now read.0 row)

pub write_back-requires : goal.write_back-requires
write_back-requires c =
    let a = c.args in
    (checks a.store.now a.n _ c.in_ok-installed.ensures.0).arguments.long
