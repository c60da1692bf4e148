use mathlib.Core.Path.{◌≡◌}
use lib.ListN.{length}
use Rattle.streams.specs.Output.{work_bytes}
use Rattle.streams.specs.Laws.Turns.{check_is}
use borrow.Author.Rules.{rules}
use Rattle.gate.proofs.check.Goals as goal

pub returns : goal.returns
returns c =
    let a = c.args in
    let w : length a.work.now ≡ work_bytes = search rules in
    check_is c.check.ensures w
