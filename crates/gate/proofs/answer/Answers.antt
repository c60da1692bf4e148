use mathlib.Core.Path.{◌≡◌}
use lib.ListN.{length}
use Rattle.book.specs.Answer.{command_answer_of}
use Rattle.book.specs.Command.{call}
use Rattle.streams.specs.Output.{work_bytes}
use Rattle.streams.specs.Laws.Turns.{outcome_is}
use borrow.Author.Rules.{rules}
use Rattle.gate.proofs.answer.Goals as goal

pub returns : goal.returns
returns c =
    let a = c.args in
    let w : length a.work.now ≡ work_bytes = search rules in
    let done = c.command-answer in
    outcome_is (call a.store.now a.n a.work.now a.rec.now (command_answer_of done.result) done.new.store done.new.work) done.ensures w c.count_after-count.result c.count_after-count.ensures
