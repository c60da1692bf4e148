use Rattle.std.proofs.Common.{arith, ◌+◌, ◌*◌, ◌/◌}
use Rattle.words.specs.Laws.Seeking.{lacks_none, first_later, word_found, word_lacks}
use Rattle.words.proofs.States.by_words.Goals as goal

pub returns-then-self-k : goal.returns-then-self-k
returns-then-self-k c = lacks_none _ _ _ (omega arith)

pub returns-then-left-ne0 : goal.returns-then-left-ne0
returns-then-left-ne0 c = word_found _ _ _ c.eight.ensures _ c.lowest.ensures (omega arith)

pub returns : goal.returns
returns c = first_later _ _ ((c.args.self.now.next / 64 + 1) * 64) (omega arith) (word_lacks _ _ _ c.eight.ensures c.if-left-ne0.false) _ c.from_word.ensures
