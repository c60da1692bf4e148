use Rattle.std.proofs.Common.{arith}
use Rattle.words.specs.Laws.Digits.{word_is}
use Rattle.words.proofs.eight.Goals as goal

pub returns : goal.returns
returns c = word_is _ _ (λ j. omega (arith, c.type_inv.p j)) _ c.from_le_bytes.type_inv c.from_le_bytes.ensures
