-- `narrow::word_if` meets its contract.
use mathlib.Core.Path.{sym, ap, ◌∙◌}
use mathlib.Core.Bool.{Bool, ◌&&◌}
use Rattle.basics.specs.Bit.{bit_of}
use Rattle.basics.specs.Laws.Bits.{bit-zero}
use Rattle.narrow.proofs.word_if.Goals as goal

pub returns-then-t : goal.returns-then-t
returns-then-t c = λ i. ap (λ (b : Bool). b && bit_of c.args.v i) (sym c.if-t.true)

pub returns-else-t : goal.returns-else-t
returns-else-t c = λ i. bit-zero i ∙ ap (λ (b : Bool). b && bit_of c.args.v i) (sym c.if-t.false)
