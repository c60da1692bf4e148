-- `planes::get_at` meets its contract.
use mathlib.Core.Path.{sym, ap, ◌∙◌}
use Prim.Native.Nat.{ℕ, ◌%◌}
use Rattle.basics.specs.Bit.{bit_of}
use Rattle.planes.specs.Laws.Places.{bit_at}
use Rattle.planes.proofs.get_at.Goals as goal

pub returns : goal.returns
returns c = c.bit_of.ensures ∙ ap (λ (v : ℕ). bit_of v (c.args.n % 8)) c.from.ensures ∙ sym (bit_at _ _ _)
