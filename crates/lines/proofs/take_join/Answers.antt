-- `lines::take_join` meets its contract.
use Prim.Native.Nat.{ℕ}
use native.Mathlib.Nat.{zero-add}
use borrow.Author.Rules.{rules}
use Rattle.lines.specs.Shapes.{op_byte}
use Rattle.lines.proofs.take_join.Goals as goal

pub returns-in-Same : goal.returns-in-Same
returns-in-Same c = rw c.in-Same.is (simp zero-add at (c.lay_from.ensures (λ (x : ℕ). op_byte c.args.o x c.in-Same.c) (λ x v p. search rules)))
