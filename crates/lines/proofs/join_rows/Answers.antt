-- `lines::join_rows` meets its contract.
use Prim.Native.Nat.{ℕ}
use borrow.Author.Rules.{rules}
use Rattle.lines.specs.Shapes.{op_byte}
use Rattle.lines.proofs.join_rows.Goals as goal

pub returns-in-Full-From : goal.returns-in-Full-From
returns-in-Full-From c =
    rw (c.in-Full-From.is-0, c.in-Full-From.is-1) (c.lay_from.ensures (λ (y : ℕ). op_byte c.args.r.op c.in-Full-From.c y) (λ x v p. search rules))

pub returns-in-From-Full : goal.returns-in-From-Full
returns-in-From-Full c =
    rw (c.in-From-Full.is-0, c.in-From-Full.is-1) (c.lay_from-in-From-Full.ensures (λ (x : ℕ). op_byte c.args.r.op x c.in-From-Full.d) (λ x v p. search rules))
