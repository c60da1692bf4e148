use native.Mathlib.Omega.{arith}
use Rattle.trace.proofs.StepPlane.{line_in, line_is}
use Rattle.trace.proofs.Steps.before.Goals as goal

pub returns-clause-line : goal.returns-clause-line
returns-clause-line c =
    let s = c.args.self.now in
    line_is s.work.now _ _ s.pitch _ c.of.ensures.0 (omega (arith, line_in s.pitch c.args.x c.requires, s.searchable.room)) (λ y hy. s.searchable.turned _ y c.requires hy)
