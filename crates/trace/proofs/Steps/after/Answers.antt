use native.Mathlib.Omega.{arith}
use Rattle.trace.proofs.StepPlane.{line_in, line_is, step_bit}
use Rattle.trace.proofs.Steps.after.Goals as goal

pub returns-clause-line : goal.returns-clause-line
returns-clause-line c =
    let s = c.args.self.now in
    line_is s.work.now _ _ s.pitch _ c.of.ensures.0 (omega (arith, line_in s.pitch c.args.x c.requires, s.searchable.room)) (λ y hy. step_bit _ _ _ _)
