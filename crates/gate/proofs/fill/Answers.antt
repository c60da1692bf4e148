use native.Mathlib.Omega.{arith}
use borrow.Author.Rules.{rules}
use Rattle.gate.proofs.Moving.{counts}
use Rattle.gate.proofs.fill.Goals as goal

pub overflow_add-done : goal.overflow_add-done
overflow_add-done c =
    let m = rw c.in-Some.is at c.in_ok-k.ensures.in_room in
    record { fits = omega (arith, m.0, m.1) }

pub loop-done-smaller : goal.loop-done-smaller
loop-done-smaller c =
    let m = rw c.in-Some.is at c.in_ok-k.ensures.in_room in
    omega (arith, m.0, m.1)

pub loop-done-preserved : goal.loop-done-preserved
loop-done-preserved c =
    let m = rw c.in-Some.is at c.in_ok-k.ensures.in_room in
    (search rules, omega (arith, m.1))

pub returns : goal.returns
returns c = record { within = counts _ _ (omega arith); len = search rules }
