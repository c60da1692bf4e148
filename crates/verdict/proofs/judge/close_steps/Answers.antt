-- `verdict::judge::close_steps` meets its contract.
use native.Mathlib.Omega.{arith}
use mathlib.Core.Path.{refl}
use mathlib.Core.Bool.{false≢true}
use mathlib.Core.Logic.{inl}
use Rattle.verdict.specs.Laws.JudgedWork.{steps_closed}
use Rattle.verdict.proofs.judge.close_steps.Goals as goal

pub close_into-requires : goal.close_into-requires
close_into-requires c =
    let P = c.requires in
    record { narrow = P.small; first = omega (arith, P.within); second = P.within; apart = inl (omega arith) }

pub returns-then-wanted : goal.returns-then-wanted
returns-then-wanted c = rw c.if-wanted.true (steps_closed _ _ _ c.close_into.ensures)

pub returns-else-wanted : goal.returns-else-wanted
returns-else-wanted c = rw c.if-wanted.false (record { len = refl; reached = λ t. absurd (false≢true t); rest = λ m o. refl })
