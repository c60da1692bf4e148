-- `policy::planned` meets its contract.
use mathlib.Core.Path.{sym, ◌∙◌}
use native.Mathlib.Omega.{arith}
use Rattle.policy.specs.Laws.MadeNodes.{own_planned, upper, below, over_planned}
use Rattle.policy.proofs.planned.Goals as goal

pub returns-in_default : goal.returns-in_default
returns-in_default c = rw c.at-n.ensures (own_planned _ _ _ c.requires.standing _ c.requires.inside)

pub offset_bounds-forms-a : goal.offset_bounds-forms-a
offset_bounds-forms-a c =
    let R = c.requires.standing in
    let h = below _ _ _ R _ c.requires.inside _ _ (sym c.at-n.ensures ∙ c.in-Range.is) in
    omega (arith, h, c.requires.inside, R.few)

pub bounds-forms-a : goal.bounds-forms-a
bounds-forms-a c =
    let R = c.requires.standing in
    let h = below _ _ _ R _ c.requires.inside _ _ (sym c.at-n.ensures ∙ c.in-Range.is) in
    omega (arith, h, c.requires.inside, R.few)

pub returns-then-is_some : goal.returns-then-is_some
returns-then-is_some c = upper _ _ _ c.requires.standing _ c.requires.inside _ _ (sym c.at-n.ensures ∙ c.in-Range.is)

pub at-requires : goal.at-requires
at-requires c =
    let R = c.requires.standing in
    let h = below _ _ _ R _ c.requires.inside _ _ (sym c.at-n.ensures ∙ c.in-Range.is) in
    omega (arith, h, c.requires.inside, R.stored)

pub returns-in_default-at : goal.returns-in_default-at
returns-in_default-at c = upper _ _ _ c.requires.standing _ c.requires.inside _ _ (sym c.at-n.ensures ∙ c.in-Range.is)

pub returns : goal.returns
returns c =
    over_planned _ _ _ c.requires.standing _ c.requires.inside _ _ (sym c.at-n.ensures ∙ c.in-Range.is) _ _ _ (sym c.at.ensures ∙ c.in-Join.is)
