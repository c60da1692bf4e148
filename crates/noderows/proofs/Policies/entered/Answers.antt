use borrow.Author.Tests.{eq-eqb}
use Rattle.std.proofs.Common.{◌≡◌, true, ℕ, suc, eqb, sym, ◌∙◌}
use Rattle.std.proofs.Math.Bool.{or-true}
use Rattle.noderows.specs.Policies.{follows}
use Rattle.noderows.specs.Laws.Entered.{enter_new}
use Rattle.noderows.proofs.Policies.entered.Goals as goal

one_more : (p count : ℕ) → p ≡ count → follows p count ≡ true
one_more p count e = rw (eq-eqb p count e) (or-true (eqb (suc p) count))

pub returns-then-p-self : goal.returns-then-p-self
returns-then-p-self c before known =
    let e = sym c.from-p.ensures ∙ c.if-p-self.true in
    (one_more c.args.p _ (e ∙ known.count), enter_new before _ known _ e)
