use mathlib.Core.Path.{sym, ap, subst, ◌∙◌}
use Rattle.book.specs.Laws.Bounds.{CheckSmall, check_small}
use Rattle.codes.specs.Code.{check_code}
use Rattle.wegbaro.proofs.wegbaro_check.Goals as goal

pub check_code-requires : goal.check_code-requires
check_code-requires c =
    let a = c.args in
    subst CheckSmall (sym c.check-a.ensures.answered) (check_small a.store.now a.n _)

pub returns : goal.returns
returns c =
    record { answered = c.check_code.ensures ∙ ap check_code c.check-a.ensures.answered; works = c.check-a.ensures.works }
