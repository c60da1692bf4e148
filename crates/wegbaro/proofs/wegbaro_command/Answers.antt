use mathlib.Core.Path.{sym, ap, subst, ◌∙◌}
use Rattle.book.specs.Laws.Bounds.{CommandSmall, command_small}
use Rattle.codes.specs.Code.{command_code}
use Rattle.wegbaro.proofs.wegbaro_command.Goals as goal

pub command_code-requires : goal.command_code-requires
command_code-requires c =
    subst CommandSmall (sym c.command-a.ensures.answered) (command_small _ _ _)

pub returns : goal.returns
returns c =
    let done = c.command-a.ensures in
    record { answered = c.command_code.ensures ∙ ap command_code done.answered; stores = done.stores; works = done.works }
