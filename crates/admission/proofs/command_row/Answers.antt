use mathlib.Core.Bool.{false}
use mathlib.Core.Path.{◌≡◌, sym, subst, ◌∙◌}
use Rattle.format.specs.Record.{records}
use Rattle.widths.specs.Laws.Limits.{Limits, limits}
use Rattle.refusals.specs.Rows.{row12}
use Rattle.effect.specs.Laws.StoredRule.{command_named}
use Rattle.admission.proofs.command_row.Goals as goal

pub names_absent-requires : goal.names_absent-requires
names_absent-requires c =
    let table = c.args.table.now in
    let known = table.known in
    let now = records table.n table.store.now in
    let given = c.in-Ok.given.now in
    let faultless : row12 now given ≡ false = sym (c.is_faulty.ensures now known.widths) ∙ c.if-is_faulty.false in
    command_named now given (subst Limits known.widths (limits _ known.limits)) faultless
