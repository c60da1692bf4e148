use Rattle.std.proofs.Common.{◌∙◌}
use Rattle.streams.specs.Laws.Decimal.{fewest_decimal}
use Rattle.streams.proofs.text.Line.number.Goals as goal

pub returns : goal.returns
returns c =
    let d = c.decimal-k in
    rw (← (d.ensures.digits ∙ fewest_decimal c.args.n d.result d.ensures.len)) c.text.ensures
