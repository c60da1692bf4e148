use native.Mathlib.Omega.{arith}
use Rattle.choice.specs.Laws.Arriving.{frame-lt}
use Rattle.choice.proofs.rules.Rules.lead.Goals as goal

pub offset_bounds-self-arriving : goal.offset_bounds-self-arriving
offset_bounds-self-arriving c =
    let net = c.args.self.now.net in
    omega (arith, c.arriving.ensures, frame-lt net.layout.widths net.stored.laid.limits c.args.frame c.requires)

pub bounds-self-arriving : goal.bounds-self-arriving
bounds-self-arriving c =
    let net = c.args.self.now.net in
    omega (arith, c.arriving.ensures, frame-lt net.layout.widths net.stored.laid.limits c.args.frame c.requires)
