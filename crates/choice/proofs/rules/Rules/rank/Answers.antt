use mathlib.Core.Path.{sym, ◌∙◌}
use native.Mathlib.Omega.{arith}
use Rattle.widths.specs.Laws.Limits.{limits}
use Rattle.patterns.specs.Laws.Matched.{below_64}
use Rattle.choice.proofs.MatchedRules.{rank_by_sets}
use Rattle.choice.proofs.rules.Rules.rank.Goals as goal

pub rank_for-requires : goal.rank_for-requires
rank_for-requires c =
    let net = c.args.self.now.net in
    let w = net.layout.widths in
    let l = limits w net.stored.laid.limits in
    let F = c.requires.frame_within in
    (below_64 w.p c.args.frame.port (omega (arith, l)) F.0, below_64 w.h c.args.frame.header (omega (arith, l)) F.1)

pub returns : goal.returns
returns c =
    let a = c.args in
    let F = c.requires.frame_within in
    c.rank_for.ensures ∙ sym (rank_by_sets _ _ _ (a.self.now.matched a.j c.requires.j_bound) a.frame.switch a.frame.port a.frame.header F.0 F.1)
