use mathlib.Core.Path.{sym, ◌∙◌}
use native.Mathlib.Omega.{arith}
use Rattle.widths.specs.Laws.Limits.{limits}
use Rattle.patterns.specs.Laws.Matched.{below_64}
use Rattle.choice.proofs.MatchedRules.{rank_by_sets}
use Rattle.choice.proofs.rank.Goals as goal

pub rank_for-requires : goal.rank_for-requires
rank_for-requires c =
    let w = c.args.w in
    let F = c.requires.frame_within in
    let l = limits w F.limits in
    (below_64 w.p c.args.frame.port (omega (arith, l)) F.port, below_64 w.h c.args.frame.header (omega (arith, l)) F.header)

pub returns : goal.returns
returns c =
    let a = c.args in
    let F = c.requires.frame_within in
    c.rank_for.ensures ∙ sym (rank_by_sets _ _ _ (c.ranked.ensures a.w c.requires.patterns) a.frame.switch a.frame.port a.frame.header F.port F.header)
