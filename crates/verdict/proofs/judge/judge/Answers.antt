-- `verdict::judge::judge` meets its contract.
use mathlib.Core.Path.{refl}
use native.Mathlib.Omega.{arith}
use Rattle.widths.specs.Laws.Limits.{limits}
use Rattle.format.specs.Laws.States.{few_states}
use Rattle.verdict.specs.Laws.JudgedWork.{enough, step_room, second_plane, search_ready, judged}
use Rattle.verdict.proofs.judge.judge.Goals as goal

pub states-states-requires : goal.states-states-requires
states-states-requires c = (limits _ c.args.net.now.stored.laid.limits).bits

pub externals-external-requires : goal.externals-external-requires
externals-external-requires c = omega (arith, c.states-states.ensures, few_states _ c.args.net.now.stored.laid.limits)

pub fill_steps-requires : goal.fill_steps-requires
fill_steps-requires c = omega (arith, step_room _ _ _ _ c.requires)

pub close_steps-closed-requires : goal.close_steps-closed-requires
close_steps-closed-requires c =
    second_plane _ _ _ _ c.requires _ c.states-states.ensures _ c.fill_steps.ensures.len

pub search-found-requires : goal.search-found-requires
search-found-requires c =
    search_ready _ _ _ _ c.requires _ c.states-states.ensures _ _ _ _ c.externals-external.ensures c.fill_steps.ensures c.close_steps-closed.ensures

pub clear-requires : goal.clear-requires
clear-requires c =
    let e = enough _ _ _ _ c.requires _ refl in
    omega (arith, c.work_needed.ensures, e, c.fill_steps.ensures.len, c.close_steps-closed.ensures.len, c.search-found.ensures.len)

pub returns : goal.returns
returns c =
    judged _ _ _ _ c.requires _ c.states-states.ensures _ _ _ _ _ _ _ c.work_needed.ensures c.fill_steps.ensures c.close_steps-closed.ensures c.search-found.ensures c.clear.ensures
