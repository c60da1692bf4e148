-- `route::show` meets its contract.
use mathlib.Core.Path.{ap, ◌∙◌}
use Prim.Native.Nat.{ℕ, ◌/◌, ◌≤◌}
use native.Mathlib.Nat.{mul-le-mul_left}
use native.Mathlib.Omega.{arith}
use Rattle.format.specs.Laws.States.{few_states}
use Rattle.widths.specs.Laws.Limits.{limits}
use Rattle.verdict.specs.Laws.JudgedWork.{step_room}
use Rattle.route.proofs.Showing.{amount, exchangeable, drawable, shown}
use Rattle.route.proofs.show.Goals as goal

pub overflow_mul-pitch-2 : goal.overflow_mul-pitch-2
overflow_mul-pitch-2 c =
    let few : c.states-pitch.result / 8 ≤ 128 = omega (arith, c.states-pitch.ensures, few_states _ c.args.net.now.stored.laid.limits) in
    omega (arith, mul-le-mul_left (c.states-pitch.result / 8) few)

pub states-pitch-requires : goal.states-pitch-requires
states-pitch-requires c = (limits _ c.args.net.now.stored.laid.limits).bits

pub fill_steps-requires : goal.fill_steps-requires
fill_steps-requires c = omega (arith, step_room _ _ _ _ c.requires.judgeable)

pub exchange-requires : goal.exchange-requires
exchange-requires c =
    exchangeable _ _ _ _ c.requires.judgeable _ (ap (λ (n : ℕ). n / 8) c.states-pitch.ensures) _ c.fill_steps.ensures

pub draw-count-requires : goal.draw-count-requires
draw-count-requires c =
    let e = ap (λ (n : ℕ). n / 8) c.states-pitch.ensures in
    let b = c.requires.bounds in
    drawable _ _ _ _ c.requires.judgeable _ e _ c.fill_steps.ensures _ c.exchange.ensures _ _ c.args.list.now b.0 b.1 b.2

pub clear-requires : goal.clear-requires
clear-requires c =
    let J = c.requires.judgeable in
    omega (arith, c.work_needed-needed.ensures, amount _ _ _ _ J, J.room, c.fill_steps.ensures.len, c.exchange.ensures.len)

pub returns : goal.returns
returns c =
    let J = c.requires.judgeable in
    let e = ap (λ (n : ℕ). n / 8) c.states-pitch.ensures in
    shown _ _ _ _ J _ e _ c.fill_steps.ensures _ c.exchange.ensures _ _ _ _ _ c.draw-count.ensures _ _ (c.work_needed-needed.ensures ∙ amount _ _ _ _ J) c.clear.ensures
