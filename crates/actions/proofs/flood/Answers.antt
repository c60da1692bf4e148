use mathlib.Core.Path.{◌≡◌, ap₂, subst, subst⁻¹}
use mathlib.Core.List.{List, [], ◌∷◌}
use Prim.Native.Nat.{ℕ, ◌-◌, ◌^◌}
use native.Mathlib.Omega.{arith}
use Rattle.basics.specs.Lists.{keep, from}
use Rattle.patterns.specs.Matched.{MatchedSet}
use Rattle.states.specs.declared.Frame.{Frame}
use Rattle.onestep.specs.Departing.{except, departing}
use Rattle.onestep.specs.Flooding.{flooded}
use Rattle.groups.specs.declared.buckets.Groups.{Groups}
use Rattle.groups.specs.Relayed.{Ran, departs}
use Rattle.groups.specs.Laws.Running.{Toward, toward_all, toward_more, toward_end}
use Rattle.actions.specs.Laws.Flooded.{ports_left}
use Rattle.actions.proofs.flood.Goals as goal

pub loop-q-init : goal.loop-q-init
loop-q-init c =
    let x = c.args.relay.now in
    let w = x.groups.now.net.layout.widths in
    let e : 2 ^ w.p ≡ 2 ^ w.p - 0 = omega arith in
    let all = departs x c.args.header (flooded w x.frame.port c.args.value c.args.care (from 0 (2 ^ w.p))) in
    subst (λ (k : ℕ). Toward all (departs x c.args.header (flooded w x.frame.port c.args.value c.args.care (from 0 k))) x x) e (toward_all all x)

pub loop-q-preserved : goal.loop-q-preserved
loop-q-preserved c =
    let o = c.loop-q in
    let x = c.args.relay.now in
    let w = x.groups.now.net.layout.widths in
    let a = c.args in
    let T = o.invariant in
    let one = ap₂ (λ (y : Groups) (f : Frame). departing y.net.layout.widths f.switch a.header (flooded y.net.layout.widths f.port a.value a.care (o.q ∷ []))) T.groups T.frame in
    let M = subst⁻¹ (λ (y : Groups). MatchedSet y.net.layout.widths.p a.value a.care c.matched-ports.result) T.groups c.matched-ports.ensures in
    toward_more _ _ _ _ x o.relay _ (ports_left w x.frame.port a.value a.care x.frame.switch a.header o.q (2 ^ w.p) (omega arith)) T
    (subst (λ (l : List ℕ). Ran l o.relay c.offer.new.relay) one (c.offer.ensures a.value a.care M))

pub returns : goal.returns
unfolding departing flooded except from keep
returns c =
    let o = c.loop-q in
    let x = c.args.relay.now in
    let w = x.groups.now.net.layout.widths in
    let e : 2 ^ w.p - o.q ≡ 0 = omega arith in
    toward_end _ x o.relay
    (subst (λ (k : ℕ). Toward (departs x c.args.header (flooded w x.frame.port c.args.value c.args.care (from 0 (2 ^ w.p)))) (departs x c.args.header (flooded w x.frame.port c.args.value c.args.care (from o.q k))) x o.relay) e o.invariant)
