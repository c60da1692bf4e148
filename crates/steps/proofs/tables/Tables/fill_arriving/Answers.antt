use mathlib.Core.Path.{◌≡◌, ap, subst, subst⁻¹}
use mathlib.Core.Bool.{true}
use Prim.Native.Nat.{ℕ, ◌+◌, ◌*◌, ◌/◌, ◌<◌, ◌≤◌}
use native.Mathlib.Omega.{arith}
use lib.ListN.{length}
use Rattle.planes.specs.Laws.Places.{line_before}
use Rattle.planes.specs.Laws.Planes.{made_more}
use Rattle.planes.specs.Plane.{plane_size}
use Rattle.basics.specs.Lists.{member}
use Rattle.format.specs.Record.{records}
use Rattle.format.specs.Laws.States.{whole_bytes}
use Rattle.widths.specs.declared.Widths.{Widths}
use Rattle.widths.specs.Widths.{states, within_limits, line_bytes}
use Rattle.widths.specs.Laws.Limits.{limits}
use Rattle.onestep.specs.Relayed.{relays}
use Rattle.steps.specs.Filled.{LineOf}
use Rattle.steps.proofs.tables.Tables.fill_arriving.Goals as goal

-- line s lies in the buffer
inside : (w : Widths) (base n s len : ℕ) → within_limits w ≡ true → n ≡ states w → s < n → base + plane_size (line_bytes w) ≤ len → base + s * (n / 8) + n / 8 ≤ len
inside w base n s len limits e lt room =
    let h : s < line_bytes w * 8 = omega (arith, whole_bytes w limits) in
    subst⁻¹ (λ (r : ℕ). base + s * r + r ≤ len) (ap (λ (n : ℕ). n / 8) e) (omega (arith, line_before s (line_bytes w * 8) (line_bytes w) h))

pub overflow_mul-s : goal.overflow_mul-s
overflow_mul-s c =
    let net = c.args.self.now.rules.net in
    omega (arith, inside net.layout.widths c.args.base _ c.loop-s.s (length c.args.work.now) net.stored.laid.limits c.states-states.ensures c.loop-s-test.true c.requires)

pub overflow_add-base : goal.overflow_add-base
overflow_add-base c =
    let net = c.args.self.now.rules.net in
    omega (arith, inside net.layout.widths c.args.base _ c.loop-s.s (length c.args.work.now) net.stored.laid.limits c.states-states.ensures c.loop-s-test.true c.requires)

pub fill_line-requires : goal.fill_line-requires
fill_line-requires c =
    let net = c.args.self.now.rules.net in
    omega (arith, ap (λ (n : ℕ). n / 8) c.states-states.ensures, c.loop-s.auto.work, inside net.layout.widths c.args.base _ c.loop-s.s (length c.args.work.now) net.stored.laid.limits c.states-states.ensures c.loop-s-test.true c.requires)

pub loop-s-preserved : goal.loop-s-preserved
loop-s-preserved c =
    let o = c.loop-s in
    let a = c.args in
    let net = a.self.now.rules.net in
    let w = net.layout.widths in
    let f = relays (records net.n net.store.now) w in
    let L = subst (λ (r : ℕ). LineOf (f o.s) (a.base + o.s * r) (line_bytes w) o.work c.fill_line.new.work) (ap (λ (n : ℕ). n / 8) c.states-states.ensures) c.fill_line.ensures in
    made_more (λ x t. member t (f x)) (line_bytes w) a.base o.s a.work.now o.work c.fill_line.new.work o.invariant L.len L.under L.over L.bits
