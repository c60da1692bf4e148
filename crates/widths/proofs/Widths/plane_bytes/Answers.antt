use mathlib.Core.Path.{◌≡◌, ap, ◌∙◌}
use Prim.Native.Nat.{ℕ, ◌≤◌, ◌^◌, ◌*◌, ◌/◌}
use native.Mathlib.Omega.{arith}
use lib.Pow.{pow-lt}
use Rattle.widths.specs.Widths.{width, states, plane_bytes}
use Rattle.basics.specs.Laws.Shifts.{square}
use Rattle.widths.proofs.Widths.plane_bytes.Goals as goal

pub overflow_mul-result : goal.overflow_mul-result
unfolding states
overflow_mul-result c =
    let n = width c.args.self in
    let e : c.states-s.result ≡ 2 ^ n = c.states-s.ensures in
    let b : n ≤ 10 = c.requires in
    record { fits = rw e (rw square (pow-lt {j = 64} (omega arith))) }

pub returns : goal.returns
unfolding states plane_bytes
returns c =
    let n = width c.args.self in
    let e : c.states-s.result ≡ 2 ^ n = c.states-s.ensures in
    ap (λ (k : ℕ). k / 8) (ap (λ (k : ℕ). k * k) e ∙ square n)
