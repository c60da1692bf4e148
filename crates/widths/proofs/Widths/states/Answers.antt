use mathlib.Core.Path.{◌≡◌, ap, ◌∙◌}
use Prim.Native.Nat.{ℕ, ◌≤◌, ◌^◌}
use native.Mathlib.Omega.{arith}
use Rattle.widths.specs.Widths.{width, states}
use Rattle.basics.specs.Laws.Shifts.{shl_one}
use Rattle.widths.proofs.Widths.states.Goals as goal

pub returns : goal.returns
unfolding states
returns c =
    let e : c.bits-n.result ≡ width c.args.self = c.bits-n.ensures in
    let b : width c.args.self ≤ 10 = c.requires in
    shl_one c.bits-n.result 64 (omega arith) ∙ ap (λ (k : ℕ). 2 ^ k) e
