use Rattle.std.proofs.Common.{ℕ, ◌+◌, ◌*◌, ◌≤◌, ap, arith}
use native.Mathlib.Nat.{mul-le-mul, lt_of_le_of_lt}
use lib.Dec.{lit<}
use lib.Pow.{pow_mono}
use Rattle.widths.specs.Widths.{width, plane_bytes}
use Rattle.widths.specs.Laws.Limits.{limits}
use Rattle.widths.specs.declared.Widths.{Widths}
use Rattle.scan.proofs.Layout.work_needed.Goals as goal

-- a plane has at most 2^17 bytes
plane_small : (w : Widths) → width w ≤ 10 → plane_bytes w ≤ 131072
unfolding plane_bytes
plane_small w h = omega (arith, pow_mono {i = 2 * width w} {j = 20} (omega arith))

pub plane_bytes-requires : goal.plane_bytes-requires
plane_bytes-requires c = (limits _ c.requires.0).bits

pub overflow_mul-result : goal.overflow_mul-result
overflow_mul-result c =
    let l = c.args.self in
    let b : c.plane_bytes.result ≤ 131072 = omega (arith, c.plane_bytes.ensures, plane_small l.widths (limits l.widths c.requires.0).bits) in
    let a : l.longest + 2 ≤ 34 = omega (arith, c.requires.1) in
    record { fits = lt_of_le_of_lt (mul-le-mul a b) (lit< tt) }

pub returns : goal.returns
returns c = ap (λ (p : ℕ). (c.args.self.longest + 2) * p) c.plane_bytes.ensures
