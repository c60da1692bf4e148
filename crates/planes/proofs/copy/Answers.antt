use mathlib.Core.Path.{◌≡◌, refl, ◌∙◌}
use Prim.Native.Nat.{ℕ}
use native.Mathlib.Omega.{arith}
use lib.ListN.{get_or, set}
use Rattle.std.proofs.Common.{length-set, below_more, get_or-set_same, get_or-set_other}
use Rattle.std.proofs.lemmas.List.{ext_get_or}
use Rattle.planes.proofs.copy.Goals as goal

pub loop-j-init : goal.loop-j-init
loop-j-init c = (refl, λ i h. absurd (omega arith))

pub loop-j-preserved : goal.loop-j-preserved
loop-j-preserved c =
    let j = c.loop-j.j in
    let to = c.loop-j.to in
    let from = c.args.from.now in
    let v = get_or from j 0 in (
      length-set to j v ∙ c.loop-j.invariant.0,
      below_more (λ (m : ℕ). get_or (set to j v) m 0 ≡ get_or from m 0) j
          (λ m h. get_or-set_other to j m v 0 (λ q. omega arith) ∙ c.loop-j.invariant.1 m h)
          (get_or-set_same to j v 0 (omega (arith, c.loop-j.invariant.0, c.requires))),
    )

pub returns : goal.returns
returns c = record {
  len = c.loop-j.invariant.0;
  after = ext_get_or 0 _ _ (c.loop-j.invariant.0 ∙ c.requires) (λ i h. c.loop-j.invariant.1 i (omega (arith, h, c.loop-j.invariant.0, c.requires)));
}
