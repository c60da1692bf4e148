-- What widths within their limits are, part by part.
use Rattle.std.specs.Prelude.{◌≡◌, true, ◌≤◌}
use Rattle.std.proofs.Common.{leb-true}
use Rattle.basics.specs.Laws.Tests.{both}
use Rattle.widths.specs.Widths.{width, within_limits}
use Rattle.widths.specs.declared.Widths.{Widths}

-- the limits as orders
pub record Limits (w : Widths) : Type 0 where
  pub low_h : 1 ≤ w.h
  pub high_h : w.h ≤ 6
  pub low_p : 2 ≤ w.p
  pub high_p : w.p ≤ 4
  pub high_w : w.w ≤ 4
  pub bits : width w ≤ 10

-- a test that passes gives them
pub limits : (w : Widths) → within_limits w ≡ true → Limits w
unfolding within_limits
limits w e =
    let n = both _ _ e in
    let sw = both _ _ n.0 in
    let p = both _ _ sw.0 in
    let q = both _ _ p.0 in
    let h = both _ _ q.0 in
    record {
      low_h = leb-true _ _ h.0;
      high_h = leb-true _ _ h.1;
      low_p = leb-true _ _ q.1;
      high_p = leb-true _ _ p.1;
      high_w = leb-true _ _ sw.1;
      bits = leb-true _ _ n.1;
    }
