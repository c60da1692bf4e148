use mathlib.Core.Path.{◌≡◌, ap, ◌∙◌}
use mathlib.Core.Bool.{true}
use Prim.Native.Nat.{ℕ, ◌+◌, ◌*◌, ◌^◌, ◌<◌}
use native.Mathlib.Omega.{arith}
use Rattle.format.specs.State.{state}
use Rattle.format.specs.Fields.{point_good}
use Rattle.format.specs.Laws.States.{state-lt}
use Rattle.widths.specs.declared.Widths.{Widths}
use Rattle.widths.specs.Widths.{states}
use Rattle.states.specs.declared.Frame.{Frame}
use Rattle.links.specs.declared.Point.{Point}
use Rattle.links.specs.Carried.{pair}
use Rattle.links.specs.Laws.PairBits.{pair_is, pair_lt, few_pairs}
use Rattle.links.specs.Laws.PlaneOfPairs.{pair_in}
use Rattle.links.specs.Laws.PointBits.{point_switch, point_port}
use Rattle.links.proofs.crossing.Goals as goal

-- a frame at a point
abbrev frame : Point → ℕ → Frame
frame p h = record { switch = p.switch; port = p.port; header = h }

-- its state has a bit
at_point : (w : Widths) (d : ℕ) (p : Point) (h : ℕ) → d < 2 → point_good w p.switch p.port ≡ true → h < 2 ^ w.h → state w d p.switch p.port h < states w
at_point w d p h l g k = state-lt w d p.switch p.port h l (point_switch w p.switch p.port g) (point_port w p.switch p.port g) k

-- what is summed up is the number of the pair
sum_is : (w : Widths) (p q : Point) (h : ℕ) (f g : Frame) (x n y : ℕ) → f ≡ frame p h → g ≡ frame q h → x ≡ state w 1 f.switch f.port f.header → n ≡ states w
    → y ≡ state w 0 g.switch g.port g.header → x * n + y ≡ pair w (state w 1 p.switch p.port h) (state w 0 q.switch q.port h)
sum_is w p q h f g x n y ef eg ex en ey =
    pair_is w (state w 1 p.switch p.port h) (state w 0 q.switch q.port h) x y n
    (ex ∙ ap (λ (k : Frame). state w 1 k.switch k.port k.header) ef) en (ey ∙ ap (λ (k : Frame). state w 0 k.switch k.port k.header) eg)

pub overflow_mul-result : goal.overflow_mul-result
overflow_mul-result c =
    let a = c.args in
    let P = c.requires.points in
    omega (
      arith,
      sum_is a.w a.from a.to a.header _ _ _ _ _ c.frame.ensures c.frame-2.ensures c.departing-departs.ensures c.states.ensures c.arriving-arrives.ensures,
      pair_lt a.w _ _ (at_point a.w 1 a.from a.header (omega arith) P.0 P.2) (at_point a.w 0 a.to a.header (omega arith) P.1 P.2),
      few_pairs a.w c.requires.limits,
    )

pub overflow_add-result : goal.overflow_add-result
overflow_add-result c =
    let a = c.args in
    let P = c.requires.points in
    omega (
      arith,
      sum_is a.w a.from a.to a.header _ _ _ _ _ c.frame.ensures c.frame-2.ensures c.departing-departs.ensures c.states.ensures c.arriving-arrives.ensures,
      pair_lt a.w _ _ (at_point a.w 1 a.from a.header (omega arith) P.0 P.2) (at_point a.w 0 a.to a.header (omega arith) P.1 P.2),
      few_pairs a.w c.requires.limits,
    )

pub returns-clause-within : goal.returns-clause-within
returns-clause-within c =
    let a = c.args in
    let P = c.requires.points in
    omega (
      arith,
      sum_is a.w a.from a.to a.header _ _ _ _ _ c.frame.ensures c.frame-2.ensures c.departing-departs.ensures c.states.ensures c.arriving-arrives.ensures,
      pair_in a.w c.requires.limits 0 _ _ (at_point a.w 1 a.from a.header (omega arith) P.0 P.2) (at_point a.w 0 a.to a.header (omega arith) P.1 P.2),
    )
