use native.Mathlib.Omega.{arith}
use Prim.Native.Nat.{◌*◌}
use borrow.Author.Rules.{rules}
use lib.ListN.{length}
use Rattle.std.proofs.lemmas.List.{length-take-le}
use mathlib.Core.Path.{◌≡◌, refl, ◌∙◌}
use Rattle.planes.specs.Laws.Places.{line_before}
use Rattle.exchange.proofs.Exchanging.{parted_apart, copied, had_line, swapped_over, swapped_set, swapped_line}
use Rattle.exchange.proofs.Planes.swap_line.Goals as goal

pub loop-y-init : goal.loop-y-init
loop-y-init c =
    let o = c.of-y-items.ensures in
    rw (c.into_iter-y-iterator.ensures.into_iter_gives, o.0, o.1) (
      refl,
      length-take-le _ _ (let len : length c.load_line-line.result ≡ 128 = search rules in omega (arith, len, c.args.self.narrow)),
      λ u hu. copied _ _ _ _ c.load_line-line.ensures u hu,
      λ before T. T,
    )

pub set_at-requires : goal.set_at-requires
set_at-requires c =
    let P = c.requires in
    let I = c.loop-y.invariant in
    let F = c.in-Some.ensures.steps.first in
    omega (arith, F.within, I.0, I.1, line_before c.in-Some.y (c.args.self.pitch * 8) c.args.self.pitch (omega (arith, F.within, I.1)), P.1, P.0, c.args.self.second)

pub loop-y-preserved : goal.loop-y-preserved
loop-y-preserved c =
    let P = c.requires in
    let A = parted_apart _ _ _ c.args.self.parted in
    let I = c.loop-y.invariant in
    let E = c.in-Some.ensures.steps in
    let F = E.first in
    rw (E.same, E.after) (
      c.set_at.ensures.len ∙ I.0,
      I.1,
      I.2,
      λ before T.
          let same = had_line _ _ _ A _ _ _ _ T P.1 I.2 in
          swapped_set _ _ _ A _ _ _ _ _ same (swapped_over _ _ _ A _ _ _ _ _ same (I.3 before T) _ F.later F.before) _ P.1 (omega (arith, F.within, I.1)) F.set c.set_at.ensures,
    )

pub returns : goal.returns
returns c = λ before T.
    let P = c.requires in
    let A = parted_apart _ _ _ c.args.self.parted in
    let I = c.loop-y.invariant in
    let F = c.in-None.ensures.steps.first in
    swapped_line _ _ _ A _ _ _ _ _ (had_line _ _ _ A _ _ _ _ T P.1 I.2) (I.3 before T) (rw (← I.1) F)
