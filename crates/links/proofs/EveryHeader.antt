-- The pairs of a link that are added to a plane, header by header and both ways.
use mathlib.Core.Path.{◌≡◌, sym, subst}
use mathlib.Core.Bool.{true, false, ◌||◌}
use mathlib.Core.List.{List, [], ◌∷◌}
use Prim.Native.Nat.{ℕ, ◌+◌, ◌*◌, ◌/◌, ◌%◌, ◌^◌, ◌<◌}
use native.Mathlib.Omega.{arith}
use lib.Dec.{eqb}
use Rattle.planes.specs.Plane.{plane_size}
use Rattle.format.specs.Record.{Rec, at}
use Rattle.format.specs.Fields.{point_good}
use Rattle.format.specs.State.{state}
use Rattle.widths.specs.Widths.{states, within_limits, line_bytes}
use Rattle.widths.specs.declared.Widths.{Widths}
use Rattle.onestep.specs.Step.{across}
use Rattle.planes.specs.Adds.{Adds}
use Rattle.links.specs.Carried.{one_way, pair, pairs, crosses}
use Rattle.planes.specs.Laws.AddedBits.{adds_none, adds_as, adds_both}
use Rattle.links.proofs.HeaderByHeader.{below, hops_none, hops_more, hops_all}
use Rattle.links.proofs.LinkCrossings.{both_ways}
use Rattle.links.specs.Laws.PlaneOfPairs.{plane_pairs}

module _ (w : Widths) (limits : within_limits w ≡ true) (base : ℕ) where
  abbrev size : ℕ
  size = plane_size (line_bytes w)

  -- one way
  module _ (a b c d : ℕ) (from : point_good w a b ≡ true) (to : point_good w c d ≡ true) where
    abbrev pub Carried : ℕ → List ℕ → List ℕ → Type 0
    Carried h x y = Adds (pairs w (below w a b c d h)) base (plane_size (line_bytes w)) x y

    is_pair : (n : ℕ) → n < size * 8 → n < states w * states w
    is_pair n h = omega (arith, plane_pairs w limits base)

    pub carried_none : (x : List ℕ) → Carried 0 x x
    carried_none x = adds_as base size (λ n. false) (pairs w (below w a b c d 0)) x x (λ n h. sym (hops_none w a b c d from to n (is_pair n h))) (adds_none base size x)

    pub carried_more : (h : ℕ) (x y z : List ℕ) → h < 2 ^ w.h → Carried h x y → Adds (λ n. eqb n (pair w (state w 1 a b h) (state w 0 c d h))) base size y z → Carried (h + 1) x z
    carried_more h x y z hh C A =
        adds_as base size (λ n. pairs w (below w a b c d h) n || eqb n (pair w (state w 1 a b h) (state w 0 c d h))) (pairs w (below w a b c d (h + 1))) x z
        (λ n l. sym (hops_more w a b c d from to n (is_pair n l) h hh)) (adds_both base size _ _ x y z C A)

    pub carried_all : (h : ℕ) (x y : List ℕ) → h ≡ 2 ^ w.h → Carried h x y → Adds (pairs w (crosses w (one_way a b c d))) base size x y
    carried_all h x y e C =
        adds_as base size (pairs w (below w a b c d (2 ^ w.h))) (pairs w (crosses w (one_way a b c d))) x y
        (λ n l. hops_all w a b c d from to n (is_pair n l)) (subst (λ (k : ℕ). Carried k x y) e C)

  -- both ways
  pub followed : (l : Rec) (x y z : List ℕ)
      → Adds (pairs w (crosses w (one_way (at l 1) (at l 2) (at l 3) (at l 4)))) base size x y
      → Adds (pairs w (crosses w (one_way (at l 3) (at l 4) (at l 1) (at l 2)))) base size y z
      → Adds (pairs w (crosses w (λ sw p. across sw p (l ∷ [])))) base size x z
  followed l x y z A B =
      adds_as base size _ (pairs w (crosses w (λ sw p. across sw p (l ∷ [])))) x z
      (λ n h. sym (both_ways w l (n / states w) (n % states w))) (adds_both base size _ _ x y z A B)
