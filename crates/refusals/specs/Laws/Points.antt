-- Points of links as numbers: with m ordinary ports on a switch, each point has one of its own.
use Rattle.std.specs.Prelude.{◌≡◌, Bool, ◌&&◌, ℕ, ◌+◌, ◌-◌, ◌*◌, ◌/◌, ◌%◌, ◌<◌, ◌≤◌}
use Rattle.std.proofs.Math.Path.{refl, sym, ap}
use Rattle.std.proofs.Common.{◌∙◌, arith, eqb-true, eq-eqb, ne_eqb}
use Rattle.std.proofs.Math.Bool.{true, false}
use mathlib.Core.List.{List, [], ◌∷◌, ◌++◌}
use Rattle.std.proofs.Math.Arith.{digits_div, digits_mod}
use Rattle.std.proofs.Math.Dec.{eqb}
use Rattle.std.proofs.Math.ListN.{length, length-append}
use Rattle.basics.specs.Laws.Tests.{not_both, or_none, and_both}
use Rattle.basics.specs.Lists.{keep, any}
use Rattle.format.specs.Record.{Rec, Net, at, ends_at}
use Rattle.basics.specs.Laws.Lists.{keep_append}

-- a port from 1 to m
abbrev pub Port : ℕ → ℕ → Type 0
Port m p = (0 < p) × (p ≤ m)

-- the number of a point
abbrev pub point_number : ℕ → ℕ → ℕ → ℕ
point_number m sw p = sw * m + (p - 1)

-- no two points have one number
pub point_only : (m sw p sw' p' : ℕ) → Port m p → Port m p' → point_number m sw p ≡ point_number m sw' p' → (sw ≡ sw') × (p ≡ p')
point_only m sw p sw' p' h h' e =
    let l : p - 1 < m = omega arith in
    let l' : p' - 1 < m = omega arith in
    let q : p - 1 ≡ p' - 1 = sym (digits_mod sw l) ∙ ap (λ (n : ℕ). n % m) e ∙ digits_mod sw' l' in
    (sym (digits_div sw l) ∙ ap (λ (n : ℕ). n / m) e ∙ digits_div sw' l', omega arith)

-- the two points of a link, and those of all links
abbrev pub ends : ℕ → Rec → List ℕ
ends m l = point_number m (at l 1) (at l 2) ∷ point_number m (at l 3) (at l 4) ∷ []

unfoldable pub points : ℕ → Net → List ℕ
points m [] = []
points m (l ∷ ls) = ends m l ++ points m ls

-- both ends of each are at such a port
abbrev pub AtPorts : ℕ → Net → Type 0
AtPorts m [] = Unit {0}
AtPorts m (l ∷ ls) = Port m (at l 2) × Port m (at l 4) × AtPorts m ls

-- how often a number is among some
abbrev pub times : ℕ → List ℕ → ℕ
times v xs = length (keep (λ x. eqb x v) xs)

module _ (m : ℕ) where
  pub length_points : (ls : Net) → length (points m ls) ≡ 2 * length ls
  unfolding points
  length_points [] = refl
  length_points (l ∷ ls) = omega (arith, length_points ls)

  pub points-append : (xs ys : Net) → points m (xs ++ ys) ≡ points m xs ++ points m ys
  unfolding points
  points-append [] ys = refl
  points-append (x ∷ xs) ys = ap (λ (k : List ℕ). ends m x ++ k) (points-append xs ys)

  pub ports-append : (xs ys : Net) → AtPorts m xs → AtPorts m ys → AtPorts m (xs ++ ys)
  ports-append [] ys a b = b
  ports-append (x ∷ xs) ys a b = (a.0, a.1, ports-append xs ys a.2 b)

  -- another point has another number
  other : (sw p sw' p' : ℕ) → Port m p → Port m p' → (eqb sw' sw && eqb p' p) ≡ false → eqb (point_number m sw' p') (point_number m sw p) ≡ false
  other sw p sw' p' h h' e =
      ne_eqb (point_number m sw' p') (point_number m sw p) (λ q.
      let t = point_only m sw' p' sw p h' h q in
      not_both (and_both (eqb sw' sw) (eqb p' p) (eq-eqb sw' sw t.0) (eq-eqb p' p t.1)) e)

  -- a point where no link ends is not among the points of links
  pub unlinked : (sw p : ℕ) → Port m p → (ls : Net) → AtPorts m ls → any (ends_at sw p) ls ≡ false → times (point_number m sw p) (points m ls) ≡ 0
  unfolding points any ends_at keep
  unlinked sw p h [] a e = refl
  unlinked sw p h (l ∷ ls) a e =
      let t = or_none (ends_at sw p l) (any (ends_at sw p) ls) e in
      let s = or_none (eqb (at l 1) sw && eqb (at l 2) p) (eqb (at l 3) sw && eqb (at l 4) p) t.0 in
      rw (other sw p (at l 1) (at l 2) h a.0 s.0, other sw p (at l 3) (at l 4) h a.1 s.1) (unlinked sw p h ls a.2 t.1)

  -- one link more, between two points where none ends: each point is there once
  module _ (ls : Net) (l : Rec) (a : AtPorts m ls) (h : Port m (at l 2)) (h' : Port m (at l 4)) (e : any (ends_at (at l 1) (at l 2)) ls ≡ false)
      (e' : any (ends_at (at l 3) (at l 4)) ls ≡ false) (d : (eqb (at l 1) (at l 3) && eqb (at l 2) (at l 4)) ≡ false) where
    times_more : (v : ℕ) → times v (points m (ls ++ (l ∷ []))) ≡ times v (points m ls) + times v (ends m l)
    unfolding points
    times_more v =
        ap (times v) (points-append ls (l ∷ [])) ∙ ap length (keep_append (λ x. eqb x v) (points m ls) (ends m l))
        ∙ length-append (keep (λ x. eqb x v) (points m ls)) (keep (λ x. eqb x v) (ends m l))

    -- a point that is one of the two is the other no more, and was none before
    pub once_more : (v : ℕ) → times v (points m ls) ≤ 1 → times v (points m (ls ++ (l ∷ []))) ≤ 1
    unfolding keep
    once_more v once = go (eqb (point_number m (at l 1) (at l 2)) v) refl (eqb (point_number m (at l 3) (at l 4)) v) refl
      where
        go : (b : Bool) → eqb (point_number m (at l 1) (at l 2)) v ≡ b → (c : Bool) → eqb (point_number m (at l 3) (at l 4)) v ≡ c → times v (points m (ls ++ (l ∷ []))) ≤ 1
        go true p true q =
            not_both (eq-eqb (point_number m (at l 1) (at l 2)) (point_number m (at l 3) (at l 4)) (eqb-true _ v p ∙ sym (eqb-true _ v q)))
            (other (at l 3) (at l 4) (at l 1) (at l 2) h' h d)
        go true p false q =
            let z : times v (points m ls) ≡ 0 = rw (← (eqb-true _ v p)) (unlinked (at l 1) (at l 2) h ls a e) in
            let o : times v (ends m l) ≡ 1 = rw (p, q) in
            omega (arith, times_more v)
        go false p true q =
            let z : times v (points m ls) ≡ 0 = rw (← (eqb-true _ v q)) (unlinked (at l 3) (at l 4) h' ls a e') in
            let o : times v (ends m l) ≡ 1 = rw (p, q) in
            omega (arith, times_more v)
        go false p false q =
            let o : times v (ends m l) ≡ 0 = rw (p, q) in
            omega (arith, times_more v)
