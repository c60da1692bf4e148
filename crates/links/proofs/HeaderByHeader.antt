-- A frame that crosses a link one way, with one header and with each.
use borrow.Author.Tests.{eq-eqb, eqb-true, eqb-false, lt-ltb, ltb-true, not-true}
use mathlib.Core.Path.{◌≡◌, refl, sym, ap, ◌∙◌}
use mathlib.Core.Bool.{Bool, true, false, cond, ◌&&◌, ◌||◌, or-false}
use mathlib.Core.List.{[], ◌∷◌}
use Prim.Native.Nat.{ℕ, ◌+◌, ◌*◌, ◌/◌, ◌%◌, ◌^◌, ◌<◌}
use mathlib.Core.Logic.{⊎_elim}
use native.Mathlib.Decide.{dec_lt}
use native.Mathlib.Omega.{arith}
use lib.Dec.{eqb, ltb}
use Rattle.basics.specs.Laws.Tests.{same_test, not_both, and_both, both, or_left, or_right, or_cases, false_of}
use Rattle.basics.specs.Lists.{any, member}
use Rattle.format.specs.Fields.{point_good}
use Rattle.format.specs.State.{state, header_of, port_of, switch_of, direction_of}
use Rattle.widths.specs.Widths.{states}
use Rattle.format.specs.Laws.States.{state-lt, header_lt, direction_lt, header_of_lem, port_of_lem, switch_of_lem, direction_of_lem, state_of_lem}
use Rattle.widths.specs.declared.Widths.{Widths}
use Rattle.onestep.specs.Relayed.{arriving}
use Rattle.links.specs.Carried.{one_way, pair, pairs, crosses}
use Rattle.links.specs.Laws.PointBits.{point_switch, point_port}
use Rattle.links.specs.Laws.PairBits.{first-lt, one_pair}

-- a frame with header h that departs from (a, b) arrives at (c, d)
module _ (w : Widths) (a b c d h : ℕ) (ha : a < 2 ^ w.w) (hb : b < 2 ^ w.p) (hh : h < 2 ^ w.h) where
  abbrev departs : ℕ
  departs = state w 1 a b h

  abbrev arrives : ℕ
  arrives = state w 0 c d h

  there : (s t : ℕ) → s ≡ departs → t ≡ arrives → (eqb (header_of w s) h && crosses w (one_way a b c d) s t) ≡ true
  unfolding crosses one_way arriving member any
  there s t e q =
      rw (e, q, header_of_lem w 1 a b h ha hb hh, direction_of_lem w 1 a b h ha hb hh, switch_of_lem w 1 a b h ha hb hh, port_of_lem w 1 a b h ha hb hh, eq-eqb h h refl, eq-eqb a a refl, eq-eqb b b refl, eq-eqb arrives arrives refl)
      refl

  -- what is across, is across from (a, b)
  across_from : (sw p k t : ℕ) → member t (arriving w k (one_way a b c d sw p)) ≡ true → (a ≡ sw) × (b ≡ p) × (t ≡ state w 0 c d k)
  unfolding one_way arriving member any
  across_from sw p k t = go (eqb a sw && eqb b p) refl
    where
      go : (x : Bool) → (eqb a sw && eqb b p) ≡ x → member t (arriving w k (cond x ((c, d) ∷ []) [])) ≡ true → (a ≡ sw) × (b ≡ p) × (t ≡ state w 0 c d k)
      go true e m = let q = both _ _ e in (eqb-true _ _ q.0, eqb-true _ _ q.1, eqb-true _ _ (sym (or-false _) ∙ m))
      go false e m = not_both m refl

  back : (s t : ℕ) → s < states w → (eqb (header_of w s) h && crosses w (one_way a b c d) s t) ≡ true → (s ≡ departs) × (t ≡ arrives)
  unfolding crosses
  back s t hs e =
      let q = both _ _ e in
      let m = both _ _ q.1 in
      let k : header_of w s ≡ h = eqb-true _ _ q.0 in
      let f = across_from (switch_of w s) (port_of w s) (header_of w s) t m.1 in
      let n = eqb-false (direction_of w s) 0 (not-true (eqb (direction_of w s) 0) m.0) in
      let one : direction_of w s ≡ 1 = omega (arith, direction_lt w s hs, n) in
      (sym (state_of_lem w s) ∙ rw (one, f.0, f.1, k) refl, f.2 ∙ ap (state w 0 c d) k)

  pub one_hop : (s t : ℕ) → s < states w → (eqb s departs && eqb t arrives) ≡ (eqb (header_of w s) h && crosses w (one_way a b c d) s t)
  one_hop s t hs =
      same_test _ _
      (λ e. let q = both _ _ e in there s t (eqb-true _ _ q.0) (eqb-true _ _ q.1))
      (λ e. let q = back s t hs e in and_both _ _ (eq-eqb _ _ q.0) (eq-eqb _ _ q.1))

-- the frames of the headers below k + 1 are those below k, and those of k
headers : (x k : ℕ) (t : Bool) → (ltb x (k + 1) && t) ≡ ((ltb x k && t) || (eqb x k && t))
headers x k t =
    ap (λ (b : Bool). b && t)
    (same_test (ltb x (k + 1)) (ltb x k || eqb x k)
    (λ e. below (dec_lt x k) (ltb-true x (k + 1) e))
    (λ e. ⊎_elim (λ l. lt-ltb x (k + 1) (omega (arith, ltb-true x k l))) (λ q. lt-ltb x (k + 1) (omega (arith, eqb-true x k q))) (or_cases (ltb x k) (eqb x k) e)))
    ∙ or_and (ltb x k) (eqb x k) t
  where
    below : Dec (x < k) → x < k + 1 → (ltb x k || eqb x k) ≡ true
    below (yes h) l = or_left (ltb x k) (eqb x k) (lt-ltb x k h)
    below (no g) l = or_right (ltb x k) (eqb x k) (eq-eqb x k (omega arith))

    or_and : (a b c : Bool) → ((a || b) && c) ≡ ((a && c) || (b && c))
    or_and true b true = refl
    or_and true true false = refl
    or_and true false false = refl
    or_and false b c = refl

-- such a frame, if its header is below k
abbrev pub below : Widths → ℕ → ℕ → ℕ → ℕ → ℕ → ℕ → ℕ → Bool
below w a b c d k s t = ltb (header_of w s) k && crosses w (one_way a b c d) s t

module _ (w : Widths) (a b c d : ℕ) (from : point_good w a b ≡ true) (to : point_good w c d ≡ true) (n : ℕ) (hn : n < states w * states w) where
  abbrev first : ℕ
  first = n / states w

  abbrev second : ℕ
  second = n % states w

  pub hops_none : pairs w (below w a b c d 0) n ≡ false
  hops_none = ap (λ (x : Bool). x && crosses w (one_way a b c d) first second) (false_of (ltb (header_of w first) 0) (λ e. omega (arith, ltb-true (header_of w first) 0 e)))

  pub hops_more : (h : ℕ) → h < 2 ^ w.h
      → pairs w (below w a b c d (h + 1)) n ≡ (pairs w (below w a b c d h) n || eqb n (pair w (state w 1 a b h) (state w 0 c d h)))
  hops_more h hh =
      headers (header_of w first) h (crosses w (one_way a b c d) first second)
      ∙ ap (λ (x : Bool). below w a b c d h first second || x)
      (sym (one_pair w (state w 1 a b h) (state w 0 c d h) n (state-lt w 0 c d h (omega arith) (point_switch w c d to) (point_port w c d to) hh)
      ∙ one_hop w a b c d h (point_switch w a b from) (point_port w a b from) hh first second (first-lt w n hn)))

  pub hops_all : pairs w (below w a b c d (2 ^ w.h)) n ≡ pairs w (crosses w (one_way a b c d)) n
  hops_all = ap (λ (x : Bool). x && crosses w (one_way a b c d) first second) (lt-ltb (header_of w first) (2 ^ w.h) (header_lt w first))
