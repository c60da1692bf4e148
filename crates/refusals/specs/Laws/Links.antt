-- At most 112 links: each takes two points of its own.
use Rattle.std.specs.Prelude.{◌≡◌, refl, true, false, ◌&&◌, [], ◌∷◌, ◌++◌, ℕ, ◌-◌, ◌*◌, ◌^◌, ◌<◌, ◌≤◌, eqb, ltb, length}
use Rattle.std.proofs.Common.{sym, ap, subst, ◌∙◌, arith, mul-le-mul, eqb-true, ltb-true, lt-ltb, pow_mono}
use Rattle.std.proofs.lemmas.Bool.{not-false}
use Rattle.std.proofs.Math.Arith.{digits_lt}
use Rattle.basics.specs.Laws.Tests.{or_none, both}
use Rattle.basics.specs.Lists.{keep, all}
use Rattle.format.specs.Record.{Rec, Net, at, kind, of_kind, linked, widths_of}
use Rattle.format.specs.State.{ordinary}
use Rattle.refusals.specs.Rows.{row6}
use Rattle.format.specs.Fields.{point_good}
use Rattle.widths.specs.declared.Widths.{Widths}
use Rattle.refusals.specs.Laws.Passing.{Passes, and_test, fields_good_lem}
use Rattle.format.specs.Laws.Fields.{link_fields}
use Rattle.widths.specs.Laws.Limits.{Limits}
use Rattle.refusals.specs.Laws.Spread.{total, total_ones, all_append, spread}
use Rattle.refusals.specs.Laws.Points.{Port, point_number, ends, points, AtPorts, times, length_points, points-append, ports-append, once_more}

-- how many ports are ordinary
abbrev ports : Widths → ℕ
ports w = 2 ^ w.p - 2

port_of_lem : (w : Widths) (p : ℕ) → ordinary w p ≡ true → Port (ports w) p
unfolding ordinary
port_of_lem w p e =
    let t = both _ _ e in
    let h : p < 2 ^ w.p - 1 = ltb-true p (2 ^ w.p - 1) t.1 in
    (ltb-true 0 p t.0, omega arith)

-- a link that row 6 passes
record Joins (before : Net) (l : Rec) : Type 0 where
  one : Port (ports (widths_of before)) (at l 2)
  other : Port (ports (widths_of before)) (at l 4)
  one_free : linked before (at l 1) (at l 2) ≡ false
  other_free : linked before (at l 3) (at l 4) ≡ false
  two : (eqb (at l 1) (at l 3) && eqb (at l 2) (at l 4)) ≡ false

joins : (before : Net) (l : Rec) → eqb (kind l) 2 ≡ true → row6 before l ≡ false → Joins before l
unfolding row6
joins before l q e =
    let a = or_none _ _ (and_test _ _ e q) in
    let b = or_none _ _ a.0 in
    let c = or_none _ _ b.0 in
    let d = or_none _ _ c.0 in
    record {
      one = port_of_lem (widths_of before) (at l 2) (not-false _ d.0);
      other = port_of_lem (widths_of before) (at l 4) (not-false _ d.1);
      one_free = c.1;
      other_free = b.1;
      two = a.1;
    }

-- the switches of a link that row 5 passes
switches_within : (before : Net) (l : Rec) (after : Net) → Passes before l after → kind l ≡ 2 → (at l 1 < 2 ^ (widths_of before).w) × (at l 3 < 2 ^ (widths_of before).w)
unfolding point_good
switches_within before l after s q =
    let a = both _ _ (sym (link_fields (widths_of before) l q) ∙ fields_good_lem before l after s) in
    let b = both _ _ a.0 in
    (ltb-true _ _ (both _ _ b.0).0, ltb-true _ _ (both _ _ b.1).0)

-- links at ordinary ports of switches within their width, each point once
pub record Apart (w : Widths) (ls : Net) : Type 0 where
  pub at_ports : AtPorts (ports w) ls
  pub within : all (λ v. ltb v (2 ^ w.w * ports w)) (points (ports w) ls) ≡ true
  pub once : (v : ℕ) → times v (points (ports w) ls) ≤ 1

pub apart_none : (w : Widths) → Apart w []
unfolding points all keep
apart_none w = record { at_ports = tt; within = refl; once = λ v. omega arith }

pub apart_more : (w : Widths) (before : Net) (l : Rec) (after : Net) → widths_of before ≡ w → Passes before l after → eqb (kind l) 2 ≡ true
    → Apart w (of_kind 2 before) → Apart w (of_kind 2 before ++ (l ∷ []))
unfolding linked points all
apart_more w before l after q s k a =
    let j : Joins before l = joins before l k s.not6 in
    let m = ports w in
    let one : Port m (at l 2) = subst (λ (v : Widths). Port (ports v) (at l 2)) q j.one in
    let other : Port m (at l 4) = subst (λ (v : Widths). Port (ports v) (at l 4)) q j.other in
    let sw = switches_within before l after s (eqb-true (kind l) 2 k) in
    let first : at l 1 < 2 ^ w.w = subst (λ (v : Widths). at l 1 < 2 ^ v.w) q sw.0 in
    let second : at l 3 < 2 ^ w.w = subst (λ (v : Widths). at l 3 < 2 ^ v.w) q sw.1 in
    let below = 2 ^ w.w * m in
    let small : at l 2 - 1 < m = omega arith in
    let small' : at l 4 - 1 < m = omega arith in
    record {
      at_ports = ports-append m (of_kind 2 before) (l ∷ []) a.at_ports (one, other, tt);
      within =
          ap (all (λ v. ltb v below)) (points-append m (of_kind 2 before) (l ∷ []))
          ∙ all_append (λ v. ltb v below) (points m (of_kind 2 before)) (ends m l)
          ∙ rw (a.within, lt-ltb (point_number m (at l 1) (at l 2)) below (digits_lt first small), lt-ltb (point_number m (at l 3) (at l 4)) below (digits_lt second small'));
      once = λ v. once_more m (of_kind 2 before) l a.at_ports one other j.one_free j.other_free j.two v (a.once v);
    }

-- at most 2^W (2^P − 2) points, so at most 224
pub few_links : (w : Widths) → Limits w → (ls : Net) → Apart w ls → length ls ≤ 112
few_links w l ls a =
    let n : length (points (ports w) ls) ≤ total (2 ^ w.w * ports w) (λ v. 1) =
    spread (λ v. v) (λ v. 1) (2 ^ w.w * ports w) (points (ports w) ls) a.within (λ v h. a.once v) in
    let p : 2 ^ w.p ≤ 16 = pow_mono l.high_p in
    let s : 2 ^ w.w ≤ 16 = pow_mono l.high_w in
    let t : ports w ≤ 14 = omega arith in
    let g : 2 ^ w.w * ports w ≤ 16 * 14 = mul-le-mul s t in
    omega (arith, n, total_ones (2 ^ w.w * ports w), length_points (ports w) ls, g)
