-- The keys of rules and the points of links that are noted, record by record.
use Rattle.std.proofs.Common.{eqb-true, ne_eqb, ltb-true, ◌∙◌, inl, inr, arith, lit<, pow_mono, get_or-take, get_or-drop}
use Rattle.std.specs.Prelude.{◌≡◌, refl, Bool, false, ◌&&◌, List, [], ◌∷◌, ◌++◌, ◌⊎◌, ℕ, ◌+◌, ◌^◌, ◌<◌, ◌≤◌, ltb, get_or, take, drop, replicate}
use Rattle.std.proofs.Math.Path.{sym, ap, ap₂}
use Rattle.std.proofs.Math.Bool.{true, ◌||◌, or-true, or-false}
use Rattle.std.proofs.lemmas.Bool.{false≢true}
use Rattle.std.proofs.Math.Dec.{eqb}
use Rattle.planes.specs.Plane.{bit}
use Rattle.planes.specs.Lines.{BitSet}
use Rattle.planes.specs.Laws.Lines.{no_bit, set_bit}
use Rattle.basics.specs.Laws.Tests.{and_left, and_right, both, or_cases, not_both, false_of}
use Rattle.basics.specs.Lists.{any, keep, same_numbers}
use Rattle.format.specs.Record.{Rec, Net, at, kind, records, of_kind, same_rule, present, ends_at, linked}
use Rattle.format.specs.Fields.{zeros, point_good, fields_good}
use Rattle.format.specs.Laws.Fields.{link_fields}
use Rattle.widths.specs.Laws.Limits.{Limits}
use Rattle.basics.specs.Laws.Lists.{any_keep, any_snoc, same_numbers_lem}
use Rattle.widths.specs.declared.Widths.{Widths}
use Rattle.rows.specs.Noted.{key_bit, KeysNoted, PointsNoted, EndsNamed}
use Rattle.rows.specs.Table.{table_bit}
use Rattle.rows.specs.Laws.Groups.{one_bit}

-- the same rules have one bit
same_byte : (c r : Rec) → take 7 (drop 1 c) ≡ take 7 (drop 1 r) → (i : ℕ) → i < 7 → at c (1 + i) ≡ at r (1 + i)
same_byte c r e i h = sym (byte c) ∙ ap (λ (k : List ℕ). get_or k i 0) e ∙ byte r
  where
    byte : (q : Rec) → get_or (take 7 (drop 1 q)) i 0 ≡ at q (1 + i)
    byte q = get_or-take 7 (drop 1 q) i 0 h ∙ get_or-drop 1 q i 0

same_bit : (c r : Rec) → same_rule c r ≡ true → key_bit c ≡ key_bit r
unfolding same_rule key_bit
same_bit c r e =
    let m = same_byte c r (same_numbers_lem (take 7 (drop 1 c)) (take 7 (drop 1 r)) (and_right (eqb (kind r) 4) (same_numbers (take 7 (drop 1 c)) (take 7 (drop 1 r))) e)) in
    rw (m 0 (lit< tt), m 1 (lit< tt), m 2 (lit< tt), m 3 (lit< tt), m 4 (lit< tt), m 5 (lit< tt), m 6 (lit< tt))

-- no record has no rule
pub keys_none : (s : List ℕ) → KeysNoted (records 0 s) (replicate 512 0)
unfolding records present any
keys_none s = record { set = λ c e. absurd (false≢true e) }

-- a rule whose bit is not set is not there
pub new_rule : (net : Net) (keys : List ℕ) (r : Rec) → KeysNoted net keys → bit keys (key_bit r) ≡ false → false ≡ present r net
new_rule net keys r K e = sym (false_of (present r net) (λ p. not_both (K.set r p) e))

-- one record more: another than a rule, or a rule whose bit is set with those set before
module _ (net : Net) (keys : List ℕ) (r : Rec) (K : KeysNoted net keys) where
  pub keys_other : (kind r ≡ 4 → ⊥) → KeysNoted (net ++ (r ∷ [])) keys
  unfolding present same_rule
  keys_other n = record {
    set = λ c e. go c (or_cases (present c net) (same_rule c r) (sym (any_snoc (same_rule c) net r) ∙ e));
  }
    where
      go : (c : Rec) → (present c net ≡ true) ⊎ (same_rule c r ≡ true) → bit keys (key_bit c) ≡ true
      go c (inl p) = K.set c p
      go c (inr p) = absurd (n (eqb-true (kind r) 4 (and_left (eqb (kind r) 4) (same_numbers (take 7 (drop 1 c)) (take 7 (drop 1 r))) p)))

  pub keys_rule : (after : List ℕ) → ((m : ℕ) → bit keys m ≡ true → bit after m ≡ true) → bit after (key_bit r) ≡ true → KeysNoted (net ++ (r ∷ [])) after
  unfolding present same_rule
  keys_rule after kept here = record {
    set = λ c e. go c (or_cases (present c net) (same_rule c r) (sym (any_snoc (same_rule c) net r) ∙ e));
  }
    where
      go : (c : Rec) → (present c net ≡ true) ⊎ (same_rule c r ≡ true) → bit after (key_bit c) ≡ true
      go c (inl p) = kept (key_bit c) (K.set c p)
      go c (inr p) = ap (bit after) (same_bit c r p) ∙ here

  pub keys_set : (n : ℕ) (after : List ℕ) → n ≡ key_bit r → BitSet n keys after → KeysNoted (net ++ (r ∷ [])) after
  keys_set n after e S = keys_rule after (λ m h. set_bit n m keys after S ∙ rw h (or-true (eqb m n))) (ap (bit after) (sym e) ∙ S.here)

-- whether some link ends at a point, with one record more
linked_more : (net : Net) (r : Rec) (sw p : ℕ) → linked (net ++ (r ∷ [])) sw p ≡ (linked net sw p || (eqb (kind r) 2 && ends_at sw p r))
unfolding linked of_kind
linked_more net r sw p =
    any_keep (ends_at sw p) (λ x. eqb (kind x) 2) (net ++ (r ∷ [])) ∙ any_snoc (λ x. eqb (kind x) 2 && ends_at sw p x) net r
    ∙ ap (λ (b : Bool). b || (eqb (kind r) 2 && ends_at sw p r)) (sym (any_keep (ends_at sw p) (λ x. eqb (kind x) 2) net))

-- no record has no link
pub points_none : (s : List ℕ) → PointsNoted (records 0 s) (replicate 32 0)
unfolding records linked of_kind keep any
points_none s = record { is = λ sw p hs hp. no_bit 32 (table_bit sw p) }

two_ends : (b x y : Bool) → b || (x || y) ≡ (y || (x || b))
two_ends true true true = refl
two_ends true true false = refl
two_ends true false true = refl
two_ends true false false = refl
two_ends false true true = refl
two_ends false true false = refl
two_ends false false true = refl
two_ends false false false = refl

-- one record more: another than a link, or a link whose two points are set
module _ (net : Net) (points : List ℕ) (r : Rec) (P : PointsNoted net points) where
  pub points_other : (kind r ≡ 2 → ⊥) → PointsNoted (net ++ (r ∷ [])) points
  points_other n = record { is = λ sw p hs hp. P.is sw p hs hp ∙ sym (linked_more net r sw p ∙ rw (ne_eqb (kind r) 2 n) (or-false (linked net sw p))) }

  pub points_link : (b c : List ℕ) → kind r ≡ 2 → EndsNamed r → BitSet (table_bit (at r 1) (at r 2)) points b → BitSet (table_bit (at r 3) (at r 4)) b c
      → PointsNoted (net ++ (r ∷ [])) c
  unfolding ends_at
  points_link b c k E S T = record {
    is = λ sw p hs hp.
        let q = table_bit sw p in
        set_bit (table_bit (at r 3) (at r 4)) q b c T
        ∙ ap₂ ◌||◌ (one_bit sw p (at r 3) (at r 4) hp E.other.1)
        (set_bit (table_bit (at r 1) (at r 2)) q points b S ∙ ap₂ ◌||◌ (one_bit sw p (at r 1) (at r 2) hp E.one.1) (P.is sw p hs hp))
        ∙ sym (linked_more net r sw p ∙ rw k (two_ends (linked net sw p) (eqb (at r 1) sw && eqb (at r 2) p) (eqb (at r 3) sw && eqb (at r 4) p)));
  }

-- good fields of a link name points that have bits
pub ends_named : (w : Widths) → Limits w → (r : Rec) → kind r ≡ 2 → fields_good w r ≡ true → EndsNamed r
unfolding point_good
ends_named w limits r k e =
    let ends = and_left (point_good w (at r 1) (at r 2) && point_good w (at r 3) (at r 4)) (zeros 5 23 r) (sym (link_fields w r k) ∙ e) in
    let points = both (point_good w (at r 1) (at r 2)) (point_good w (at r 3) (at r 4)) ends in
    record { one = named (at r 1) (at r 2) points.0; other = named (at r 3) (at r 4) points.1 }
  where
    named : (sw p : ℕ) → point_good w sw p ≡ true → (sw < 16) × (p < 16)
    named sw p g =
        let m : 2 ^ w.w ≤ 2 ^ 4 = pow_mono limits.high_w in
        let l : 2 ^ w.p ≤ 2 ^ 4 = pow_mono limits.high_p in
        let t = both (ltb sw (2 ^ w.w)) (ltb p (2 ^ w.p)) g in
        (omega (arith, m, ltb-true sw (2 ^ w.w) t.0), omega (arith, l, ltb-true p (2 ^ w.p) t.1))
