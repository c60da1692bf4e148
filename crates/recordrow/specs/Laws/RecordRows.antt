-- Laws of the rows that a record of each kind can meet, in their order.
use Rattle.std.specs.Prelude.{◌≡◌, Bool, true, false, ◌&&◌, ◌||◌, [], ◌∷◌, ◌++◌, ◌⊎◌, eqb, leb, ltb, length}
use Rattle.std.proofs.Math.Path.{refl, sym, ap}
use Rattle.std.proofs.Common.{◌∙◌, true≢false, arith}
use Rattle.std.proofs.Math.Bool.{not, and-true, and-false, or-false}
use Rattle.std.proofs.Math.Logic.{inl, inr}
use Rattle.std.proofs.Math.Option.{none, some}
use Prim.Native.Nat.{ℕ, zero, suc, ◌≤◌, ◌<◌}
use Rattle.std.proofs.Math.Dec.{eqb-suc-zero}
use borrow.Author.Tests.{ne_eqb, lt-ltb, le-ltb}
use Rattle.format.specs.Record.{Rec, Net, at, kind, of_kind, present, most_rules, most_groups, widths_of}
use Rattle.format.specs.Group.{actions_there, buckets_there, groups_there}
use Rattle.widths.specs.Widths.{within_limits}
use Rattle.refusals.specs.Rows.{row3, row4, row5, row6, row7, row8, row9, row10, row16, misses_incomplete, out_of_order}
use Rattle.format.specs.Fields.{fields_good}
use Rattle.refusals.specs.Refusal.{Refusal, or_else, row, record_row}
use Rattle.format.specs.Laws.Groups.{widths_there, link_there, miss_there, rule_there, node_there, group_there}
use Rattle.refusals.specs.Laws.Passing.{kind_known}
use Rattle.recordrow.specs.Scan.{SeenOf, form_row, Later}
use Rattle.noderows.specs.Policies.{node_row}
use Rattle.recordrow.specs.declared.Seen.{Seen}

-- refusals in a row
pub or_else_none : (x : Refusal) → or_else x none ≡ x
or_else_none none = refl
or_else_none (some f) = refl

pub or_else_assoc : (x y z : Refusal) → or_else x (or_else y z) ≡ or_else (or_else x y) z
or_else_assoc none y z = refl
or_else_assoc (some f) y z = refl

module _ (before : Net) (r : Rec) (after : Net) where
  -- rows 3 and 5 first, then those of the kind
  form_first : (x : Refusal) → or_else (row (row3 before r) 3 (length before)) (or_else (row (row5 before r) 5 (length before)) x) ≡ or_else (form_row before r) x
  form_first x = or_else_assoc (row (row3 before r) 3 (length before)) (row (row5 before r) 5 (length before)) x

  -- row 16 of a record that is no group, and of one that names none
  named_row : (kind r ≡ 9 → ⊥) → row16 before r after ≡ not (groups_there (before ++ (r ∷ after)) r)
  unfolding row16
  named_row n = rw (ne_eqb (kind r) 9 n)

  no_name : (kind r ≡ 9 → ⊥) → groups_there (before ++ (r ∷ after)) r ≡ true → row16 before r after ≡ false
  no_name n e = named_row n ∙ rw e

  pub widths_rows : kind r ≡ 1
      → record_row before r after ≡ or_else (row (row3 before r) 3 (length before)) (or_else (row (row4 r) 4 (length before)) (row (row5 before r) 5 (length before)))
  unfolding record_row row6 row7 row8 row9 row10
  widths_rows k =
      let n = no_name (λ q. omega (arith, q, k)) (widths_there (before ++ (r ∷ after)) r k) in
      rw (k, n, or_else_none (row (row5 before r) 5 (length before)))

  pub link_rows : kind r ≡ 2 → record_row before r after ≡ or_else (form_row before r) (row (row6 before r) 6 (length before))
  unfolding record_row row4 row7 row8 row9 row10
  link_rows k =
      let n = no_name (λ q. omega (arith, q, k)) (link_there (before ++ (r ∷ after)) r k) in
      rw (k, n, or_else_none (row (row6 before r) 6 (length before))) (form_first (row (row6 before r) 6 (length before)))

  -- row 16 of a miss or a rule
  absent : Refusal
  absent = row (not (actions_there (before ++ (r ∷ after)) r)) 16 (length before)

  pub miss_rows : kind r ≡ 3
      → record_row before r after
      ≡ or_else (form_row before r)
      (or_else (row (not (eqb (at r 1) (length (of_kind 3 before)))) 7 (length before)) (row (not (actions_there (before ++ (r ∷ after)) r)) 16 (length before)))
  unfolding record_row row4 row6 row7 row8 row9 row10 absent
  miss_rows k =
      let n = named_row (λ q. omega (arith, q, k)) ∙ ap not (miss_there (before ++ (r ∷ after)) r k) in
      let x : Refusal = or_else (row (not (eqb (at r 1) (length (of_kind 3 before)))) 7 (length before)) absent in
      rw (k, n, or-false (not (eqb (at r 1) (length (of_kind 3 before))))) (form_first x)

  pub rule_rows : kind r ≡ 4
      → record_row before r after
      ≡ or_else (form_row before r)
      (or_else (row (misses_incomplete before) 7 (length before))
      (or_else (row (present r before) 8 (length before))
      (or_else (row (leb most_rules (length (of_kind 4 before))) 10 (length before)) (row (not (actions_there (before ++ (r ∷ after)) r)) 16 (length before)))))
  unfolding record_row row4 row6 row7 row8 row9 row10 absent
  rule_rows k =
      let n = named_row (λ q. omega (arith, q, k)) ∙ ap not (rule_there (before ++ (r ∷ after)) r k) in
      rw (k, n, or-false (leb most_rules (length (of_kind 4 before))))
      (form_first
      (or_else (row (misses_incomplete before) 7 (length before))
      (or_else (row (present r before) 8 (length before)) (or_else (row (leb most_rules (length (of_kind 4 before))) 10 (length before)) absent))))

  pub node_rows : kind r ≡ 5
      → record_row before r after ≡ or_else (form_row before r) (or_else (row (misses_incomplete before) 7 (length before)) (node_row before r after))
  unfolding record_row row4 row6 row7 row8 node_row
  node_rows k =
      let n = no_name (λ q. omega (arith, q, k)) (node_there (before ++ (r ∷ after)) r k) in
      rw (k, n, or_else_none (row (row10 before r) 10 (length before))) (form_first (or_else (row (misses_incomplete before) 7 (length before)) (node_row before r after)))

  pub group_rows : kind r ≡ 9
      → record_row before r after
      ≡ or_else (row (row3 before r) 3 (length before)) (or_else (row (misses_incomplete before) 7 (length before)) (row (row16 before r after) 16 (length before)))
  unfolding record_row row4 row5 row6 row7 row8 row9 row10
  group_rows k = rw k

  -- a kind that no record of a network has
  pub kind-zero : kind r ≡ 0 → record_row before r after ≡ some (3, length before)
  unfolding record_row row3
  kind-zero k = rw k

  pub kind_above : 5 < kind r → (kind r ≡ 9 → ⊥) → record_row before r after ≡ some (3, length before)
  unfolding record_row row3
  kind_above h n = rw (le-ltb (kind r) 1 (omega arith), lt-ltb 5 (kind r) h, ne_eqb (kind r) 9 n)

-- the kinds 2 to 5 come after the widths, and are no group
pub later : (r : Rec) → 2 ≤ kind r → kind r ≤ 5 → Later r
later r low high = (low, λ g. absurd (omega arith))

-- the kinds below 6 are no group
no_group : (r : Rec) → kind r ≤ 5 → kind r ≡ 9 → ⊥
no_group r high e = omega arith

positive : (n : ℕ) → ltb 0 n ≡ not (eqb n 0)
positive zero = refl
positive (suc n) = lt-ltb 0 (suc n) (omega arith) ∙ ap not (sym (eqb-suc-zero n))

first_order : (a e : Bool) → (a ≡ false ⊎ e ≡ false) → (a || (e && false) || (not e && true)) ≡ not e
first_order true true (inl q) = absurd (true≢false q)
first_order true true (inr q) = absurd (true≢false q)
first_order true false h = refl
first_order false true h = refl
first_order false false h = refl

or_swap : (a e : Bool) → (a || e || false) ≡ (e || a)
or_swap true true = refl
or_swap true false = refl
or_swap false true = refl
or_swap false false = refl

module _ (before : Net) (s : Seen) (known : SeenOf before s) (r : Rec) where
  -- row 3 on the widths record, and on the kinds after it
  pub widths_order : kind r ≡ 1 → row3 before r ≡ not (eqb s.last 0)
  unfolding row3
  widths_order k =
      rw (k, ← known.last, positive (length before), known.started) (first_order (ltb 1 s.last) (eqb s.last 0) (go s.last))
    where
      go : (n : ℕ) → (ltb 1 n ≡ false) ⊎ (eqb n 0 ≡ false)
      go zero = inl refl
      go (suc n) = inr (eqb-suc-zero n)

  pub later_order : Later r → row3 before r ≡ (eqb s.last 0 || ltb (kind r) s.last)
  unfolding row3
  later_order later =
      let l : 2 ≤ kind r = later.0 in
      let a = le-ltb (kind r) 1 (omega arith) in
      let b = kind_known (kind r) later.1 in
      let e = ne_eqb (kind r) 1 (λ q. omega (arith, q, l)) in
      simp (a, b, e, sym known.last, known.started, and-true, and-false) (or_swap (ltb (kind r) s.last) (eqb s.last 0))

  -- row 5 by the widths known
  pub fields_row : (kind r ≡ 9 → ⊥) → row5 before r ≡ not (fields_good s.widths r)
  unfolding row5
  fields_row n = rw (known.widths, ne_eqb (kind r) 9 n)

  -- row 3 is met; row 5 is, and not row 3; neither is
  module _ (met : Bool) (placed : met ≡ row3 before r) (x : Refusal) where
    pub order_first : met ≡ true → or_else (form_row before r) x ≡ some (3, length before)
    order_first e = rw (sym placed ∙ e)

    pub fields_first : met ≡ false → kind r ≤ 5 → fields_good s.widths r ≡ false → or_else (form_row before r) x ≡ some (5, length before)
    fields_first e h f = rw (sym placed ∙ e, fields_row (no_group r h), f)

    pub formed : met ≡ false → kind r ≤ 5 → fields_good s.widths r ≡ true → or_else (form_row before r) x ≡ x
    formed e h f = rw (sym placed ∙ e, fields_row (no_group r h), f)

  -- row 16 of a group by what is known
  pub group_row : (after : Net) → kind r ≡ 9
      → row16 before r after
      ≡ (not (fields_good s.widths r) || out_of_order before r || leb most_groups s.groups.count || not (buckets_there (before ++ (r ∷ after)) r))
  unfolding row16
  group_row after k = rw (known.widths, known.groups.count, group_there (before ++ (r ∷ after)) r k, k)

-- row 4 of the widths record
pub limits_row : (r : Rec) → kind r ≡ 1 → row4 r ≡ not (within_limits (widths_of (r ∷ [])))
unfolding row4
limits_row r k = rw k
