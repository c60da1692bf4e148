-- Laws of networks that rows 3 to 10 and 16 do not refuse: what holds of each record, and of records that follow one another.
use Rattle.std.specs.Prelude.{◌≡◌, Bool, ◌&&◌, ◌||◌, [], ◌∷◌, ◌++◌, ◌⊎◌, ℕ, zero, suc, ◌^◌, ◌<◌, ◌≤◌, ltb, length, get_or, take, drop}
use Rattle.std.proofs.Math.Path.{refl, subst⁻¹}
use Rattle.std.proofs.Common.{sym, subst, ◌∙◌, append_assoc, append-nil, inl, inr, ⊎_elim, not-suc-le-zero, le_of_suc-le-suc, arith}
use Rattle.std.proofs.Math.Bool.{true, false, not, and-false}
use Rattle.std.proofs.Math.Option.{none, some}
use Rattle.std.proofs.Math.Decide.{dec_lt}
use borrow.Author.Tests.{eq-eqb, eqb-true, eqb-false, ne_eqb, ltb-true, ltb-false, le-ltb, lt-ltb, leb-false, not-false}
use Rattle.std.proofs.Math.Dec.{eqb, leb}
use Rattle.basics.specs.Laws.Tests.{not_both, both, or_none, or_cases}
use Rattle.basics.specs.Lists.{keep, any}
use Rattle.format.specs.Record.{Rec, Net, at, kind, of_kind, present, most_rules, most_policies, most_nodes, most_groups, widths_of}
use Rattle.format.specs.Group.{groups_there}
use Rattle.format.specs.Policy.{nodes_of, policy_count}
use Rattle.widths.specs.Widths.{within_limits}
use Rattle.refusals.specs.Rows.{row3, row4, row5, row6, row7, row8, row9, row10, row16, misses_incomplete, operands_good, ends_policy, free_at, out_of_order}
use Rattle.format.specs.Fields.{fields_good}
use Rattle.refusals.specs.Refusal.{Refusal, or_else, row, record_row, file_row}
use Rattle.widths.specs.Laws.Limits.{Limits, limits}
use Rattle.format.specs.Laws.Fields.{miss_fields}
use Rattle.format.specs.Laws.Kinds.{is_rule, is_node, is_group_record, last_kind, last_kind_lem}

-- a record that no row refuses
pub record Passes (before : Net) (r : Rec) (after : Net) : Type 0 where
  pub not3 : row3 before r ≡ false
  pub not4 : row4 r ≡ false
  pub not5 : row5 before r ≡ false
  pub not6 : row6 before r ≡ false
  pub not7 : row7 before r ≡ false
  pub not8 : row8 before r ≡ false
  pub not9 : row9 before r after ≡ false
  pub not10 : row10 before r ≡ false
  pub not16 : row16 before r after ≡ false

not_some : {A : Type 0} {a : ℕ × ℕ} → some a ≡ none → A
not_some e = let z : ◌≡◌ {A = ℕ} 0 1 = cc in absurd (omega arith)

-- a row that refuses nothing is not met
pub not_met : (b : Bool) (n p : ℕ) → row b n p ≡ none → b ≡ false
not_met true n p e = not_some e
not_met false n p e = refl

-- the lowest of some rows is none if no row is met
lowest : (a b c d e f g h i : Bool) (p : ℕ)
    → or_else (row a 3 p) (or_else (row b 4 p) (or_else (row c 5 p) (or_else (row d 6 p) (or_else (row e 7 p) (or_else (row f 8 p) (or_else (row g 9 p) (or_else (row h 10 p) (row i 16 p)))))))) ≡ none
    → (a ≡ false) × (b ≡ false) × (c ≡ false) × (d ≡ false) × (e ≡ false) × (f ≡ false) × (g ≡ false) × (h ≡ false) × (i ≡ false)
lowest true b c d e f g h i p q = not_some q
lowest false true c d e f g h i p q = not_some q
lowest false false true d e f g h i p q = not_some q
lowest false false false true e f g h i p q = not_some q
lowest false false false false true f g h i p q = not_some q
lowest false false false false false true g h i p q = not_some q
lowest false false false false false false true h i p q = not_some q
lowest false false false false false false false true i p q = not_some q
lowest false false false false false false false false true p q = not_some q
lowest false false false false false false false false false p q = (refl, refl, refl, refl, refl, refl, refl, refl, refl)

module _ (before : Net) (r : Rec) (after : Net) where
  pub passes : record_row before r after ≡ none → Passes before r after
  unfolding record_row
  passes q =
      let t =
      lowest (row3 before r) (row4 r) (row5 before r) (row6 before r) (row7 before r) (row8 before r) (row9 before r after) (row10 before r) (row16 before r after) (length before) q in
      record { not3 = t.0; not4 = t.1; not5 = t.2; not6 = t.3; not7 = t.4; not8 = t.5; not9 = t.6; not10 = t.7; not16 = t.8 }

  no_row : Passes before r after → record_row before r after ≡ none
  unfolding record_row
  no_row s = rw (s.not3, s.not4, s.not5, s.not6, s.not7, s.not8, s.not9, s.not10, s.not16)

-- of two refusals neither
pub neither : (f later : Refusal) → or_else f later ≡ none → (f ≡ none) × (later ≡ none)
neither none later e = (refl, e)
neither (some f) later e = not_some e

pub or_else_none : (f : Refusal) → or_else f none ≡ f
or_else_none none = refl
or_else_none (some f) = refl

both_none : (f later : Refusal) → f ≡ none → later ≡ none → or_else f later ≡ none
both_none none later e q = q
both_none (some f) later e q = not_some e

-- a file passes by its first record and those after it
module _ (before : Net) (r : Rec) (after : Net) where
  pub file_step : file_row before (r ∷ after) ≡ none → Passes before r after × (file_row (before ++ (r ∷ [])) after ≡ none)
  unfolding file_row
  file_step e =
      let t = neither (record_row before r after) (file_row (before ++ (r ∷ [])) after) e in
      (passes before r after t.0, t.1)

  pub step_file : Passes before r after → file_row (before ++ (r ∷ [])) after ≡ none → file_row before (r ∷ after) ≡ none
  unfolding file_row
  step_file s e = both_none (record_row before r after) (file_row (before ++ (r ∷ [])) after) (no_row before r after s) e

-- and at the end, if the misses are complete
pub file_end : (before : Net) → file_row before [] ≡ none → misses_incomplete before ≡ false
unfolding file_row
file_end before e = not_met (misses_incomplete before) 7 (length before) e

pub end_file : (before : Net) → misses_incomplete before ≡ false → file_row before [] ≡ none
unfolding file_row
end_file before e = rw e

-- a network that passes has a record, since one without a miss for a switch is incomplete
pub not_empty : (net : Net) → file_row [] net ≡ none → 0 < length net
unfolding misses_incomplete of_kind keep widths_of
not_empty [] e = not_both refl (file_end [] e)
not_empty (r ∷ rest) e = omega arith

-- what each record that passes carries on, from what is read and what is left, holds at the end
module _ (I : Net → Net → Type 0) (step : (before : Net) (r : Rec) (after : Net) → Passes before r after → I before (r ∷ after) → I (before ++ (r ∷ [])) after) where
  pub carried : (rest before : Net) → file_row before rest ≡ none → I before rest → I (before ++ rest) []
  carried [] before e i = subst⁻¹ (λ (l : Net). I l []) (append-nil before) i
  carried (r ∷ rest) before e i =
      let t = file_step before r rest e in
      subst (λ (l : Net). I l []) (append_assoc before (r ∷ []) rest) (carried rest (before ++ (r ∷ [])) t.1 (step before r rest t.0 i))

-- no miss is missing
pub misses_complete : (before rest : Net) → file_row before rest ≡ none → misses_incomplete (before ++ rest) ≡ false
misses_complete before [] e = rw (append-nil before) (file_end before e)
misses_complete before (r ∷ rest) e =
    subst (λ (l : Net). misses_incomplete l ≡ false) (append_assoc before (r ∷ []) rest)
    (misses_complete (before ++ (r ∷ [])) rest (file_step before r rest e).1)

-- each record passes after those before it
pub clean_from : (before rest : Net) (i : ℕ) → file_row before rest ≡ none → i < length rest → Passes (before ++ take i rest) (get_or rest i []) (drop (suc i) rest)
clean_from before [] i e h = absurd (not-suc-le-zero h)
clean_from before (r ∷ rest) zero e h = rw (append-nil before) (file_step before r rest e).0
clean_from before (r ∷ rest) (suc i) e h =
    subst (λ (l : Net). Passes l (get_or rest i []) (drop (suc i) rest)) (append_assoc before (r ∷ []) (take i rest))
    (clean_from (before ++ (r ∷ [])) rest i (file_step before r rest e).1 (le_of_suc-le-suc h))

pub clean_at : (net : Net) (i : ℕ) → file_row [] net ≡ none → i < length net → Passes (take i net) (get_or net i []) (drop (suc i) net)
clean_at net i e h = clean_from [] net i e h

-- a row is not met though its first test is
pub and_test : (a b : Bool) → (a && b) ≡ false → a ≡ true → b ≡ false
and_test true b e t = e
and_test false b e t = not_both t refl

-- what every record passed on holds of the whole
pub clean_all : (P : Net → Type 0) → ((before : Net) (r : Rec) (after : Net) → P before → Passes before r after → P (before ++ (r ∷ [])))
    → (before rest : Net) → P before → file_row before rest ≡ none → P (before ++ rest)
clean_all P step before rest p e = carried (λ b a. P b) (λ b r a s i. step b r a i s) rest before e p

-- a kind that a record may have
pub kind_known : (k : ℕ) → (5 < k → k ≡ 9) → (ltb 5 k && not (eqb k 9)) ≡ false
kind_known k group = go (dec_lt 5 k)
  where
    go : Dec (5 < k) → (ltb 5 k && not (eqb k 9)) ≡ false
    go (yes h) = rw (eq-eqb k 9 (group h)) (and-false (ltb 5 k))
    go (no h) = rw (le-ltb 5 k (omega arith))

-- what row 3 leaves of a record's kind
pub record Ordered (before : Net) (r : Rec) : Type 0 where
  pub low : 1 ≤ kind r
  pub high : kind r ≤ 9
  pub group : 5 < kind r → kind r ≡ 9
  pub ascends : last_kind before ≤ kind r
  pub first : length before ≡ 0 → kind r ≡ 1
  pub later : 0 < length before → kind r ≡ 1 → ⊥

module _ (before : Net) (r : Rec) where
  pub ordered : row3 before r ≡ false → Ordered before r
  unfolding row3
  ordered e =
      let a = or_none _ _ e in
      let b = or_none _ _ a.0 in
      let c = or_none _ _ b.0 in
      let d = or_none _ _ c.0 in
      record {
        low = ltb-false (kind r) 1 d.0;
        high = high_kind (group_kind d.1);
        group = group_kind d.1;
        ascends = ltb-false (kind r) (last_kind before) c.1;
        first = λ z. eqb-true (kind r) 1 (not-false (eqb (kind r) 1) (and_test _ _ b.1 (eq-eqb (length before) 0 z)));
        later = λ l q. eqb-false (kind r) 1 (and_test _ _ a.1 (lt-ltb 0 (length before) l)) q;
      }
    where
      group_kind : (ltb 5 (kind r) && not (eqb (kind r) 9)) ≡ false → 5 < kind r → kind r ≡ 9
      group_kind e l = eqb-true (kind r) 9 (not-false (eqb (kind r) 9) (and_test _ _ e (lt-ltb 5 (kind r) l)))

      high_kind : (5 < kind r → kind r ≡ 9) → kind r ≤ 9
      high_kind g = go (dec_lt 5 (kind r))
        where
          go : Dec (5 < kind r) → kind r ≤ 9
          go (yes l) = omega (arith, g l)
          go (no l) = omega arith

  -- after some record
  pub ordered_later : 0 < length before → 1 < kind r → (5 < kind r → kind r ≡ 9) → last_kind before ≤ kind r → row3 before r ≡ false
  unfolding row3
  ordered_later l low group order =
      rw (
        le-ltb (kind r) 1 (omega arith),
        kind_known (kind r) group,
        le-ltb (kind r) (last_kind before) order,
        ne_eqb (length before) 0 (λ q. omega arith),
        lt-ltb 0 (length before) l,
        ne_eqb (kind r) 1 (λ q. omega arith),
      )

-- what the rows say of a record that passes them
module _ (before : Net) (r : Rec) (after : Net) (p : Passes before r after) where
  pub widths_within : kind r ≡ 1 → Limits (widths_of (r ∷ []))
  unfolding row4
  widths_within k = limits (widths_of (r ∷ [])) (not-false (within_limits (widths_of (r ∷ []))) (and_test _ _ p.not4 (eq-eqb (kind r) 1 k)))

  -- what row 16 tests of a group
  group_tests : is_group_record r ≡ true → (fields_good (widths_of before) r ≡ true) × (out_of_order before r ≡ false) × (length (of_kind 9 before) < most_groups)
  unfolding row16
  group_tests k =
      let faulty = not (fields_good (widths_of before) r) in
      let many = leb most_groups (length (of_kind 9 before)) in
      let own = (or_none (is_group_record r && (faulty || out_of_order before r || many)) (not (groups_there (before ++ (r ∷ after)) r)) p.not16).0 in
      let a = or_none (faulty || out_of_order before r) many (and_test (is_group_record r) (faulty || out_of_order before r || many) own k) in
      let b = or_none faulty (out_of_order before r) a.0 in
      (not-false _ b.0, b.1, leb-false most_groups (length (of_kind 9 before)) a.1)

  pub group_ascends : kind r ≡ 9 → out_of_order before r ≡ false
  group_ascends k = (group_tests (eq-eqb (kind r) 9 k)).1

  pub group_room : kind r ≡ 9 → length (of_kind 9 before) < most_groups
  group_room k = (group_tests (eq-eqb (kind r) 9 k)).2

  pub fields_good_lem : fields_good (widths_of before) r ≡ true
  unfolding row5
  fields_good_lem = go (is_group_record r) refl p.not5
    where
      go : (b : Bool) → is_group_record r ≡ b → (not b && not (fields_good (widths_of before) r)) ≡ false → fields_good (widths_of before) r ≡ true
      go true k e = (group_tests k).0
      go false k e = not-false (fields_good (widths_of before) r) e

  pub miss_next : kind r ≡ 3 → at r 1 ≡ length (of_kind 3 before)
  unfolding row7
  miss_next k = eqb-true _ _ (not-false _ (and_test _ _ (or_none _ _ p.not7).0 (eq-eqb (kind r) 3 k)))

  pub miss_switch : kind r ≡ 3 → at r 1 < 2 ^ (widths_of before).w
  miss_switch k =
      let a = both _ _ (sym (miss_fields (widths_of before) r k) ∙ fields_good_lem) in
      ltb-true _ _ (both _ _ (both _ _ a.0).0).0

  pub misses_before : 3 < kind r → misses_incomplete before ≡ false
  unfolding row7
  misses_before l =
      and_test _ _ (or_none (eqb (kind r) 3 && not (eqb (at r 1) (length (of_kind 3 before)))) (ltb 3 (kind r) && misses_incomplete before) p.not7).1
      (lt-ltb 3 (kind r) l)

  pub rule_new : kind r ≡ 4 → present r before ≡ false
  unfolding row8
  rule_new k = and_test _ _ p.not8 (eq-eqb (kind r) 4 k)

  pub rule_room : kind r ≡ 4 → length (of_kind 4 before) < most_rules
  unfolding row10
  rule_room k = leb-false most_rules (length (of_kind 4 before)) (and_test _ _ (or_none _ _ p.not10).0 (eq-eqb (kind r) 4 k))

  pub node_room : kind r ≡ 5 → (at r 1 < most_policies) × (length (nodes_of (at r 1) before) < most_nodes)
  unfolding row10
  node_room k =
      let many = leb most_policies (at r 1) || leb most_nodes (length (nodes_of (at r 1) before)) in
      let n = or_none _ _ (and_test _ _ (or_none (is_rule r && leb most_rules (length (of_kind 4 before))) (is_node r && many) p.not10).1 (eq-eqb (kind r) 5 k)) in
      (leb-false most_policies (at r 1) n.0, leb-false most_nodes (length (nodes_of (at r 1) before)) n.1)

  node_tests : kind r ≡ 5
      → (operands_good (at r 2) (at r 3) (at r 4) (length (nodes_of (at r 1) before)) ≡ true)
      × ((eqb (suc (at r 1)) (policy_count before) || eqb (at r 1) (policy_count before)) ≡ true)
      × ((ends_policy r after && free_at before r) ≡ false)
  unfolding row9
  node_tests k =
      let operands = operands_good (at r 2) (at r 3) (at r 4) (length (nodes_of (at r 1) before)) in
      let follows = eqb (suc (at r 1)) (policy_count before) || eqb (at r 1) (policy_count before) in
      let a = or_none (not operands || not follows) (ends_policy r after && free_at before r) (and_test _ _ p.not9 (eq-eqb (kind r) 5 k)) in
      let b = or_none (not operands) (not follows) a.0 in
      (not-false operands b.0, not-false follows b.1, a.1)

  pub node_operands : kind r ≡ 5 → operands_good (at r 2) (at r 3) (at r 4) (length (nodes_of (at r 1) before)) ≡ true
  node_operands k = (node_tests k).0

  pub node_follows : kind r ≡ 5 → (suc (at r 1) ≡ policy_count before) ⊎ (at r 1 ≡ policy_count before)
  node_follows k = ⊎_elim (λ e. inl (eqb-true _ _ e)) (λ e. inr (eqb-true _ _ e)) (or_cases _ _ (node_tests k).1)

  pub node_closed : kind r ≡ 5 → ends_policy r after ≡ true → free_at before r ≡ false
  node_closed k e = and_test _ _ (node_tests k).2 e

-- kinds rise: from the last record read to any that is left
pub rising : (xs before : Net) (r : Rec) (after : Net) → file_row before (xs ++ (r ∷ after)) ≡ none → last_kind before ≤ kind r
rising [] before r after e = (ordered before r (file_step before r after e).0.not3).ascends
rising (x ∷ xs) before r after e =
    let t = file_step before x (xs ++ (r ∷ after)) e in
    let o : last_kind before ≤ kind x = (ordered before x t.0.not3).ascends in
    omega (arith, o, last_kind_lem before x, rising xs (before ++ (x ∷ [])) r after t.1)

-- no node stands before a rule
pub no_node_before : (xs before : Net) (r : Rec) (after : Net) → kind r ≡ 4 → file_row before (xs ++ (r ∷ after)) ≡ none → any is_node xs ≡ false
unfolding any
no_node_before [] before r after q e = refl
no_node_before (x ∷ xs) before r after q e =
    let t = file_step before x (xs ++ (r ∷ after)) e in
    let o : kind x ≤ 4 = omega (arith, q, last_kind_lem before x, rising xs (before ++ (x ∷ [])) r after t.1) in
    rw (ne_eqb (kind x) 5 (λ p. omega arith)) (no_node_before xs (before ++ (x ∷ [])) r after q t.1)

-- and no rule after a node
pub no_rule_after : (rest before : Net) → 5 ≤ last_kind before → file_row before rest ≡ none → any is_rule rest ≡ false
unfolding any
no_rule_after [] before l e = refl
no_rule_after (r ∷ rest) before l e =
    let t = file_step before r rest e in
    let o : last_kind before ≤ kind r = (ordered before r t.0.not3).ascends in
    let k : 5 ≤ last_kind (before ++ (r ∷ [])) = omega (arith, last_kind_lem before r) in
    rw (ne_eqb (kind r) 4 (λ p. omega arith)) (no_rule_after rest (before ++ (r ∷ [])) k t.1)
