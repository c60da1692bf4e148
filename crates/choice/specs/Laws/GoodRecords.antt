-- The links, the misses, the rules and the groups of a store, by their places.
use Rattle.std.specs.Prelude.{◌≡◌, true, ◌&&◌, List, [], ℕ, ◌+◌, ◌-◌, ◌*◌, ◌^◌, ◌<◌, ◌≤◌, length, get_or, drop}
use Rattle.std.proofs.Common.{sym, ap, subst, ◌∙◌, arith, length-drop, take_all, length-take-le}
use Rattle.std.proofs.Math.Path.{subst⁻¹}
use Rattle.std.proofs.Math.Decide.{dec_lt}
use Rattle.basics.specs.Laws.Tests.{and_left, both}
use Rattle.format.specs.Record.{Rec, Net, at, most_rules, records, of_kind}
use Rattle.format.specs.Fields.{zeros, point_good, match_good, actions_good, buckets_good, fields_good}
use Rattle.format.specs.Laws.Fields.{link_fields, rule_fields, miss_actions, rule_actions, group_parts}
use Rattle.widths.specs.Laws.Limits.{limits}
use Rattle.format.specs.Search.{record_at}
use Rattle.format.specs.Laws.Records.{length_records, record_at_lem}
use Rattle.format.specs.Laws.Parts.{part_at, kind_at}
use Rattle.format.specs.Laws.NamedGroups.{match_switch}
use Rattle.scan.specs.declared.Layout.{Layout}
use Rattle.scan.specs.Layout.{LayoutOf}
use Rattle.scan.specs.Stored.{Stored}

module _ (n : ℕ) (l : Layout) (s : List ℕ) (st : Stored n l s) where
  abbrev net : Net
  net = records n s

  -- the groups stand after the nodes, up to the end
  pub groups_in : (l.nodes ≤ l.groups) × (l.groups ≤ n)
  groups_in = (st.laid.within.0, omega (arith, st.laid.within, length_records n s))

  pub groups_at : of_kind 9 (records n s) ≡ drop l.groups (records n s)
  groups_at = st.laid.groups

  pub in_store_lem : l.nodes ≤ n
  in_store_lem = omega (arith, groups_in)

  pub in_net : l.nodes ≤ length (records n s)
  in_net = omega (arith, in_store_lem, length_records n s)

  -- a record before the nodes is one of the n, and the store has the whole of it
  pub record_in : (i : ℕ) → i < l.nodes → i < n
  record_in i h = omega (arith, in_store_lem)

  pub record_room : (i : ℕ) → i < l.nodes → i * 24 + 24 ≤ length s
  record_room i h = omega (arith, record_in i h, st.room)

  -- a rule's number among the rules
  pub rule_number : (i : ℕ) → i < l.nodes → i - l.rules < most_rules
  rule_number i h = omega (arith, st.laid.few_rules)

  -- the fields of a link, the actions of a record that may act, and the buckets of a group
  pub link_good : (i : ℕ) → 1 ≤ i → i < l.misses
      → let r = get_or (records n s) i [] in (point_good l.widths (at r 1) (at r 2) ≡ true) × (point_good l.widths (at r 3) (at r 4) ≡ true)
  link_good i a b =
      let r = get_or net i [] in
      let q = st.laid in
      let h : i < l.nodes = omega (arith, q.switches, q.few_rules) in
      let k = kind_at 2 net 1 l.misses i q.links (omega (arith, q.switches, q.few_rules, in_net)) a b in
      let g = sym (link_fields l.widths r k) ∙ st.fields i a (record_in i h) in
      both (point_good l.widths (at r 1) (at r 2)) (point_good l.widths (at r 3) (at r 4))
      (and_left (point_good l.widths (at r 1) (at r 2) && point_good l.widths (at r 3) (at r 4)) (zeros 5 23 r) g)

  pub actions_good_lem : (i : ℕ) → l.misses ≤ i → i < l.nodes → actions_good l.widths (get_or (records n s) i []) ≡ true
  actions_good_lem i a b = go (dec_lt i l.rules)
    where
      q : LayoutOf (records n s) l
      q = st.laid

      good : fields_good l.widths (get_or net i []) ≡ true
      good = st.fields i (omega (arith, q.some_widths)) (record_in i b)

      go : Dec (i < l.rules) → actions_good l.widths (get_or net i []) ≡ true
      go (yes h) = miss_actions l.widths (get_or net i []) (kind_at 3 net l.misses l.rules i q.misses (omega (arith, q.few_rules, in_net)) a h) good
      go (no h) = rule_actions l.widths (get_or net i []) (kind_at 4 net l.rules l.nodes i q.rules in_net (omega arith) b) good

  pub buckets_good_lem : (i : ℕ) → l.groups ≤ i → i < n → buckets_good l.widths (get_or (records n s) i []) ≡ true
  buckets_good_lem i a b =
      let q = st.laid in
      let all = groups_at ∙ sym (take_all (n - l.groups) (drop l.groups net) (omega (arith, length-drop l.groups net, length_records n s))) in
      (group_parts l.widths (get_or net i []) (kind_at 9 net l.groups n i all (omega (arith, length_records n s)) a b)
      (st.fields i (omega (arith, q.some_widths, q.switches, q.few_rules, groups_in)) b)).2

  -- a miss, by its switch
  pub miss_at : (sw : ℕ) → sw < 2 ^ l.widths.w → get_or (of_kind 3 (records n s)) sw [] ≡ get_or (records n s) (l.misses + sw) []
  miss_at sw h = ap (λ (misses : Net). get_or misses sw []) st.laid.misses ∙ part_at net l.misses l.rules sw (omega (arith, st.laid.switches))

  -- a rule, by its number among the rules
  pub rules_count : length (of_kind 4 (records n s)) ≡ l.nodes - l.rules
  rules_count = ap length st.laid.rules ∙ length-take-le (l.nodes - l.rules) (drop l.rules net) (omega (arith, length-drop l.rules net, in_net))

  pub rule_at : (i : ℕ) → l.rules ≤ i → i < l.nodes → get_or (of_kind 4 (records n s)) (i - l.rules) [] ≡ get_or (records n s) i []
  rule_at i a b =
      let e : l.rules + (i - l.rules) ≡ i = omega arith in
      ap (λ (rules : Net). get_or rules (i - l.rules) []) st.laid.rules ∙ part_at net l.rules l.nodes (i - l.rules) (omega arith) ∙ ap (λ (k : ℕ). get_or net k []) e

  pub rule_record : (j : ℕ) → j < l.nodes - l.rules → get_or (of_kind 4 (records n s)) j [] ≡ record_at s (l.rules + j)
  rule_record j h =
      let e : l.rules + j - l.rules ≡ j = omega arith in
      ap (λ (k : ℕ). get_or (of_kind 4 (records n s)) k []) (sym e)
      ∙ rule_at (l.rules + j) (omega arith) (omega arith)
      ∙ record_at_lem n s (l.rules + j) (record_in (l.rules + j) (omega arith))

  pub rule_switch : (j : ℕ) → j < l.nodes - l.rules → at (get_or (of_kind 4 (records n s)) j []) 1 < 2 ^ l.widths.w
  rule_switch j h =
      let i : ℕ = l.rules + j in
      let r = get_or net i [] in
      let q = st.laid in
      let k = kind_at 4 net l.rules l.nodes i q.rules in_net (omega arith) (omega arith) in
      let e : i - l.rules ≡ j = omega arith in
      subst (λ (m : ℕ). at (get_or (of_kind 4 net) m []) 1 < 2 ^ l.widths.w) e
      (subst⁻¹ (λ (c : Rec). at c 1 < 2 ^ l.widths.w) (rule_at i (omega arith) (omega arith))
      (match_switch l.widths (limits l.widths q.limits) r
      (and_left (match_good l.widths r) (actions_good l.widths r)
      (and_left _ (zeros 21 23 r) (sym (rule_fields l.widths r k) ∙ st.fields i (omega (arith, q.some_widths, q.switches)) (record_in i (omega arith)))))))
