-- The kinds of a network that no row refuses stand one after the other.
use Rattle.std.specs.Prelude.{◌≡◌, ℕ, zero, suc, ◌+◌, ◌-◌, ◌^◌, ◌≤◌, ◌<◌, eqb, take, drop}
use Rattle.std.proofs.Math.Path.{refl, ap}
use Rattle.std.proofs.Common.{sym, ap₂, subst, ◌∙◌, length-take-le, take_at, drop_at, eq-eqb, ne_eqb, ltb-false}
use Rattle.std.proofs.Math.Bool.{true}
use mathlib.Core.List.{[], ◌∷◌, ◌++◌, append_assoc, append-nil}
use Rattle.std.proofs.Math.Logic.{⊎_elim}
use Rattle.std.proofs.Math.Option.{none}
use native.Mathlib.Omega.{arith}
use Rattle.std.proofs.Math.ListN.{length, length-append}
use Rattle.std.proofs.lemmas.List.{take-append-le}
use Rattle.std.proofs.lemmas.Bool.{not-false}
use Rattle.basics.specs.Lists.{keep}
use Rattle.format.specs.Record.{Rec, Net, kind, of_kind, most_rules, most_policies, most_nodes, widths_of}
use Rattle.widths.specs.Widths.{within_limits}
use Rattle.format.specs.Policy.{policy_count, longest_of, longest}
use Rattle.refusals.specs.Rows.{row4, misses_incomplete}
use Rattle.refusals.specs.Refusal.{file_row}
use Rattle.refusals.specs.Count.{groups_bound}
use Rattle.recordrow.specs.Scan.{SeenOf}
use Rattle.scan.specs.Layout.{LayoutOf, Counted}
use Rattle.recordrow.specs.declared.Seen.{Seen}
use Rattle.widths.specs.declared.Widths.{Widths}
use Rattle.scan.specs.declared.Layout.{Layout}
use Rattle.basics.specs.Laws.Lists.{keep_in, keep_out}
use Rattle.noderows.specs.Laws.Formulas.{same_or_not}
use Rattle.format.specs.Laws.Policies.{count_node, count_other, longest_follows, longest_other}
use Rattle.format.specs.Laws.Kinds.{last_kind, widths-append, last_kind_lem}
use Rattle.refusals.specs.Laws.Passing.{Passes, clean_all, misses_complete, not_empty, Ordered, ordered, miss_next, miss_switch, rule_room, node_room, node_follows}

-- the records of a kind, one record more
pub kind_in : (k : ℕ) (before : Net) (r : Rec) → kind r ≡ k → of_kind k (before ++ (r ∷ [])) ≡ of_kind k before ++ (r ∷ [])
unfolding of_kind
kind_in k before r e = keep_in (λ x. eqb (kind x) k) before r (eq-eqb (kind r) k e)

pub kind_out : (k : ℕ) (before : Net) (r : Rec) → (kind r ≡ k → ⊥) → of_kind k (before ++ (r ∷ [])) ≡ of_kind k before
unfolding of_kind
kind_out k before r h = keep_out (λ x. eqb (kind x) k) before r (ne_eqb (kind r) k h)

-- the widths record, then the records of each kind
abbrev pub in_parts : Net → Net
in_parts net = take 1 net ++ (of_kind 2 net ++ (of_kind 3 net ++ (of_kind 4 net ++ (of_kind 5 net ++ of_kind 9 net))))

pub record Sorted (net : Net) : Type 0 where
  pub parts : net ≡ in_parts net
  pub above : (k : ℕ) → last_kind net < k → of_kind k net ≡ []

pub sorted_none : Sorted []
unfolding of_kind keep
sorted_none = record { parts = refl; above = λ k h. refl }

-- one record more at the end of each part, where those after it are empty
module _ (a b c d e f x : Net) where
  at_two : c ≡ [] → d ≡ [] → e ≡ [] → f ≡ [] → (a ++ (b ++ (c ++ (d ++ (e ++ f))))) ++ x ≡ a ++ ((b ++ x) ++ (c ++ (d ++ (e ++ f))))
  at_two p q s t = rw (p, q, s, t) (simp (append_assoc, append-nil))

  at_three : d ≡ [] → e ≡ [] → f ≡ [] → (a ++ (b ++ (c ++ (d ++ (e ++ f))))) ++ x ≡ a ++ (b ++ ((c ++ x) ++ (d ++ (e ++ f))))
  at_three q s t = rw (q, s, t) (simp (append_assoc, append-nil))

  at_four : e ≡ [] → f ≡ [] → (a ++ (b ++ (c ++ (d ++ (e ++ f))))) ++ x ≡ a ++ (b ++ (c ++ ((d ++ x) ++ (e ++ f))))
  at_four s t = rw (s, t) (simp (append_assoc, append-nil))

  at_five : f ≡ [] → (a ++ (b ++ (c ++ (d ++ (e ++ f))))) ++ x ≡ a ++ (b ++ (c ++ (d ++ ((e ++ x) ++ f))))
  at_five t = rw t (simp (append_assoc, append-nil))

  at_nine : (a ++ (b ++ (c ++ (d ++ (e ++ f))))) ++ x ≡ a ++ (b ++ (c ++ (d ++ (e ++ (f ++ x)))))
  at_nine = simp append_assoc

module _ (before : Net) (r : Rec) (after : Net) (s : Sorted before) (p : Passes before r after) where
  o : Ordered before r
  o = ordered before r p.not3

  still_above : (k : ℕ) → last_kind (before ++ (r ∷ [])) < k → of_kind k (before ++ (r ∷ [])) ≡ []
  still_above k h =
      let l : kind r < k = subst (λ (m : ℕ). m < k) (last_kind_lem before r) h in
      kind_out k before r (λ q. omega arith) ∙ s.above k (omega (arith, o.ascends))

  none_above : (k : ℕ) → kind r < k → of_kind k before ≡ []
  none_above k h = s.above k (omega (arith, o.ascends))

  alone : before ≡ [] → before ++ (r ∷ []) ≡ in_parts (before ++ (r ∷ []))
  unfolding of_kind keep
  alone e = rw e (rw (o.first (ap length e)))

  module _ (some : 0 < length before) where
    front : take 1 (before ++ (r ∷ [])) ≡ take 1 before
    front = take-append-le 1 before (r ∷ []) some

    parts_are : (x y z w v : Net) → of_kind 2 (before ++ (r ∷ [])) ≡ x → of_kind 3 (before ++ (r ∷ [])) ≡ y → of_kind 4 (before ++ (r ∷ [])) ≡ z → of_kind 5 (before ++ (r ∷ [])) ≡ w → of_kind 9 (before ++ (r ∷ [])) ≡ v
        → (take 1 before ++ (of_kind 2 before ++ (of_kind 3 before ++ (of_kind 4 before ++ (of_kind 5 before ++ of_kind 9 before))))) ++ (r ∷ []) ≡ take 1 before ++ (x ++ (y ++ (z ++ (w ++ v))))
        → before ++ (r ∷ []) ≡ in_parts (before ++ (r ∷ []))
    parts_are x y z w v e2 e3 e4 e5 e9 q = ap (λ (l : Net). l ++ (r ∷ [])) s.parts ∙ q ∙ sym (rw (front, e2, e3, e4, e5, e9))

    -- the records of another kind stay, and none is of a higher kind
    out : (k : ℕ) → (kind r ≡ k → ⊥) → of_kind k (before ++ (r ∷ [])) ≡ of_kind k before
    out k h = kind_out k before r h

    by_kind : (k : ℕ) → kind r ≡ k → 2 ≤ k → (5 < k → k ≡ 9) → before ++ (r ∷ []) ≡ in_parts (before ++ (r ∷ []))
    by_kind zero e l h = absurd (omega arith)
    by_kind (suc zero) e l h = absurd (omega arith)
    by_kind (suc (suc zero)) e l h =
        parts_are _ _ _ _ _ (kind_in 2 before r e) (out 3 (λ q. omega arith)) (out 4 (λ q. omega arith)) (out 5 (λ q. omega arith)) (out 9 (λ q. omega arith))
        (at_two (take 1 before) (of_kind 2 before) (of_kind 3 before) (of_kind 4 before) (of_kind 5 before) (of_kind 9 before) (r ∷ []) (none_above 3 (omega arith)) (none_above 4 (omega arith)) (none_above 5 (omega arith)) (none_above 9 (omega arith)))
    by_kind (suc (suc (suc zero))) e l h =
        parts_are _ _ _ _ _ (out 2 (λ q. omega arith)) (kind_in 3 before r e) (out 4 (λ q. omega arith)) (out 5 (λ q. omega arith)) (out 9 (λ q. omega arith))
        (at_three (take 1 before) (of_kind 2 before) (of_kind 3 before) (of_kind 4 before) (of_kind 5 before) (of_kind 9 before) (r ∷ []) (none_above 4 (omega arith)) (none_above 5 (omega arith)) (none_above 9 (omega arith)))
    by_kind (suc (suc (suc (suc zero)))) e l h =
        parts_are _ _ _ _ _ (out 2 (λ q. omega arith)) (out 3 (λ q. omega arith)) (kind_in 4 before r e) (out 5 (λ q. omega arith)) (out 9 (λ q. omega arith))
        (at_four (take 1 before) (of_kind 2 before) (of_kind 3 before) (of_kind 4 before) (of_kind 5 before) (of_kind 9 before) (r ∷ []) (none_above 5 (omega arith)) (none_above 9 (omega arith)))
    by_kind (suc (suc (suc (suc (suc zero))))) e l h =
        parts_are _ _ _ _ _ (out 2 (λ q. omega arith)) (out 3 (λ q. omega arith)) (out 4 (λ q. omega arith)) (kind_in 5 before r e) (out 9 (λ q. omega arith))
        (at_five (take 1 before) (of_kind 2 before) (of_kind 3 before) (of_kind 4 before) (of_kind 5 before) (of_kind 9 before) (r ∷ []) (none_above 9 (omega arith)))
    by_kind (suc (suc (suc (suc (suc (suc k)))))) e l h =
        let q : kind r ≡ 9 = e ∙ h (omega arith) in
        parts_are _ _ _ _ _ (out 2 (λ x. omega (arith, x, q))) (out 3 (λ x. omega (arith, x, q))) (out 4 (λ x. omega (arith, x, q))) (out 5 (λ x. omega (arith, x, q))) (kind_in 9 before r q)
        (at_nine (take 1 before) (of_kind 2 before) (of_kind 3 before) (of_kind 4 before) (of_kind 5 before) (of_kind 9 before) (r ∷ []))

  pub sorted_more : Sorted (before ++ (r ∷ []))
  sorted_more = record { parts = go before refl; above = still_above }
    where
      go : (b : Net) → before ≡ b → before ++ (r ∷ []) ≡ in_parts (before ++ (r ∷ []))
      go [] e = alone e
      go (x ∷ b) e =
          let l : 0 < length before = omega (arith, ap length e) in
          by_kind l (kind r) refl (go2 o.low (o.later l)) o.group
        where
          go2 : 1 ≤ kind r → (kind r ≡ 1 → ⊥) → 2 ≤ kind r
          go2 a b = omega arith

-- a network that no row refuses is sorted by kind
pub sorted : (net : Net) → file_row [] net ≡ none → Sorted net
sorted net e = clean_all Sorted sorted_more [] net sorted_none e

-- the numbers of a clean network
abbrev Numbers : Net → Type 0
Numbers net =
    (0 < length net → within_limits (widths_of net) ≡ true)
    × (0 < length net → length (of_kind 3 net) ≤ 2 ^ (widths_of net).w)
    × (length (of_kind 4 net) ≤ most_rules)
    × (policy_count net ≤ most_policies)
    × (longest net ≤ most_nodes)

module _ (before : Net) (r : Rec) (after : Net) (q : Numbers before) (p : Passes before r after) where
  sound : Ordered before r
  sound = ordered before r p.not3

  limits_more : within_limits (widths_of (before ++ (r ∷ []))) ≡ true
  unfolding row4
  limits_more = go before refl
    where
      go : (b : Net) → before ≡ b → within_limits (widths_of (before ++ (r ∷ []))) ≡ true
      go [] e =
          let k = sound.first (ap length e) in
          rw e (not-false _ (sym (rw k) ∙ p.not4))
      go (x ∷ b) e =
          let l : 0 < length before = omega (arith, ap length e) in
          ap within_limits (widths-append before (r ∷ []) l) ∙ q.0 l

  some_before : (kind r ≡ 1 → ⊥) → 0 < length before
  some_before h = go (length before) refl
    where
      go : (n : ℕ) → length before ≡ n → 0 < length before
      go zero e = absurd (h (sound.first e))
      go (suc n) e = omega arith

  misses_more : length (of_kind 3 (before ++ (r ∷ []))) ≤ 2 ^ (widths_of (before ++ (r ∷ []))).w
  unfolding of_kind keep
  misses_more =
      ⊎_elim
      (λ k.
      let l : 0 < length before = some_before (later k) in
      let n = ap length (kind_in 3 before r k) ∙ length-append (of_kind 3 before) (r ∷ []) in
      rw (widths-append before (r ∷ []) l) (omega (arith, n, miss_next before r after p k, miss_switch before r after p k)))
      (λ k. rw (kind_out 3 before r k) (go before refl))
      (same_or_not (kind r) 3)
    where
      later : kind r ≡ 3 → kind r ≡ 1 → ⊥
      later k e = omega arith

      go : (b : Net) → before ≡ b → length (of_kind 3 before) ≤ 2 ^ (widths_of (before ++ (r ∷ []))).w
      go [] e = rw e (omega arith)
      go (x ∷ b) e =
          let l : 0 < length before = omega (arith, ap length e) in
          rw (widths-append before (r ∷ []) l) (q.1 l)

  rules_more : length (of_kind 4 (before ++ (r ∷ []))) ≤ most_rules
  rules_more =
      ⊎_elim
      (λ k. omega (arith, ap length (kind_in 4 before r k) ∙ length-append (of_kind 4 before) (r ∷ []), rule_room before r after p k))
      (λ k. rw (kind_out 4 before r k) q.2)
      (same_or_not (kind r) 4)

  policies_more : policy_count (before ++ (r ∷ [])) ≤ most_policies
  policies_more =
      ⊎_elim
      (λ k. omega (arith, count_node before r k, node_room before r after p k, q.3))
      (λ k. rw (count_other before r k) q.3)
      (same_or_not (kind r) 5)

  longest_more : longest (before ++ (r ∷ [])) ≤ most_nodes
  longest_more =
      ⊎_elim
      (λ k. omega (arith, longest_follows before r k (node_follows before r after p k), node_room before r after p k, q.4))
      (λ k. rw (longest_other before r k) q.4)
      (same_or_not (kind r) 5)

  numbers_more : Numbers (before ++ (r ∷ []))
  numbers_more = ((λ _. limits_more), (λ _. misses_more), rules_more, policies_more, longest_more)

numbers : (net : Net) → file_row [] net ≡ none → Numbers net
unfolding of_kind keep policy_count longest longest_of
numbers net e =
    clean_all Numbers numbers_more [] net
    ((λ h. absurd (omega arith)), (λ h. absurd (omega arith)), omega arith, omega arith, omega arith) e

-- a part of a list between two others, and the last part
pub part_of : (net a b c : Net) (i j : ℕ) → net ≡ a ++ (b ++ c) → length a ≡ i → length b ≡ j → b ≡ take j (drop i net)
part_of net a b c i j e l m = sym (ap (λ (x : Net). take j (drop i x)) e ∙ ap (take j) (drop_at a (b ++ c) i l) ∙ take_at b c j m)

-- the layout by what is known at the end
abbrev pub layout_by : Seen → ℕ → Layout
layout_by s n = record {
  widths = s.widths;
  misses = 1 + s.links;
  rules = 1 + s.links + s.misses;
  nodes = 1 + s.links + s.misses + s.rules;
  groups = n - s.groups.count;
  policies = s.policies.count;
  longest = s.policies.longest;
}

pub counted : (net : Net) (s : Seen) (n : ℕ) → SeenOf net s → length net ≡ n → Counted net (layout_by s n)
counted net s n known len =
    record {
      widths = known.widths;
      misses = ap (λ (k : ℕ). 1 + k) known.links;
      rules = ap (λ (k : ℕ). 1 + s.links + k) known.misses;
      nodes = ap (λ (k : ℕ). 1 + s.links + s.misses + k) known.rules;
      groups = ap₂ ◌-◌ (sym len) known.groups.count;
      policies = known.policies.count;
      longest = known.policies.longest;
    }

-- a clean network has a miss for each switch
pub clean_misses : (net : Net) → file_row [] net ≡ none → length (of_kind 3 net) ≡ 2 ^ (widths_of net).w
unfolding misses_incomplete
clean_misses net e =
    omega (arith, ltb-false (length (of_kind 3 net)) (2 ^ (widths_of net).w) (misses_complete [] net e), (numbers net e).1 (not_empty net e))

-- where the parts of a clean network stand
pub layout_of : (net : Net) (l : Layout) → file_row [] net ≡ none → Counted net l → LayoutOf net l
layout_of net l clean c =
    let a = take 1 net in
    let k2 = of_kind 2 net in
    let k3 = of_kind 3 net in
    let k4 = of_kind 4 net in
    let k5 = of_kind 5 net in
    let k9 = of_kind 9 net in
    let n = numbers net clean in
    let some = not_empty net clean in
    let e2 : net ≡ a ++ (k2 ++ (k3 ++ (k4 ++ (k5 ++ k9)))) = (sorted net clean).parts in
    let e3 : net ≡ (a ++ k2) ++ (k3 ++ (k4 ++ (k5 ++ k9))) = e2 ∙ sym (append_assoc a k2 (k3 ++ (k4 ++ (k5 ++ k9)))) in
    let e4 : net ≡ (a ++ k2 ++ k3) ++ (k4 ++ (k5 ++ k9)) = e3 ∙ sym (append_assoc (a ++ k2) k3 (k4 ++ (k5 ++ k9))) in
    let e5 : net ≡ (a ++ k2 ++ k3 ++ k4) ++ (k5 ++ k9) = e4 ∙ sym (append_assoc (a ++ k2 ++ k3) k4 (k5 ++ k9)) in
    let e9 : net ≡ (a ++ k2 ++ k3 ++ k4 ++ k5) ++ k9 = e5 ∙ sym (append_assoc (a ++ k2 ++ k3 ++ k4) k5 k9) in
    let l1 : length a ≡ 1 = length-take-le 1 net some in
    let l2 : length (a ++ k2) ≡ l.misses = length-append a k2 ∙ omega (arith, l1, c.misses) in
    let l3 : length (a ++ k2 ++ k3) ≡ l.rules = length-append (a ++ k2) k3 ∙ omega (arith, l2, c.rules) in
    let l4 : length (a ++ k2 ++ k3 ++ k4) ≡ l.nodes = length-append (a ++ k2 ++ k3) k4 ∙ omega (arith, l3, c.nodes) in
    let l5 : length (a ++ k2 ++ k3 ++ k4 ++ k5) ≡ l.groups = omega (arith, ap length e9 ∙ length-append (a ++ k2 ++ k3 ++ k4 ++ k5) k9, c.groups) in
    let l6 : l.nodes + length k5 ≡ l.groups = omega (arith, length-append (a ++ k2 ++ k3 ++ k4) k5, l4, l5) in
    let w : l.widths ≡ widths_of net = c.widths in
    record {
      widths = w;
      limits = ap within_limits w ∙ n.0 some;
      links = part_of net a k2 (k3 ++ (k4 ++ (k5 ++ k9))) 1 (l.misses - 1) e2 l1 (omega (arith, c.misses));
      misses = part_of net (a ++ k2) k3 (k4 ++ (k5 ++ k9)) l.misses (l.rules - l.misses) e3 l2 (omega (arith, c.rules));
      rules = part_of net (a ++ k2 ++ k3) k4 (k5 ++ k9) l.rules (l.nodes - l.rules) e4 l3 (omega (arith, c.nodes));
      nodes = part_of net (a ++ k2 ++ k3 ++ k4) k5 k9 l.nodes (l.groups - l.nodes) e5 l4 (omega (arith, l6));
      groups = sym (ap (drop l.groups) e9 ∙ drop_at (a ++ k2 ++ k3 ++ k4 ++ k5) k9 l.groups l5);
      some_widths = omega (arith, c.misses);
      switches = c.rules ∙ ap (λ (k : ℕ). l.misses + k) (clean_misses net clean ∙ ap (λ (v : Widths). 2 ^ v.w) (sym w));
      few_rules = (omega (arith, c.nodes), omega (arith, c.nodes, n.2));
      within = (omega (arith, l6), omega (arith, c.groups));
      few_groups = omega (arith, c.groups, groups_bound net clean);
      policies = c.policies;
      few_policies = omega (arith, c.policies, n.3);
      longest = c.longest;
      few_nodes = omega (arith, c.longest, n.4);
    }
