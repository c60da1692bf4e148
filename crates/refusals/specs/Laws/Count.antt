-- How many records of each kind a network has that rows 3 to 10 and 16 pass.
use Rattle.std.specs.Prelude.{◌≡◌, Bool, true, false, ◌&&◌, get_or}
use Rattle.std.proofs.Math.Path.{refl, subst, subst⁻¹}
use Rattle.std.proofs.Common.{sym, subst₂, ◌∙◌, length-append, pow_mono}
use mathlib.Core.List.{[], ◌∷◌, ◌++◌}
use Rattle.std.proofs.Math.Option.{none}
use Prim.Native.Nat.{ℕ, ◌*◌, zero, suc, ◌^◌, ◌<◌, ◌≤◌}
use Rattle.std.proofs.Math.Decide.{ℕ_discrete}
use native.Mathlib.Omega.{arith}
use borrow.Author.Tests.{eqb-true, ne_eqb, lt-ltb}
use Rattle.std.proofs.Math.Dec.{eqb, ltb}
use Rattle.std.proofs.Math.ListN.{length}
use Rattle.basics.specs.Laws.Tests.{both}
use Rattle.basics.specs.Lists.{keep, all}
use Rattle.format.specs.Record.{Rec, Net, most_records, at, kind, of_kind, most_rules, most_policies, most_nodes, most_groups, widths_of}
use Rattle.format.specs.Policy.{nodes_of, policy_count, longest_of, longest}
use Rattle.refusals.specs.Refusal.{file_row}
use Rattle.widths.specs.declared.Widths.{Widths}
use Rattle.basics.specs.Laws.Lists.{keep_in, keep_out, keep_fewer}
use Rattle.format.specs.Laws.Policies.{count_other, count_node}
use Rattle.format.specs.Laws.Kinds.{is_node, widths-append, nodes_kind}
use Rattle.refusals.specs.Laws.Passing.{Passes, ordered, widths_within, miss_next, miss_switch, rule_room, node_room, group_room, file_step, clean_all}
use Rattle.widths.specs.Laws.Limits.{Limits}
use Rattle.refusals.specs.Laws.Spread.{all_append, spread}
use Rattle.refusals.specs.Laws.Links.{Apart, apart_none, apart_more, few_links}

module _ (r₀ : Rec) (rest : Net) (e : file_row [] (r₀ ∷ rest) ≡ none) where
  abbrev pub w : Widths
  w = widths_of (r₀ ∷ [])

  first_kind : kind r₀ ≡ 1
  first_kind = (ordered [] r₀ (file_step [] r₀ rest e).0.not3).first refl

  pub first_limits : Limits w
  first_limits = widths_within [] r₀ rest (file_step [] r₀ rest e).0 first_kind

  -- what holds of the first record, and is carried on by each that a test keeps, holds of all that it keeps
  module _ (f : Rec → Bool) (P : Net → Type 0) (start : P (keep f (r₀ ∷ [])))
      (step : (before : Net) (r : Rec) (after : Net) → 0 < length before → widths_of before ≡ w → Passes before r after → f r ≡ true
      → P (keep f before) → P (keep f before ++ (r ∷ []))) where
    carry : (before : Net) (r : Rec) (after : Net) → (0 < length before) × (widths_of before ≡ w) × P (keep f before) → Passes before r after
        → (0 < length (before ++ (r ∷ []))) × (widths_of (before ++ (r ∷ [])) ≡ w) × P (keep f (before ++ (r ∷ [])))
    carry before r after i s = (
      omega (arith, length-append before (r ∷ [])),
      widths-append before (r ∷ []) i.0 ∙ i.1,
      by (f r) refl,
    )
      where
        by : (b : Bool) → f r ≡ b → P (keep f (before ++ (r ∷ [])))
        by true t = subst⁻¹ P (keep_in f before r t) (step before r after i.0 i.1 s t i.2)
        by false t = subst⁻¹ P (keep_out f before r t) i.2

    all_kept : P (keep f (r₀ ∷ rest))
    all_kept =
        (clean_all (λ before. (0 < length before) × (widths_of before ≡ w) × P (keep f before)) carry (r₀ ∷ []) rest (omega arith, refl, start) (file_step [] r₀ rest e).1).2

  -- a bound of the records that a test keeps
  module _ (f : Rec → Bool) (b : ℕ) (start : length (keep f (r₀ ∷ [])) ≤ b)
      (room : (before : Net) (r : Rec) (after : Net) → 0 < length before → widths_of before ≡ w → Passes before r after → f r ≡ true → length (keep f before) < b) where
    bounded : length (keep f (r₀ ∷ rest)) ≤ b
    bounded =
        all_kept f (λ l. length l ≤ b) start
        (λ before r after h q s t i. omega (arith, length-append (keep f before) (r ∷ []), room before r after h q s t))

  -- the first record is of no other kind
  none_first : (k : ℕ) → (k ≡ 1 → ⊥) → of_kind k (r₀ ∷ []) ≡ []
  unfolding of_kind keep
  none_first k h = rw (ne_eqb (kind r₀) k (λ q. h (sym q ∙ first_kind)))

  kind_bounded : (k b : ℕ) → (k ≡ 1 → ⊥)
      → ((before : Net) (r : Rec) (after : Net) → widths_of before ≡ w → Passes before r after → kind r ≡ k → length (of_kind k before) < b)
      → length (of_kind k (r₀ ∷ rest)) ≤ b
  unfolding of_kind
  kind_bounded k b h room = bounded (λ r. eqb (kind r) k) b (rw (none_first k h) (omega arith)) (λ before r after _ q s t. room before r after q s (eqb-true (kind r) k t))

  kind_0 : length (of_kind 0 (r₀ ∷ rest)) ≤ 0
  kind_0 = kind_bounded 0 0 (λ q. omega arith) (λ before r after q s t. absurd (omega (arith, t, (ordered before r s.not3).low)))

  kind_1 : length (of_kind 1 (r₀ ∷ rest)) ≤ 1
  unfolding of_kind
  kind_1 =
      bounded (λ r. eqb (kind r) 1) 1 (keep_fewer (λ r. eqb (kind r) 1) (r₀ ∷ []))
      (λ before r after h q s t. absurd ((ordered before r s.not3).later h (eqb-true (kind r) 1 t)))

  pub kind_2 : length (of_kind 2 (r₀ ∷ rest)) ≤ 112
  unfolding of_kind
  kind_2 =
      few_links w first_limits (of_kind 2 (r₀ ∷ rest))
      (all_kept (λ r. eqb (kind r) 2) (Apart w) (rw (none_first 2 (λ q. omega arith)) (apart_none w))
      (λ before r after h q s t i. apart_more w before r after q s t i))

  pub kind_3 : length (of_kind 3 (r₀ ∷ rest)) ≤ 16
  kind_3 =
      let p : 2 ^ w.w ≤ 16 = pow_mono first_limits.high_w in
      let b = kind_bounded 3 (2 ^ w.w) (λ q. omega arith)
      (λ before r after q s t. subst₂ (λ (n : ℕ) (v : Widths). n < 2 ^ v.w) (miss_next before r after s t) q (miss_switch before r after s t)) in
      omega arith

  pub kind_4 : length (of_kind 4 (r₀ ∷ rest)) ≤ most_rules
  kind_4 = kind_bounded 4 most_rules (λ q. omega arith) (λ before r after q s t. rule_room before r after s t)

  policy_nodes : (p : ℕ) → length (nodes_of p (r₀ ∷ rest)) ≤ most_nodes
  unfolding nodes_of keep
  policy_nodes p =
      bounded (λ r. is_node r && eqb (at r 1) p) most_nodes (rw first_kind (omega arith))
      (λ before r after h q s t.
      let n = both (is_node r) (eqb (at r 1) p) t in
      subst (λ (k : ℕ). length (nodes_of k before) < most_nodes) (eqb-true (at r 1) p n.1) (node_room before r after s (eqb-true (kind r) 5 n.0)).1)

  longest_of_bound : (k : ℕ) → longest_of k (r₀ ∷ rest) ≤ most_nodes
  unfolding longest_of
  longest_of_bound zero = omega arith
  longest_of_bound (suc k) = omega (arith, policy_nodes k, longest_of_bound k)

  pub longest_policy : longest (r₀ ∷ rest) ≤ most_nodes
  unfolding longest
  longest_policy = longest_of_bound (policy_count (r₀ ∷ rest))

  pub few_policies : policy_count (r₀ ∷ rest) ≤ most_policies
  unfolding policy_count
  few_policies =
      clean_all (λ before. policy_count before ≤ most_policies) (λ before r after i s. go before r after i s (ℕ_discrete (kind r) 5)) [] (r₀ ∷ rest) (omega arith) e
    where
      go : (before : Net) (r : Rec) (after : Net) → policy_count before ≤ most_policies → Passes before r after → Dec (kind r ≡ 5) → policy_count (before ++ (r ∷ [])) ≤ most_policies
      go before r after i s (yes k) = omega (arith, count_node before r k, (node_room before r after s k).0)
      go before r after i s (no k) = omega (arith, count_other before r k)

  policies_within : all (λ r. ltb (at r 1) most_policies) (of_kind 5 (r₀ ∷ rest)) ≡ true
  unfolding of_kind all
  policies_within =
      all_kept is_node (λ l. all (λ r. ltb (at r 1) most_policies) l ≡ true) (rw (none_first 5 (λ q. omega arith)))
      (λ before r after h q s t i. all_append (λ r. ltb (at r 1) most_policies) (keep is_node before) (r ∷ []) ∙ rw (i, lt-ltb (at r 1) most_policies (node_room before r after s (eqb-true (kind r) 5 t)).0))

  pub kind_5 : length (of_kind 5 (r₀ ∷ rest)) ≤ most_policies * most_nodes
  kind_5 =
      spread (λ r. at r 1) (λ v. most_nodes) most_policies (of_kind 5 (r₀ ∷ rest)) policies_within
      (λ v l. subst (λ (n : Net). length n ≤ most_nodes) (nodes_kind v (r₀ ∷ rest)) (policy_nodes v))

  pub kind_9 : length (of_kind 9 (r₀ ∷ rest)) ≤ most_groups
  kind_9 = kind_bounded 9 most_groups (λ q. omega arith) (λ before r after q s t. group_room before r after s t)

  -- no record has kind 6, 7 or 8
  kind_none : (k : ℕ) → 5 < k → k < 9 → length (of_kind k (r₀ ∷ rest)) ≤ 0
  kind_none k l h =
      kind_bounded k 0 (λ q. omega arith)
      (λ before r after q s t. let g : 5 < kind r → kind r ≡ 9 = (ordered before r s.not3).group in absurd (omega (arith, t, g (omega (arith, t)))))

  kinds_within : all (λ r. ltb (kind r) 10) (r₀ ∷ rest) ≡ true
  unfolding all
  kinds_within =
      clean_all (λ before. all (λ r. ltb (kind r) 10) before ≡ true)
      (λ before r after i s.
      let m = (ordered before r s.not3).high in
      all_append (λ r. ltb (kind r) 10) before (r ∷ []) ∙ rw (i, lt-ltb (kind r) 10 (omega arith)))
      [] (r₀ ∷ rest) refl e

  -- at most so many of each kind
  abbrev most : ℕ → ℕ
  most k = get_or (0 ∷ 1 ∷ 112 ∷ 16 ∷ most_rules ∷ most_policies * most_nodes ∷ 0 ∷ 0 ∷ 0 ∷ most_groups ∷ []) k 0

  by_kind : (k : ℕ) → k < 10 → length (of_kind k (r₀ ∷ rest)) ≤ most k
  by_kind zero h = kind_0
  by_kind (suc zero) h = kind_1
  by_kind (suc (suc zero)) h = kind_2
  by_kind (suc (suc (suc zero))) h = kind_3
  by_kind (suc (suc (suc (suc zero)))) h = kind_4
  by_kind (suc (suc (suc (suc (suc zero))))) h = kind_5
  by_kind (suc (suc (suc (suc (suc (suc zero)))))) h = kind_none 6 (omega arith) (omega arith)
  by_kind (suc (suc (suc (suc (suc (suc (suc zero))))))) h = kind_none 7 (omega arith) (omega arith)
  by_kind (suc (suc (suc (suc (suc (suc (suc (suc zero)))))))) h = kind_none 8 (omega arith) (omega arith)
  by_kind (suc (suc (suc (suc (suc (suc (suc (suc (suc zero))))))))) h = kind_9
  by_kind (suc (suc (suc (suc (suc (suc (suc (suc (suc (suc k)))))))))) h = absurd (omega arith)

  pub total_bound : length (r₀ ∷ rest) ≤ most_records
  unfolding of_kind
  total_bound = spread kind most 10 (r₀ ∷ rest) kinds_within by_kind
