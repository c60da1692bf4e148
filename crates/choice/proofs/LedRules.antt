-- Who leads an arrival, one rule after the other, ends at the rules that act.
use borrow.Author.Tests.{eq-eqb, ne_eqb, eqb-true}
use mathlib.Core.Path.{◌≡◌, sym, ap, subst⁻¹, ◌∙◌}
use mathlib.Core.Bool.{Bool, true, false, cond, ◌&&◌}
use mathlib.Core.List.{List, [], ◌∷◌, ◌++◌}
use mathlib.Core.Logic.{◌⊎◌, inl, inr}
use Prim.Native.Nat.{ℕ, ◌+◌, ◌/◌, ◌^◌, ◌<◌, ◌≤◌}
use native.Mathlib.Decide.{ℕ_discrete, dec_lt}
use native.Mathlib.Omega.{arith}
use lib.Dec.{eqb}
use lib.ListN.{length, get_or, replicate, get_or-append, length-replicate}
use Rattle.basics.specs.Bit.{bit_of}
use Rattle.basics.specs.Laws.Tests.{same_test}
use Rattle.basics.specs.Lists.{keep, any}
use Rattle.format.specs.Record.{Rec, Net, priority, of_kind, widths_of}
use Rattle.format.specs.State.{state}
use Rattle.widths.specs.Widths.{states, within_limits}
use Rattle.basics.specs.Laws.Every.{every_at, at_every, keep_same, any_fails, any_kept, any_more}
use Rattle.format.specs.Laws.Parts.{part, part_more, keep_part}
use Rattle.widths.specs.declared.Widths.{Widths}
use Rattle.choice.specs.declared.leads.Lead.{Lead}
use Rattle.onestep.specs.Chosen.{Arrival, rule_matches, chosen}
use Rattle.onestep.specs.ByBytes.{arrival, rank_of}
use Rattle.choice.specs.declared.RuleSet.{RuleSet}
use Rattle.choice.specs.RuleSets.{SetsOf}
use Rattle.onestep.specs.Laws.Chosen.{NoneOutranks, chosen_exactly, chosen_miss}
use Rattle.std.proofs.lemmas.List.{get_or-replicate}
use Rattle.choice.specs.Laws.Arriving.{arriving_half, arriving-lt}
use Rattle.choice.specs.Leads.{most_arriving, no_lead, lead_at, NoneLead, raised, Painted, Leads, AllLead}
use Rattle.choice.proofs.PaintedLeads.{takes_lead, joins_lead, stays_behind}
use Rattle.choice.proofs.Ranks.{rank_true, rank_false, ranked, unranked}
use Rattle.choice.proofs.MatchedRules.{match_by_sets}

-- of the rules before number j, x has the highest rank of one that matches, and the first and the last that has it
pub record Led (w : Widths) (a : Arrival) (rules : Net) (j : ℕ) (x : Lead) : Type 0 where
  pub no_higher : (k : ℕ) → k < j → rank_of w a (get_or rules k []) ≤ x.rank
  pub first : 0 < x.rank → (x.first ≤ x.last) × (x.last < j) × (rank_of w a (get_or rules x.first []) ≡ x.rank)
  pub between : (k : ℕ) → k < j → 0 < x.rank → rank_of w a (get_or rules k []) ≡ x.rank → (x.first ≤ k) × (k ≤ x.last)

module _ (w : Widths) (a : Arrival) (rules : Net) where
  abbrev rank : ℕ → ℕ
  rank k = rank_of w a (get_or rules k [])

  led_none : (x : Lead) → x.rank ≡ 0 → Led w a rules 0 x
  led_none x e = record { no_higher = λ k h. absurd (omega arith); first = λ h. absurd (omega arith); between = λ k h. absurd (omega arith) }

  module _ (j : ℕ) (x : Lead) (L : Led w a rules j x) where
    -- one rule more, which does not match
    led_passed : rank_of w a (get_or rules j []) ≡ 0 → Led w a rules (j + 1) x
    led_passed z = record {
      no_higher = λ k h. up_to k h;
      first = λ h. let f = L.first h in (f.0, omega (arith, f.1), f.2);
      between = λ k h some e. near k h some e (ℕ_discrete k j);
    }
      where
        up_to : (k : ℕ) → k < j + 1 → rank k ≤ x.rank
        up_to k h = go (ℕ_discrete k j)
          where
            go : Dec (k ≡ j) → rank k ≤ x.rank
            go (yes e) = omega (arith, ap rank e)
            go (no n) = L.no_higher k (omega (arith, n))

        near : (k : ℕ) → k < j + 1 → 0 < x.rank → rank k ≡ x.rank → Dec (k ≡ j) → (x.first ≤ k) × (k ≤ x.last)
        near k h some e (yes q) = absurd (omega (arith, ap rank q))
        near k h some e (no n) = L.between k (omega (arith, n)) some e

    -- one that matches
    module _ (r : ℕ) (e : rank_of w a (get_or rules j []) ≡ r) (some : 0 < r) where
      at_j : (P : ℕ → Type 0) → P j → ((k : ℕ) → k < j → P k) → (k : ℕ) → k < j + 1 → P k
      at_j P here before k h = go (ℕ_discrete k j)
        where
          go : Dec (k ≡ j) → P k
          go (yes q) = subst⁻¹ P q here
          go (no n) = before k (omega (arith, n))

      takes : x.rank < r → Led w a rules (j + 1) (record { rank = r; first = j; last = j })
      takes h = record {
        no_higher = at_j (λ (k : ℕ). rank k ≤ r) (omega arith) (λ k t. omega (arith, L.no_higher k t));
        first = λ t. (omega arith, omega arith, e);
        between = at_j (λ (k : ℕ). 0 < r → rank k ≡ r → (j ≤ k) × (k ≤ j)) (λ t q. (omega arith, omega arith)) (λ k t u q. absurd (omega (arith, L.no_higher k t)));
      }

      joins : x.rank ≡ r → Led w a rules (j + 1) (record { rank = x.rank; first = x.first; last = j })
      joins q = let f = L.first (omega arith) in record {
        no_higher = at_j (λ (k : ℕ). rank k ≤ x.rank) (omega arith) L.no_higher;
        first = λ t. (omega (arith, f.0, f.1), omega arith, f.2);
        between = at_j (λ (k : ℕ). 0 < x.rank → rank k ≡ x.rank → (x.first ≤ k) × (k ≤ j)) (λ t u. (omega (arith, f.0, f.1), omega arith))
            (λ k t u v. ((L.between k t u v).0, omega arith));
      }

      stays : r < x.rank → Led w a rules (j + 1) x
      stays h = record {
        no_higher = at_j (λ (k : ℕ). rank k ≤ x.rank) (omega arith) L.no_higher;
        first = λ t. let f = L.first t in (f.0, omega (arith, f.1), f.2);
        between = at_j (λ (k : ℕ). 0 < x.rank → rank k ≡ x.rank → (x.first ≤ k) × (k ≤ x.last)) (λ t u. absurd (omega arith)) L.between;
      }

      led_raised : Led w a rules (j + 1) (raised r j x)
      led_raised = go (dec_lt x.rank r) (ℕ_discrete x.rank r)
        where
          go : Dec (x.rank < r) → Dec (x.rank ≡ r) → Led w a rules (j + 1) (raised r j x)
          go (yes h) d = rw (takes_lead r j x h) (takes h)
          go (no h) (yes q) = rw (joins_lead r j x q) (joins q)
          go (no h) (no q) = rw (stays_behind r j x (omega (arith, q))) (stays (omega (arith, q)))

-- after all rules, those that lead are those that act
module _ (net : Net) (a : Arrival) (x : Lead) (L : Led (widths_of net) a (of_kind 4 net) (length (of_kind 4 net)) x) where
  abbrev w : Widths
  w = widths_of net

  abbrev rules : Net
  rules = of_kind 4 net

  abbrev rank_by : Rec → ℕ
  rank_by r = rank_of w a r

  abbrev top : Rec → Bool
  top r = eqb (rank_by r) x.rank

  missed : x.rank ≡ 0 → chosen net a ≡ get_or (of_kind 3 net) a.switch [] ∷ []
  missed e = chosen_miss net a (any_fails (rule_matches w a) rules (at_every (λ r. rule_matches w a r ≡ false) [] rules (λ k h. unranked w a (get_or rules k []) (omega (arith, L.no_higher k h)))))

  module _ (some : 0 < x.rank) where
    f : (x.first ≤ x.last) × (x.last < length rules) × (rank_by (get_or rules x.first []) ≡ x.rank)
    f = L.first some

    -- no rule before the first or after the last has the rank
    outside : (k : ℕ) → k < length rules → (k < x.first) ⊎ (x.last < k) → top (get_or rules k []) ≡ false
    outside k h o = ne_eqb _ _ (λ e. go o (L.between k h some e))
      where
        go : (k < x.first) ⊎ (x.last < k) → (x.first ≤ k) × (k ≤ x.last) → ⊥
        go (inl t) b = omega (arith, b.0)
        go (inr t) b = omega (arith, b.1)

    between : keep top rules ≡ keep top (part rules x.first (x.last + 1))
    between =
        keep_part top rules x.first (x.last + 1) (omega (arith, f.0))
        (λ k h. outside k (omega (arith, f.0, f.1)) (inl h)) (λ k l h. outside k h (inr (omega arith)))

    begins : keep top (part rules x.first (x.last + 1)) ≡ get_or rules x.first [] ∷ keep top (part rules (x.first + 1) (x.last + 1))
    unfolding keep
    begins =
        ap (keep top) (part_more rules x.first (x.last + 1) (omega (arith, f.0)) (omega (arith, f.1)))
        ∙ ap (λ (b : Bool). cond b (get_or rules x.first [] ∷ keep top (part rules (x.first + 1) (x.last + 1))) (keep top (part rules (x.first + 1) (x.last + 1)))) (eq-eqb _ _ f.2)

    -- the first one matches
    matches : any (rule_matches w a) rules ≡ true
    matches =
        any_more top (rule_matches w a) (λ r t. ranked w a r (omega (arith, eqb-true (rank_by r) x.rank t))) rules
        (any_kept top rules (get_or rules x.first []) (keep top (part rules (x.first + 1) (x.last + 1))) (between ∙ begins))

    first_matches : rule_matches w a (get_or rules x.first []) ≡ true
    first_matches = ranked w a (get_or rules x.first []) (omega (arith, f.2))

    -- a rule matches and none that matches outranks it exactly if it has the highest rank
    highest : (k : ℕ) → k < length rules → let r = get_or rules k [] in (rule_matches w a r ≡ true) × NoneOutranks net a r → top r ≡ true
    unfolding priority
    highest k h t =
        let r = get_or rules k [] in
        let g = get_or rules x.first [] in
        let over : priority g ≤ priority r = every_at (λ s. rule_matches w a s ≡ true → priority s ≤ priority r) [] rules x.first (λ m. omega arith) t.1 first_matches in
        eq-eqb (rank_by r) x.rank (omega (arith, L.no_higher k h, rank_true w a r t.0, rank_true w a g first_matches, f.2))

    is_highest : (k : ℕ) → k < length rules → let r = get_or rules k [] in top r ≡ true → (rule_matches w a r ≡ true) × NoneOutranks net a r
    is_highest k h t =
        let r = get_or rules k [] in
        let e = eqb-true (rank_by r) x.rank t in
        let m = ranked w a r (omega arith) in
        (m, at_every (λ s. rule_matches w a s ≡ true → priority s ≤ priority r) [] rules (λ j l n. omega (arith, rank_true w a (get_or rules j []) n, L.no_higher j l, rank_true w a r m)))

    lead : chosen net a ≡ keep top (part rules x.first (x.last + 1))
    lead =
        let q = chosen_exactly net a matches in
        q.1
        ∙ keep_same q.0 top rules (at_every (λ r. q.0 r ≡ top r) [] rules
        (λ k h. same_test (q.0 (get_or rules k [])) (top (get_or rules k [])) (λ t. highest k h ((q.2 (get_or rules k [])).0 t)) (λ t. (q.2 (get_or rules k [])).1 (is_highest k h t))))
        ∙ between

  led_own : Leads net (widths_of net) a x
  led_own = record {
    miss = missed;
    rules = λ n. lead (omega (arith, n));
    within = λ n. let q = f (omega (arith, n)) in (q.0, q.1);
  }

led_all : (net : Net) (w : Widths) → w ≡ widths_of net → (a : Arrival) (x : Lead) → Led w a (of_kind 4 net) (length (of_kind 4 net)) x → Leads net w a x
led_all net w widths a x = subst⁻¹ (λ (v : Widths). Led v a (of_kind 4 net) (length (of_kind 4 net)) x → Leads net v a x) widths (led_own net a x)

-- no rule leads where the entries of the arriving states are new, whatever stands behind them
module _ (w : Widths) (k : ℕ) (rest : List Lead) (half : states w / 2 ≤ k) where
  pub none_lead : NoneLead w (replicate k no_lead ++ rest)
  none_lead sw p h hs hp hh =
      let s : ℕ = state w 0 sw p h in
      let low : s < k = omega (arith, arriving_half w sw p h hs hp hh) in
      ap (λ (x : Lead). x.rank)
      (get_or-append (replicate k no_lead) rest no_lead s (omega (arith, length-replicate k no_lead)) ∙ get_or-replicate k s no_lead no_lead low)

-- the table has who leads each arrival, by the rules before number j
abbrev pub LedBy : Net → Widths → ℕ → List Lead → Type 0
LedBy net w j leads = (sw p h : ℕ) → sw < 2 ^ w.w → p < 2 ^ w.p → h < 2 ^ w.h → Led w (arrival sw p h) (of_kind 4 net) j (lead_at leads (state w 0 sw p h))

module _ (net : Net) (w : Widths) where
  pub led_by_none : (t : List Lead) → NoneLead w t → LedBy net w 0 t
  led_by_none t E sw p h hs hp hh = led_none w (arrival sw p h) (of_kind 4 net) _ (E sw p h hs hp hh)

  -- so of a new table
  pub led_by_new : within_limits w ≡ true → LedBy net w 0 (replicate most_arriving no_lead)
  led_by_new limits =
      led_by_none (replicate most_arriving no_lead)
      (λ sw p h hs hp hh. ap (λ (x : Lead). x.rank) (get_or-replicate most_arriving (state w 0 sw p h) no_lead no_lead (arriving-lt w limits sw p h hs hp hh)))

  -- rule j is painted over the arrivals that it matches
  pub led_by_more : (j : ℕ) (rule : RuleSet) (t t' : List Lead) → LedBy net w j t → SetsOf w (get_or (of_kind 4 net) j []) rule
      → Painted w (λ v. eqb rule.switch v.switch && bit_of rule.ports v.port && bit_of rule.headers v.header) rule.rank j t t' → LedBy net w (j + 1) t'
  led_by_more j rule t t' L S P sw p h hs hp hh = subst⁻¹ (Led w v (of_kind 4 net) (j + 1)) (P.leads sw p h hs hp hh) (go _ (sym (match_by_sets w r rule S sw p h hp hh)))
    where
      r : Rec
      r = get_or (of_kind 4 net) j []

      v : Arrival
      v = arrival sw p h

      x : Lead
      x = lead_at t (state w 0 sw p h)

      go : (b : Bool) → b ≡ rule_matches w v r → Led w v (of_kind 4 net) (j + 1) (cond b (raised rule.rank j x) x)
      go true e = led_raised w v (of_kind 4 net) j x (L sw p h hs hp hh) rule.rank (rank_true w v r (sym e) ∙ sym S.rank) (omega (arith, S.rank))
      go false e = led_passed w v (of_kind 4 net) j x (L sw p h hs hp hh) (rank_false w v r (sym e))

  pub led_by_all : w ≡ widths_of net → (t : List Lead) → LedBy net w (length (of_kind 4 net)) t → AllLead net w t
  led_by_all widths t L sw p h hs hp hh = led_all net w widths (arrival sw p h) (lead_at t (state w 0 sw p h)) (L sw p h hs hp hh)
