-- Laws of what the scan knows, as one record more comes.
use Rattle.std.specs.Prelude.{◌≡◌, refl, true, cond, Result, Ok, Err, OnOk, List, [], ◌∷◌, ◌++◌, ℕ, ◌+◌, ◌^◌, ◌<◌, ◌≤◌, ltb, length, replicate}
use Rattle.std.proofs.Common.{sym, ap, subst, ◌∙◌, ⊎_elim, arith, length-append, eq-eqb, ne_eqb, eqb-true}
use Rattle.std.proofs.Math.Dec.{eqb}
use Rattle.std.proofs.lemmas.Bool.{eqb-false}
use Rattle.basics.specs.Lists.{keep}
use Rattle.format.specs.Record.{Rec, Net, kind, records, of_kind, widths_of}
use Rattle.widths.specs.Widths.{within_limits}
use Rattle.format.specs.Policy.{nodes_of, policy_count, longest_of, longest}
use Rattle.refusals.specs.Rows.{misses_incomplete, last_group}
use Rattle.refusals.specs.declared.Row.{Row}
use Rattle.noderows.specs.Policies.{PoliciesOf}
use Rattle.rows.specs.Groups.{GroupsOf}
use Rattle.rows.specs.Laws.Noted.{keys_none, keys_other, points_none, points_other}
use Rattle.recordrow.specs.Scan.{SeenOf, NotedOf}
use Rattle.widths.specs.declared.Widths.{Widths}
use Rattle.recordrow.specs.declared.Seen.{Seen}
use Rattle.recordrow.specs.declared.Notes.{Notes}
use Rattle.format.specs.Laws.Kinds.{kind_count, widths-append, last_kind_lem}
use Rattle.basics.specs.Laws.Lists.{keep_fewer}
use Rattle.format.specs.Laws.Records.{length_records}
use Rattle.noderows.specs.declared.Policies.{Policies}
use Rattle.rows.specs.declared.groups.Groups.{Groups}
use Rattle.rows.specs.Laws.Groups.{groups_other}
use Rattle.noderows.specs.Laws.Formulas.{marks_none, same_or_not}
use Rattle.widths.specs.Laws.Limits.{limits}
use Rattle.noderows.specs.Laws.Entered.{policies_other}

module _ (before : Net) (s : Seen) (known : SeenOf before s) where
  pub begun : (s.last ≡ 0 → ⊥) → 0 < length before
  begun h =
      let e : (length before ≡ 0 → ⊥) = eqb-false (length before) 0 (known.started ∙ ne_eqb s.last 0 h) in
      omega arith

  pub nothing_yet : s.last ≡ 0 → before ≡ []
  nothing_yet h = go before (eqb-true (length before) 0 (known.started ∙ eq-eqb s.last 0 h))
    where
      go : (l : Net) → length l ≡ 0 → l ≡ []
      go [] e = refl
      go (x ∷ l) e = absurd (omega arith)

  -- what is known after one record more, whose kind is the last
  pub seen_more : (r : Rec) (t : Seen) → t.last ≡ kind r → (kind r ≡ 0 → ⊥) → t.widths ≡ widths_of (before ++ (r ∷ [])) → within_limits t.widths ≡ true
      → t.links ≡ s.links + cond (eqb (kind r) 2) 1 0 → t.misses ≡ s.misses + cond (eqb (kind r) 3) 1 0 → t.rules ≡ s.rules + cond (eqb (kind r) 4) 1 0
      → PoliciesOf (before ++ (r ∷ [])) t.policies → GroupsOf (before ++ (r ∷ [])) t.groups → SeenOf (before ++ (r ∷ [])) t
  seen_more r t last some-kind widths limits links misses rules policies groups = record {
    last = last ∙ sym (last_kind_lem before r);
    started = ne_eqb (length (before ++ (r ∷ []))) 0 (λ q. omega (arith, length-append before (r ∷ []))) ∙ sym (ne_eqb t.last 0 (λ q. some-kind (sym last ∙ q)));
    widths = widths;
    limits = λ _. limits;
    links = links ∙ ap (λ (k : ℕ). k + cond (eqb (kind r) 2) 1 0) known.links ∙ sym (kind_count 2 before r);
    misses = misses ∙ ap (λ (k : ℕ). k + cond (eqb (kind r) 3) 1 0) known.misses ∙ sym (kind_count 3 before r);
    rules = rules ∙ ap (λ (k : ℕ). k + cond (eqb (kind r) 4) 1 0) known.rules ∙ sym (kind_count 4 before r);
    policies = policies;
    groups = groups;
  }

  -- after the widths record, a link, a miss, a rule, a node and a group
  pub seen_widths : (r : Rec) (w : Widths) → kind r ≡ 1 → s.last ≡ 0 → w ≡ widths_of (r ∷ []) → within_limits w ≡ true
      → SeenOf (before ++ (r ∷ [])) (record { last = kind r; widths = w; links = s.links; misses = s.misses; rules = s.rules; policies = s.policies; groups = s.groups })
  seen_widths r w k z e l =
      let q : before ≡ [] = nothing_yet z in
      seen_more r (record { last = kind r; widths = w; links = s.links; misses = s.misses; rules = s.rules; policies = s.policies; groups = s.groups }) refl (λ q. omega arith)
      (e ∙ ap (λ (b : Net). widths_of (b ++ (r ∷ []))) (sym q)) l
      (rw k (omega arith)) (rw k (omega arith)) (rw k (omega arith))
      (policies_other before s.policies known.policies r (λ q. omega arith)) (groups_other before s.groups known.groups r (λ q. omega arith))

  module _ (r : Rec) (later : s.last ≡ 0 → ⊥) where
    same_widths : s.widths ≡ widths_of (before ++ (r ∷ []))
    same_widths = known.widths ∙ sym (widths-append before (r ∷ []) (begun later))

    pub seen_link : kind r ≡ 2
        → SeenOf (before ++ (r ∷ [])) (record { last = kind r; widths = s.widths; links = s.links + 1; misses = s.misses; rules = s.rules; policies = s.policies; groups = s.groups })
    seen_link k =
        seen_more r (record { last = kind r; widths = s.widths; links = s.links + 1; misses = s.misses; rules = s.rules; policies = s.policies; groups = s.groups }) refl (λ q. omega arith)
        same_widths (known.limits later) (rw k refl) (rw k (omega arith)) (rw k (omega arith))
        (policies_other before s.policies known.policies r (λ q. omega arith)) (groups_other before s.groups known.groups r (λ q. omega arith))

    pub seen_miss : kind r ≡ 3
        → SeenOf (before ++ (r ∷ [])) (record { last = kind r; widths = s.widths; links = s.links; misses = s.misses + 1; rules = s.rules; policies = s.policies; groups = s.groups })
    seen_miss k =
        seen_more r (record { last = kind r; widths = s.widths; links = s.links; misses = s.misses + 1; rules = s.rules; policies = s.policies; groups = s.groups }) refl (λ q. omega arith)
        same_widths (known.limits later) (rw k (omega arith)) (rw k refl) (rw k (omega arith))
        (policies_other before s.policies known.policies r (λ q. omega arith)) (groups_other before s.groups known.groups r (λ q. omega arith))

    pub seen_rule : kind r ≡ 4
        → SeenOf (before ++ (r ∷ [])) (record { last = kind r; widths = s.widths; links = s.links; misses = s.misses; rules = s.rules + 1; policies = s.policies; groups = s.groups })
    seen_rule k =
        seen_more r (record { last = kind r; widths = s.widths; links = s.links; misses = s.misses; rules = s.rules + 1; policies = s.policies; groups = s.groups }) refl (λ q. omega arith)
        same_widths (known.limits later) (rw k (omega arith)) (rw k (omega arith)) (rw k refl)
        (policies_other before s.policies known.policies r (λ q. omega arith)) (groups_other before s.groups known.groups r (λ q. omega arith))

    pub seen_node : (p : Policies) → kind r ≡ 5 → PoliciesOf (before ++ (r ∷ [])) p
        → SeenOf (before ++ (r ∷ [])) (record { last = kind r; widths = s.widths; links = s.links; misses = s.misses; rules = s.rules; policies = p; groups = s.groups })
    seen_node p k q =
        seen_more r (record { last = kind r; widths = s.widths; links = s.links; misses = s.misses; rules = s.rules; policies = p; groups = s.groups }) refl (λ q. omega arith)
        same_widths (known.limits later) (rw k (omega arith)) (rw k (omega arith)) (rw k (omega arith)) q
        (groups_other before s.groups known.groups r (λ q. omega arith))

    pub seen_group : (g : Groups) → kind r ≡ 9 → GroupsOf (before ++ (r ∷ [])) g
        → SeenOf (before ++ (r ∷ [])) (record { last = kind r; widths = s.widths; links = s.links; misses = s.misses; rules = s.rules; policies = s.policies; groups = g })
    seen_group g k q =
        seen_more r (record { last = kind r; widths = s.widths; links = s.links; misses = s.misses; rules = s.rules; policies = s.policies; groups = g }) refl (λ q. omega arith)
        same_widths (known.limits later) (rw k (omega arith)) (rw k (omega arith)) (rw k (omega arith))
        (policies_other before s.policies known.policies r (λ q. omega arith)) q

  -- the switch width is small, and the misses are complete or not by their number
  pub misses_known : misses_incomplete before ≡ ltb s.misses (2 ^ s.widths.w)
  unfolding misses_incomplete
  misses_known = rw (← known.misses, ← known.widths)

-- the numbers of records of each kind are at most that of all
module _ (store : List ℕ) (i : ℕ) (s : Seen) (known : SeenOf (records i store) s) where
  few : (k : ℕ) → length (of_kind k (records i store)) ≤ i
  unfolding of_kind
  few k = omega (arith, keep_fewer (λ r. eqb (kind r) k) (records i store), length_records i store)

  pub few_links : s.links ≤ i
  few_links = omega (arith, known.links, few 2)

  pub few_misses : s.misses ≤ i
  few_misses = omega (arith, known.misses, few 3)

  pub few_rules : s.rules ≤ i
  few_rules = omega (arith, known.rules, few 4)

  pub few_groups : s.groups.count ≤ i
  few_groups = omega (arith, known.groups.count, few 9)

-- the switch width is small, before the widths record too
pub narrow : (before : Net) (s : Seen) → SeenOf before s → s.widths.w ≤ 4
unfolding widths_of
narrow before s known =
    ⊎_elim
    (λ z. omega (arith, ap (λ (v : Widths). v.w) (known.widths ∙ ap widths_of (nothing_yet before s known z))))
    (λ h. (limits s.widths (known.limits h)).high_w)
    (same_or_not s.last 0)

-- before the first record
pub seen_none : SeenOf [] (
    record { last = 0; widths = record { h = 0; p = 0; w = 0 }; links = 0; misses = 0; rules = 0; policies = record { count = 0; nodes = 0; free = 0; longest = 0 }; groups = record { count = 0; switch = 0; number = 0 } }
    )
unfolding of_kind nodes_of keep policy_count longest longest_of widths_of last_group
seen_none = record {
  last = refl;
  started = refl;
  widths = refl;
  limits = λ h. absurd (h refl);
  links = refl;
  misses = refl;
  rules = refl;
  policies = record { count = refl; nodes = refl; marks = marks_none; longest = refl };
  groups = record { count = refl; switch = refl; number = refl };
}

-- what holds where a turn goes on: where more does, once it has gone on, and where it holds however it goes
pub onward_from : {P Q : Type 0} (t : Result Seen Row) → (P → Q) → OnOk t P → OnOk t Q
onward_from (Err k) f h = tt
onward_from (Ok s) f h = f h

pub onward_next : {P : Type 0} (t : Result Seen Row) (s : Seen) → t ≡ Ok s → OnOk t P → P
onward_next {P} t s e h = subst (λ (u : Result Seen Row). OnOk u P) e h

pub onward_all : {P : Type 0} (t : Result Seen Row) → P → OnOk t P
onward_all (Err k) h = tt
onward_all (Ok s) h = h

-- nothing is noted of no record; one that is neither a link nor a rule leaves what is noted
pub noted_none : NotedOf [] (record { keys = replicate 512 0; points = replicate 32 0 })
unfolding records
noted_none = record { keys = keys_none []; points = points_none [] }

pub noted_other : (before : Net) (notes : Notes) (r : Rec) → NotedOf before notes → (kind r ≡ 2 → ⊥) → (kind r ≡ 4 → ⊥) → NotedOf (before ++ (r ∷ [])) notes
noted_other before notes r N l k = record { keys = keys_other before notes.keys r N.keys k; points = points_other before notes.points r N.points l }
