-- What a command does to the records by the parts of the network: those before the place of the change, and those after it.
use Rattle.std.specs.Prelude.{◌≡◌, refl, Bool, true, false, ◌||◌, [], ◌∷◌, ◌++◌, ℕ, zero, suc, ◌≤◌, ltb, get_or}
use Rattle.std.proofs.Common.{ap, arith, ltb-true, ltb-false, ne_eqb}
use Rattle.std.proofs.lemmas.Bool.{false≢true}
use Rattle.basics.specs.Laws.Tests.{or_none}
use Rattle.basics.specs.Lists.{any}
use Rattle.format.specs.Record.{Rec, Net, kind, same_rule, present}
use Rattle.format.specs.Laws.Kinds.{is_node}
use Rattle.refusals.specs.Laws.Fronts.{From}
use Rattle.effect.specs.Apply.{as_rule, changed, inserted, removed, added}

-- the same rule as c between a front and a back
pub record RuleIn (c : Rec) (net : Net) : Type 0 where
  pub front : Net
  pub rule : Rec
  pub back : Net
  pub parts : net ≡ front ++ (rule ∷ back)
  pub same : same_rule c rule ≡ true
  pub changed_is : (f : Rec → Rec) → changed f c net ≡ front ++ (f rule ∷ back)
  pub removed_is : removed c net ≡ front ++ back

pub rule_in : (c : Rec) (net : Net) → present c net ≡ true → RuleIn c net
unfolding present any changed removed
rule_in c [] e = absurd (false≢true e)
rule_in c (r ∷ rest) e = go (same_rule c r) refl e (rule_in c rest)
  where
    go : (b : Bool) → same_rule c r ≡ b → (b || present c rest) ≡ true → (present c rest ≡ true → RuleIn c rest) → RuleIn c (r ∷ rest)
    go true t e ih = record { front = []; rule = r; back = rest; parts = refl; same = t; changed_is = λ f. rw (t, changed); removed_is = rw (t, removed) }
    go false t e ih =
        let i = ih e in
        record {
          front = r ∷ i.front;
          rule = i.rule;
          back = i.back;
          parts = ap (λ (l : Net). r ∷ l) i.parts;
          same = i.same;
          changed_is = λ f. rw (t, changed) (ap (λ (l : Net). r ∷ l) (i.changed_is f));
          removed_is = rw (t, removed) (ap (λ (l : Net). r ∷ l) i.removed_is);
        }

-- without it nothing changes
pub changed_none : (f : Rec → Rec) (c : Rec) (net : Net) → present c net ≡ false → changed f c net ≡ net
unfolding present any changed
changed_none f c [] e = refl
changed_none f c (r ∷ rest) e =
    let t = or_none (same_rule c r) (present c rest) e in
    rw (t.0, changed) (ap (λ (l : Net). r ∷ l) (changed_none f c rest t.1))

pub removed_none : (c : Rec) (net : Net) → present c net ≡ false → removed c net ≡ net
unfolding present any removed
removed_none c [] e = refl
removed_none c (r ∷ rest) e =
    let t = or_none (same_rule c r) (present c rest) e in
    rw (t.0, removed) (ap (λ (l : Net). r ∷ l) (removed_none c rest t.1))

-- and an add inserts
pub added_new : (c : Rec) (net : Net) → present c net ≡ false → added c net ≡ inserted c net
unfolding added
added_new c net e = rw (e, added)

-- and what it inserts is the rule alone
pub inserted_by : (c d : Rec) → as_rule c ≡ as_rule d → (net : Net) → inserted c net ≡ inserted d net
unfolding inserted
inserted_by c d e [] = ap (λ (r : Rec). r ∷ []) e
inserted_by c d e (r ∷ rest) = go (ltb 4 (kind r)) (inserted_by c d e rest)
  where
    go : (b : Bool) → inserted c rest ≡ inserted d rest
        → ◌≡◌ {A = Net} (elim b [ true ↦ as_rule c ∷ r ∷ rest | false ↦ r ∷ inserted c rest ]) (elim b [ true ↦ as_rule d ∷ r ∷ rest | false ↦ r ∷ inserted d rest ])
    go true ih = ap (λ (q : Rec). q ∷ r ∷ rest) e
    go false ih = ap (λ (l : Net). r ∷ l) ih

-- the place of a new rule: before the first record of a higher kind
pub record Place (c : Rec) (net : Net) : Type 0 where
  pub front : Net
  pub back : Net
  pub parts : net ≡ front ++ back
  pub low : (i : ℕ) → kind (get_or front i []) ≤ 4
  pub no_node : any is_node front ≡ false
  pub high : From 5 back
  pub inserted_is : inserted c net ≡ front ++ (as_rule c ∷ back)

pub place : (c : Rec) (net : Net) → Place c net
unfolding inserted any
place c [] = record { front = []; back = []; parts = refl; low = λ i. omega arith; no_node = refl; high = tt; inserted_is = refl }
place c (r ∷ rest) = go (ltb 4 (kind r)) refl (place c rest)
  where
    go : (b : Bool) → ltb 4 (kind r) ≡ b → Place c rest → Place c (r ∷ rest)
    go true t p =
        record { front = []; back = r ∷ rest; parts = refl; low = λ i. omega arith; no_node = refl; high = ltb-true 4 (kind r) t; inserted_is = rw (t, inserted) }
    go false t p =
        let l : kind r ≤ 4 = ltb-false 4 (kind r) t in
        record {
          front = r ∷ p.front;
          back = p.back;
          parts = ap (λ (l : Net). r ∷ l) p.parts;
          low = elim [ zero ↦ l | suc i ↦ p.low i ];
          no_node = rw (ne_eqb (kind r) 5 (λ q. omega arith)) p.no_node;
          high = p.high;
          inserted_is = rw (t, inserted) (ap (λ (l : Net). r ∷ l) p.inserted_is);
        }
