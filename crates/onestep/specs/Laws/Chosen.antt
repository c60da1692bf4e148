-- Exactly which records act on an arrival.
use borrow.Author.Tests.{ltb-false, le-ltb, eqb-true, eq-eqb, not-true}
use Rattle.std.specs.Prelude.{◌≡◌, Bool, cond, ◌&&◌, ◌||◌, [], ◌∷◌, ◌↔◌, ◌<◌, ◌≤◌, eqb, get_or}
use Rattle.std.proofs.Math.Path.{refl, ap}
use Rattle.std.proofs.Common.{sym, ◌∙◌, arith}
use Rattle.std.proofs.Math.Bool.{true, false, not}
use Rattle.std.proofs.lemmas.Bool.{false≢true}
use Rattle.std.proofs.Math.Decide.{dec_lt}
use Rattle.std.proofs.Math.Dec.{ltb}
use Rattle.basics.specs.Laws.Tests.{and_both, both, or_left, or_right}
use Rattle.basics.specs.Lists.{keep, any}
use Rattle.format.specs.Record.{Rec, Net, priority, of_kind, widths_of}
use Rattle.basics.specs.Laws.Lists.{any_keep, keep_keep}
use Rattle.basics.specs.Laws.Every.{Every, every_more, every_fails, any_fails, any_more, none_kept}
use Rattle.onestep.specs.Chosen.{Arrival, rule_matches, outranked, best, or_miss, chosen}

-- some rule has the highest priority
top_of : (r : Rec) (rs : Net) → (t : Rec) × Every (λ s. priority s ≤ priority t) (r ∷ rs) × (any (λ s. eqb (priority s) (priority t)) (r ∷ rs) ≡ true)
unfolding any
top_of r [] = (r, (omega arith, tt), or_left (eqb (priority r) (priority r)) false (eq-eqb (priority r) (priority r) refl))
top_of r (s ∷ rs) = go (top_of s rs)
  where
    go : (t : Rec) × Every (λ u. priority u ≤ priority t) (s ∷ rs) × (any (λ u. eqb (priority u) (priority t)) (s ∷ rs) ≡ true)
        → (t : Rec) × Every (λ u. priority u ≤ priority t) (r ∷ s ∷ rs) × (any (λ u. eqb (priority u) (priority t)) (r ∷ s ∷ rs) ≡ true)
    go (t, highest, attained) = higher (dec_lt (priority t) (priority r))
      where
        higher : Dec (priority t < priority r) → (t : Rec) × Every (λ u. priority u ≤ priority t) (r ∷ s ∷ rs) × (any (λ u. eqb (priority u) (priority t)) (r ∷ s ∷ rs) ≡ true)
        higher (yes h) = (
          r,
          (omega arith, every_more (λ u. priority u ≤ priority t) (λ u. priority u ≤ priority r) (s ∷ rs) (λ u l. omega arith) highest),
          or_left (eqb (priority r) (priority r)) _ (eq-eqb (priority r) (priority r) refl),
        )
        higher (no h) = (t, (omega arith, highest), or_right (eqb (priority r) (priority t)) _ attained)

-- so of some rules there is one that none outranks
not_all_outranked : (r : Rec) (rs : Net) → any (λ s. not (outranked s (r ∷ rs))) (r ∷ rs) ≡ true
unfolding outranked
not_all_outranked r rs =
    let t = top_of r rs in
    any_more (λ s. eqb (priority s) (priority t.0)) (λ s. not (outranked s (r ∷ rs)))
    (λ s e. ap not (any_fails (λ u. ltb (priority s) (priority u)) (r ∷ rs)
    (every_more (λ u. priority u ≤ priority t.0) (λ u. ltb (priority s) (priority u) ≡ false) (r ∷ rs) (λ u l. le-ltb (priority s) (priority u) (omega (arith, eqb-true (priority s) (priority t.0) e))) t.1)))
    (r ∷ rs) t.2

-- where a rule is kept, the miss does not act
no_miss : (f : Rec → Bool) (rs : Net) (miss : Rec) → any f rs ≡ true → or_miss (keep f rs) miss ≡ keep f rs
unfolding any keep or_miss
no_miss f [] miss e = absurd (false≢true e)
no_miss f (r ∷ rs) miss e = go (f r) e (no_miss f rs miss)
  where
    go : (b : Bool) → (b || any f rs) ≡ true → (any f rs ≡ true → or_miss (keep f rs) miss ≡ keep f rs)
        → or_miss (cond b (r ∷ keep f rs) (keep f rs)) miss ≡ cond b (r ∷ keep f rs) (keep f rs)
    go true e ih = refl
    go false e ih = ih e

best_acts : (f : Rec → Bool) (rs : Net) (miss : Rec) → any f rs ≡ true → or_miss (best (keep f rs)) miss ≡ best (keep f rs)
unfolding any keep best
best_acts f [] miss e = absurd (false≢true e)
best_acts f (r ∷ rs) miss e = go (f r) e (best_acts f rs miss)
  where
    go : (b : Bool) → (b || any f rs) ≡ true → (any f rs ≡ true → or_miss (best (keep f rs)) miss ≡ best (keep f rs))
        → or_miss (best (cond b (r ∷ keep f rs) (keep f rs))) miss ≡ best (cond b (r ∷ keep f rs) (keep f rs))
    go true e ih = no_miss (λ s. not (outranked s (r ∷ keep f rs))) (r ∷ keep f rs) miss (not_all_outranked r (keep f rs))
    go false e ih = ih e

module _ (net : Net) (a : Arrival) where
  abbrev matching : Rec → Bool
  matching r = rule_matches (widths_of net) a r

  abbrev rules : Net
  rules = of_kind 4 net

  -- no rule of the network that matches the arrival has a higher priority than r
  abbrev pub NoneOutranks : Rec → Type 0
  NoneOutranks r = Every (λ s. rule_matches (widths_of net) a s ≡ true → priority s ≤ priority r) (of_kind 4 net)

  abbrev test : Rec → Bool
  test r = matching r && not (outranked r (keep matching rules))

  none_outranks : (r : Rec) → outranked r (keep matching rules) ≡ false → NoneOutranks r
  unfolding outranked
  none_outranks r e =
      every_more (λ s. (matching s && ltb (priority r) (priority s)) ≡ false) (λ s. matching s ≡ true → priority s ≤ priority r) rules
      (λ s q m. ltb-false (priority r) (priority s) (sym (ap (λ (b : Bool). b && ltb (priority r) (priority s)) m) ∙ q))
      (every_fails _ rules (sym (any_keep (λ s. ltb (priority r) (priority s)) matching rules) ∙ e))

  not_outranked : (r : Rec) → NoneOutranks r → outranked r (keep matching rules) ≡ false
  unfolding outranked
  not_outranked r n =
      any_keep (λ s. ltb (priority r) (priority s)) matching rules
      ∙ any_fails _ rules
      (every_more (λ s. matching s ≡ true → priority s ≤ priority r) (λ s. (matching s && ltb (priority r) (priority s)) ≡ false) rules (λ s q. go s (matching s) refl q) n)
    where
      go : (s : Rec) (b : Bool) → matching s ≡ b → (matching s ≡ true → priority s ≤ priority r) → (b && ltb (priority r) (priority s)) ≡ false
      go s true e q = le-ltb (priority r) (priority s) (q e)
      go s false e q = refl

  -- where some rule matches, those rules act that match and that no matching rule outranks: exactly these, in the order of the file
  pub chosen_exactly : any (rule_matches (widths_of net) a) (of_kind 4 net) ≡ true
      → (f : Rec → Bool) × (chosen net a ≡ keep f (of_kind 4 net)) × ((r : Rec) → (f r ≡ true) ↔ ((rule_matches (widths_of net) a r ≡ true) × NoneOutranks r))
  unfolding chosen best
  chosen_exactly e = (
    test,
    best_acts matching rules (get_or (of_kind 3 net) a.switch []) e ∙ keep_keep (λ r. not (outranked r (keep matching rules))) matching rules,
    λ r. (
      λ t. let q = both (matching r) (not (outranked r (keep matching rules))) t in (q.0, none_outranks r (not-true (outranked r (keep matching rules)) q.1)),
      λ t. and_both (matching r) (not (outranked r (keep matching rules))) t.0 (ap not (not_outranked r t.1)),
    ),
  )

  -- where no rule matches, the miss record of the switch alone acts
  pub chosen_miss : any (rule_matches (widths_of net) a) (of_kind 4 net) ≡ false → chosen net a ≡ get_or (of_kind 3 net) a.switch [] ∷ []
  unfolding chosen best keep or_miss
  chosen_miss e = ap (λ (l : Net). or_miss (best l) (get_or (of_kind 3 net) a.switch [])) (none_kept matching rules e)
