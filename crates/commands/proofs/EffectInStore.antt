-- A command's change of the records, by the number of the record that it changes.
use mathlib.Core.Path.{◌≡◌, refl, sym, ap, ◌∙◌}
use mathlib.Core.Bool.{Bool, true, false, cond}
use mathlib.Core.List.{List, [], ◌∷◌, ◌++◌}
use Rattle.std.specs.Prelude.{Some, None}
use Prim.Native.Nat.{ℕ, suc, ◌+◌, ◌≤◌}
use native.Mathlib.Omega.{arith}
use lib.ListN.{take, drop, take-append-drop}
use Rattle.format.specs.Record.{Rec, Net, records, same_rule}
use Rattle.format.specs.Search.{record_at, first_at}
use Rattle.rows.specs.Found.{found_rule}
use Rattle.format.specs.Laws.Records.{length_records}
use Rattle.rows.specs.Laws.Found.{found_present, found_absent}
use Rattle.effect.specs.Apply.{as_rule, changed, inserted, removed, added}
use Rattle.commands.specs.Effect.{spliced, joined, above_rules}
use Rattle.effect.specs.Laws.RulePlace.{removed_none}
use Rattle.commands.proofs.FoundRule.{first-le, at_first, at_record}

-- a new rule goes before the first record of a higher kind
inserted_at : (c : Rec) (net : Net) → inserted c net ≡ spliced net (first_at above_rules net) (first_at above_rules net) (as_rule c)
unfolding inserted first_at
inserted_at c [] = refl
inserted_at c (r ∷ rs) = go (above_rules r) (first_at above_rules rs) (inserted_at c rs)
  where
    go : (b : Bool) (k : ℕ) → inserted c rs ≡ spliced rs k k (as_rule c)
        → elim b [ true ↦ as_rule c ∷ r ∷ rs | false ↦ r ∷ inserted c rs ] ≡ spliced (r ∷ rs) (cond b 0 (suc k)) (cond b 0 (suc k)) (as_rule c)
    go true k e = refl
    go false k e = ap (λ (l : Net). r ∷ l) e

-- a change that passes over the records that fail a test
module _ (t : Rec → Bool) (g : Net → Net) (over : (r : Rec) (rs : Net) → t r ≡ false → g (r ∷ rs) ≡ r ∷ g rs) where
  from_first : (net : Net) → g net ≡ take (first_at t net) net ++ g (drop (first_at t net) net)
  unfolding first_at
  from_first [] = refl
  from_first (r ∷ rs) = go (t r) refl (first_at t rs) (from_first rs)
    where
      go : (b : Bool) → t r ≡ b → (k : ℕ) → g rs ≡ take k rs ++ g (drop k rs)
          → g (r ∷ rs) ≡ take (cond b 0 (suc k)) (r ∷ rs) ++ g (drop (cond b 0 (suc k)) (r ∷ rs))
      go true q k e = refl
      go false q k e = over r rs q ∙ ap (λ (l : Net). r ∷ l) e

-- nothing
pub all_kept : (s : List ℕ) (n : ℕ) → records n s ≡ joined (records n s) n n
all_kept s n = sym (take-append-drop n (records n s))

-- the effect of a command on the records of a store
module _ (c : Rec) (s : List ℕ) (n : ℕ) where
  abbrev net : Net
  net = records n s

  module _ (g : Net → Net) (over : (r : Rec) (rs : Net) → same_rule c r ≡ false → g (r ∷ rs) ≡ r ∷ g rs) where
    at_same : (k : ℕ) → Some k ≡ found_rule c net → g net ≡ take k net ++ g (record_at s k ∷ drop (k + 1) net)
    at_same k e =
        from_first (same_rule c) g over net ∙ ap (λ (m : ℕ). take m net ++ g (drop m net)) (at_first c s n k e)
        ∙ ap (λ (l : Net). take k net ++ g l) (at_record c s n k e).1

  changed_over : (f : Rec → Rec) (r : Rec) (rs : Net) → same_rule c r ≡ false → changed f c (r ∷ rs) ≡ r ∷ changed f c rs
  unfolding changed
  changed_over f r rs t = rw (t, changed)

  removed_over : (r : Rec) (rs : Net) → same_rule c r ≡ false → removed c (r ∷ rs) ≡ r ∷ removed c rs
  unfolding removed
  removed_over r rs t = rw (t, removed)

  -- modify
  pub changed_at : (f : Rec → Rec) (k : ℕ) → Some k ≡ found_rule c net → changed f c net ≡ spliced net k (k + 1) (f (record_at s k))
  unfolding changed
  changed_at f k e = at_same (changed f c) (changed_over f) k e ∙ rw ((at_record c s n k e).0, changed)

  -- delete
  pub removed_at : (k : ℕ) → Some k ≡ found_rule c net → removed c net ≡ joined net k (k + 1)
  unfolding removed
  removed_at k e = at_same (removed c) removed_over k e ∙ rw ((at_record c s n k e).0, removed)

  pub removed_absent : None ≡ found_rule c net → removed c net ≡ joined net n n
  removed_absent e = removed_none c net (sym (found_absent c net e)) ∙ all_kept s n

  -- add
  pub added_at : (k : ℕ) → Some k ≡ found_rule c net → added c net ≡ spliced net k (k + 1) (as_rule c)
  unfolding added
  added_at k e = rw (sym (found_present c net k e), added) (changed_at (λ r. as_rule c) k e)

  -- a new rule
  pub inserted_new : (k : ℕ) → k ≡ first_at above_rules net → inserted c net ≡ spliced net k k (as_rule c)
  inserted_new k q = inserted_at c net ∙ ap (λ (m : ℕ). spliced net m m (as_rule c)) (sym q)

  pub new_below : (k : ℕ) → k ≡ first_at above_rules net → k ≤ n
  new_below k q = omega (arith, first-le above_rules net, length_records n s)
