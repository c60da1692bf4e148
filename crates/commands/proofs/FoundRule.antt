-- Where the same rule as a command stands, by what a search tells.
use mathlib.Core.Path.{◌≡◌, refl, sym, ap, ap₂, subst, ◌∙◌}
use mathlib.Core.Bool.{Bool, true, false, cond, ◌||◌, false≢true}
use mathlib.Core.List.{List, [], ◌∷◌}
use Rattle.std.specs.Prelude.{Some, None}
use Prim.Native.Nat.{ℕ, suc, ◌+◌, ◌<◌, ◌≤◌}
use native.Mathlib.Omega.{arith}
use native.Mathlib.Numerals.{add-one}
use lib.ListN.{length, drop, length-drop}
use Rattle.basics.specs.Lists.{any}
use Rattle.format.specs.Record.{Rec, Net, records, same_rule, present}
use Rattle.format.specs.Search.{record_at, records_after, first_at}
use Rattle.rows.specs.Found.{found_rule}
use Rattle.format.specs.Laws.Records.{length_records, records_left}
use Rattle.rows.specs.Laws.Found.{found_present}
use Rattle.commands.proofs.RecordBytes.{records_drop}

-- a record that passes a test stands at a number
abbrev Here : (Rec → Bool) → Net → ℕ → Type 0
Here t net k = (r : Rec) × (t r ≡ true) × (drop k net ≡ r ∷ drop (suc k) net)

-- the first record that passes a test
first_here : (t : Rec → Bool) (net : Net) → any t net ≡ true → Here t net (first_at t net)
unfolding any first_at
first_here t [] e = absurd (false≢true e)
first_here t (x ∷ xs) e = go (t x) refl (first_at t xs) e (first_here t xs)
  where
    go : (b : Bool) → t x ≡ b → (k : ℕ) → (b || any t xs) ≡ true → (any t xs ≡ true → Here t xs k) → Here t (x ∷ xs) (cond b 0 (suc k))
    go true q k e ih = (x, q, refl)
    go false q k e ih = ih e

-- it stands among the records, or after all of them
pub first-le : (t : Rec → Bool) (net : Net) → first_at t net ≤ length net
unfolding first_at
first-le t [] = omega arith
first-le t (r ∷ rs) = go (t r) (first_at t rs) (first-le t rs)
  where
    go : (b : Bool) (k : ℕ) → k ≤ length rs → cond b 0 (suc k) ≤ suc (length rs)
    go true k h = omega arith
    go false k h = omega arith

at_told : (b : Bool) (m k : ℕ) → Some k ≡ cond b (Some m) None → m ≡ k
at_told true m k e = cc
at_told false m k e = cc

-- the same rule as c among the records of a store
module _ (c : Rec) (s : List ℕ) (n : ℕ) where
  abbrev net : Net
  net = records n s

  pub at_first : (k : ℕ) → Some k ≡ found_rule c net → first_at (same_rule c) net ≡ k
  unfolding found_rule
  at_first k e = at_told (present c net) (first_at (same_rule c) net) k e

  at_here : (k : ℕ) → Some k ≡ found_rule c net → Here (same_rule c) net k
  unfolding present
  at_here k e =
      subst (Here (same_rule c) net) (at_first k e)
      (first_here (same_rule c) net (sym (found_present c net k e)))

  -- the same rule is one of the records
  pub at_below : (k : ℕ) → Some k ≡ found_rule c net → k < n
  at_below k e = omega (arith, ap length (at_here k e).2, length-drop k net, length_records n s)

  pub at_record : (k : ℕ) → Some k ≡ found_rule c net → (same_rule c (record_at s k) ≡ true) × (drop k net ≡ record_at s k ∷ drop (k + 1) net)
  at_record k e =
      let h = at_here k e in
      let l = at_below k e in
      let q : h.0 ∷ drop (suc k) net ≡ record_at s k ∷ records_after n s k = sym h.2 ∙ records_drop s n k (omega arith) ∙ records_left s n k l in
      let r : h.0 ≡ record_at s k = cc in
      (subst (λ (x : Rec). same_rule c x ≡ true) r h.1, h.2 ∙ ap₂ (λ (x : Rec) (m : ℕ). x ∷ drop m net) r (sym (add-one k)))
