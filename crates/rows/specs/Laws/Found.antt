-- Laws of a search over the records of a store: nothing found so far, and the first that is found.
use Rattle.std.specs.Prelude.{◌≡◌, Bool, true, false, cond, Option, Some, None, ℕ, suc, ◌+◌, ◌-◌, ◌*◌, ◌<◌, length, take, drop}
use Rattle.std.proofs.Math.Path.{refl, ap}
use Rattle.std.proofs.Common.{sym, ◌∙◌, arith}
use Rattle.std.proofs.Math.Bool.{or-true}
use Rattle.std.proofs.lemmas.Bool.{false≢true}
use mathlib.Core.List.{List, [], ◌∷◌, ◌++◌, append-nil}
use Rattle.basics.specs.Lists.{any}
use Rattle.format.specs.Record.{Rec, Net, records, same_rule, present}
use Rattle.format.specs.Search.{record_at, records_after, first_at}
use Rattle.rows.specs.Found.{found_rule}
use Rattle.basics.specs.Laws.Lists.{any_append, any_snoc}
use Rattle.format.specs.Laws.Records.{length_records, records_split, records_left, records_more, part_is}

-- the first that passes stands after those of which none does
pub first_after : (f : Rec → Bool) (xs ys : Net) → any f xs ≡ false → first_at f (xs ++ ys) ≡ length xs + first_at f ys
unfolding first_at any
first_after f [] ys e = omega arith
first_after f (x ∷ xs) ys e = go (f x) refl (first_after f xs ys)
  where
    go : (b : Bool) → f x ≡ b → (any f xs ≡ false → first_at f (xs ++ ys) ≡ length xs + first_at f ys) → first_at f ((x ∷ xs) ++ ys) ≡ length (x ∷ xs) + first_at f ys
    go true t ih = absurd (false≢true (sym e ∙ rw t))
    go false t ih =
        let q : any f xs ≡ false = sym (rw t) ∙ e in
        let h : first_at f ((x ∷ xs) ++ ys) ≡ suc (first_at f (xs ++ ys)) = rw t in
        omega (arith, h, ih q)

module _ (f : Rec → Bool) (s : List ℕ) where
  pub none_yet : any f (records 0 s) ≡ false
  unfolding any records
  none_yet = refl

  pub none_more : (i : ℕ) → any f (records i s) ≡ false → f (record_at s i) ≡ false → any f (records (i + 1) s) ≡ false
  none_more i e t = rw (records_more s i) (any_snoc f (records i s) (record_at s i) ∙ rw (e, t))

  pub some_found : (n i : ℕ) → i < n → f (record_at s i) ≡ true → any f (records n s) ≡ true
  unfolding any
  some_found n i h t =
      ap (any f) (records_split s n i (omega arith) ∙ ap (λ (l : Net). records i s ++ l) (records_left s n i h))
      ∙ any_append f (records i s) (record_at s i ∷ records_after n s i)
      ∙ rw t (or-true (any f (records i s)))

  pub first_found : (n i : ℕ) → i < n → any f (records i s) ≡ false → f (record_at s i) ≡ true → first_at f (records n s) ≡ i
  unfolding first_at
  first_found n i h e t =
      let z : first_at f (record_at s i ∷ records_after n s i) ≡ 0 = rw t in
      ap (first_at f) (records_split s n i (omega arith) ∙ ap (λ (l : Net). records i s ++ l) (records_left s n i h))
      ∙ first_after f (records i s) (record_at s i ∷ records_after n s i) e
      ∙ omega (arith, z, length_records i s)

  pub first_none : (n : ℕ) → any f (records n s) ≡ false → first_at f (records n s) ≡ n
  unfolding first_at
  first_none n e =
      ap (first_at f) (sym (append-nil (records n s))) ∙ first_after f (records n s) [] e ∙ omega (arith, length_records n s)

-- the same, where a test t of record i, a part of the store, comes after those of which none passed
module _ (f : Rec → Bool) (s : List ℕ) (i : ℕ) (t : Bool) (none : any f (records i s) ≡ false) (e : t ≡ f (take (i * 24 + 24 - i * 24) (drop (i * 24) s))) where
  tested : (b : Bool) → t ≡ b → f (record_at s i) ≡ b
  tested b q = ap f (sym (part_is s i)) ∙ sym e ∙ q

  pub none_after : t ≡ false → any f (records (i + 1) s) ≡ false
  none_after q = none_more f s i none (tested false q)

  pub some_here : (n : ℕ) → i < n → t ≡ true → any f (records n s) ≡ true
  some_here n h q = some_found f s n i h (tested true q)

  pub first_here : (n : ℕ) → i < n → t ≡ true → first_at f (records n s) ≡ i
  first_here n h q = first_found f s n i h none (tested true q)

pub found_at : (c : Rec) (net : Net) (i : ℕ) → any (same_rule c) net ≡ true → first_at (same_rule c) net ≡ i → Some i ≡ found_rule c net
unfolding found_rule present
found_at c net i t e = sym (rw t (ap {B = Option ℕ} Some e))

pub found_none : (c : Rec) (net : Net) → any (same_rule c) net ≡ false → None ≡ found_rule c net
unfolding found_rule present
found_none c net e = sym (rw e)

-- a rule is present exactly where its place is found
pub found_present : (c : Rec) (net : Net) (k : ℕ) → Some k ≡ found_rule c net → true ≡ present c net
unfolding found_rule
found_present c net k e = go (present c net) e
  where
    go : (b : Bool) → Some k ≡ cond b (Some (first_at (same_rule c) net)) None → true ≡ b
    go true e = refl
    go false e = cc

pub found_absent : (c : Rec) (net : Net) → None ≡ found_rule c net → false ≡ present c net
unfolding found_rule
found_absent c net e = go (present c net) e
  where
    go : (b : Bool) → None ≡ cond b (Some (first_at (same_rule c) net)) None → false ≡ b
    go true e = cc
    go false e = refl
