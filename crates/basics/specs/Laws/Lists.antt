-- Laws of lists by a test: what joining two lists, and one element more, do to them.
use Rattle.std.proofs.Common.{eq-eqb, eqb-true, ap₂, subst, ◌∙◌, take-append-drop, length-take, length-drop, get_or-drop, get_or-take}
use Rattle.std.specs.Prelude.{◌≡◌, Bool, ◌&&◌, ◌||◌, length, get_or, take, drop, replicate, eqb}
use Rattle.std.proofs.Math.Path.{refl, sym, ap}
use Rattle.std.proofs.Math.Bool.{true, false, cond, and-false, or_assoc, or-false}
use Rattle.std.proofs.lemmas.Bool.{false≢true}
use mathlib.Core.List.{List, [], ◌∷◌, ◌++◌, append-nil}
use Rattle.std.proofs.Math.Logic.{⊎_elim}
use Prim.Native.Nat.{ℕ, zero, suc, ◌+◌, ◌-◌, ◌<◌, ◌≤◌}
use Rattle.std.proofs.Math.Decide.{ℕ_discrete}
use native.Mathlib.Omega.{arith}
use Rattle.std.proofs.lemmas.List.{get_or-replicate}
use Rattle.std.proofs.Math.Seq.{slice, length-slice}
use Rattle.basics.specs.Laws.Tests.{both, or_left, or_right, or_cases}
use Rattle.basics.specs.Lists.{keep, any, all, same_numbers, from, member}

module _ {A : Type 0} where
  keep_step : (b : Bool) (x : A) (l m n : List A) → l ≡ m ++ n → cond b (x ∷ l) l ≡ cond b (x ∷ m) m ++ n
  keep_step true x l m n e = ap (λ (k : List A). x ∷ k) e
  keep_step false x l m n e = e

  pub keep_append : (f : A → Bool) (xs ys : List A) → keep f (xs ++ ys) ≡ keep f xs ++ keep f ys
  unfolding keep
  keep_append f [] ys = refl
  keep_append f (x ∷ xs) ys = keep_step (f x) x (keep f (xs ++ ys)) (keep f xs) (keep f ys) (keep_append f xs ys)

  -- one element more, which passes or does not
  pub keep_in : (f : A → Bool) (xs : List A) (x : A) → f x ≡ true → keep f (xs ++ (x ∷ [])) ≡ keep f xs ++ (x ∷ [])
  unfolding keep
  keep_in f xs x e = keep_append f xs (x ∷ []) ∙ rw e

  pub keep_out : (f : A → Bool) (xs : List A) (x : A) → f x ≡ false → keep f (xs ++ (x ∷ [])) ≡ keep f xs
  unfolding keep
  keep_out f xs x e = keep_append f xs (x ∷ []) ∙ rw e (append-nil (keep f xs))

  count_step : (b : Bool) (x : A) (l : List A) (n : ℕ) → length l ≤ n → length (cond b (x ∷ l) l) ≤ suc n
  count_step true x l n h = omega arith
  count_step false x l n h = omega arith

  pub keep_fewer : (f : A → Bool) (xs : List A) → length (keep f xs) ≤ length xs
  unfolding keep
  keep_fewer f [] = omega arith
  keep_fewer f (x ∷ xs) = count_step (f x) x (keep f xs) (length xs) (keep_fewer f xs)

  pub any_append : (f : A → Bool) (xs ys : List A) → any f (xs ++ ys) ≡ (any f xs || any f ys)
  unfolding any
  any_append f [] ys = refl
  any_append f (x ∷ xs) ys = ap (λ (b : Bool). f x || b) (any_append f xs ys) ∙ sym (or_assoc (f x) (any f xs) (any f ys))

  pub any_snoc : (f : A → Bool) (xs : List A) (x : A) → any f (xs ++ (x ∷ [])) ≡ (any f xs || f x)
  unfolding any
  any_snoc f xs x = any_append f xs (x ∷ []) ∙ ap (λ (b : Bool). any f xs || b) (or-false (f x))

  keep_keep_step : (f : A → Bool) (b : Bool) (x : A) (l : List A) → keep f (cond b (x ∷ l) l) ≡ cond (b && f x) (x ∷ keep f l) (keep f l)
  unfolding keep
  keep_keep_step f true x l = refl
  keep_keep_step f false x l = refl

  -- those that pass one test, of those that pass another, pass both
  pub keep_keep : (f g : A → Bool) (xs : List A) → keep f (keep g xs) ≡ keep (λ x. g x && f x) xs
  unfolding keep
  keep_keep f g [] = refl
  keep_keep f g (x ∷ xs) = keep_keep_step f (g x) x (keep g xs) ∙ ap (λ (l : List A). cond (g x && f x) (x ∷ l) l) (keep_keep f g xs)

  any_keep_step : (f : A → Bool) (b : Bool) (x : A) (l : List A) → any f (cond b (x ∷ l) l) ≡ (b && f x || any f l)
  unfolding any
  any_keep_step f true x l = refl
  any_keep_step f false x l = refl

  -- some element that passes one test passes another
  pub any_keep : (f g : A → Bool) (xs : List A) → any f (keep g xs) ≡ any (λ x. g x && f x) xs
  unfolding any keep
  any_keep f g [] = refl
  any_keep f g (x ∷ xs) = any_keep_step f (g x) x (keep g xs) ∙ ap (λ (b : Bool). g x && f x || b) (any_keep f g xs)

-- an entry of a list in a range where all are the same
pub get_d_run : {A : Type 0} (l : List A) (v d : A) (m c k : ℕ) → take c (drop m l) ≡ replicate c v → m ≤ k → k < m + c → get_or l k d ≡ v
get_d_run {A} l v d m c k e h t =
    let q : m + (k - m) ≡ k = omega arith in
    ap (λ (j : ℕ). get_or l j d) (sym q) ∙ sym (get_or-drop m l (k - m) d)
    ∙ sym (get_or-take c (drop m l) (k - m) d (omega arith))
    ∙ ap (λ (x : List A). get_or x (k - m) d) e ∙ get_or-replicate c (k - m) v d (omega arith)

-- lists that are the same numbers are equal
pub same_numbers_lem : (a b : List ℕ) → same_numbers a b ≡ true → a ≡ b
unfolding same_numbers
same_numbers_lem [] [] e = refl
same_numbers_lem [] (y ∷ b) e = absurd (false≢true e)
same_numbers_lem (x ∷ a) [] e = absurd (false≢true e)
same_numbers_lem (x ∷ a) (y ∷ b) e = let t = both _ _ e in cc (eqb-true x y t.0, same_numbers_lem a b t.1)

-- and a list is the same numbers as itself
pub same_self : (a : List ℕ) → same_numbers a a ≡ true
unfolding same_numbers
same_self [] = refl
same_self (x ∷ a) = rw (eq-eqb x x refl) (same_self a)

-- a test that is true exactly for equal lists
pub same_decided : (r : Bool) (a b : List ℕ) → (r ≡ true → a ≡ b) × (a ≡ b → r ≡ true) → r ≡ same_numbers a b
same_decided true a b e = sym (subst (λ (l : List ℕ). same_numbers a l ≡ true) (e.0 refl) (same_self a))
same_decided false a b e = go (same_numbers a b) refl
  where
    go : (s : Bool) → same_numbers a b ≡ s → false ≡ s
    go true q = e.1 (same_numbers_lem a b q)
    go false q = refl

-- the elements that pass a test, where all or none do
module _ {A : Type 0} (f : A → Bool) (d : A) where
  keep_all : (l : List A) → ((i : ℕ) → i < length l → f (get_or l i d) ≡ true) → keep f l ≡ l
  unfolding keep
  keep_all [] h = refl
  keep_all (x ∷ xs) h =
      ap (λ (b : Bool). cond b (x ∷ keep f xs) (keep f xs)) (h 0 (omega arith))
      ∙ ap {B = List A} (λ r. x ∷ r) (keep_all xs (λ i l. h (suc i) (omega arith)))

  pub keep_none : (l : List A) → ((i : ℕ) → i < length l → f (get_or l i d) ≡ false) → keep f l ≡ []
  unfolding keep
  keep_none [] h = refl
  keep_none (x ∷ xs) h =
      ap (λ (b : Bool). cond b (x ∷ keep f xs) (keep f xs)) (h 0 (omega arith)) ∙ keep_none xs (λ i l. h (suc i) (omega arith))

-- a list that passes a test exactly from place a up to place b
module _ {A : Type 0} (f : A → Bool) (d : A) (l : List A) (a b : ℕ) (ab : a ≤ b) (bl : b ≤ length l)
    (under : (i : ℕ) → i < a → f (get_or l i d) ≡ false)
    (inside : (i : ℕ) → a ≤ i → i < b → f (get_or l i d) ≡ true)
    (over : (i : ℕ) → b ≤ i → i < length l → f (get_or l i d) ≡ false) where
  front : keep f (take a (take b l)) ≡ []
  front = keep_none f d (take a (take b l)) go
    where
      go : (i : ℕ) → i < length (take a (take b l)) → f (get_or (take a (take b l)) i d) ≡ false
      go i h =
          let e : i < a = omega (arith, length-take a (take b l)) in
          ap f (get_or-take a (take b l) i d e ∙ get_or-take b l i d (omega arith)) ∙ under i e

  middle : keep f (slice a b l) ≡ slice a b l
  middle = keep_all f d (slice a b l) go
    where
      go : (i : ℕ) → i < length (slice a b l) → f (get_or (slice a b l) i d) ≡ true
      go i h =
          let e : a + i < b = omega (arith, length-slice a b l bl) in
          ap f (get_or-drop a (take b l) i d ∙ get_or-take b l (a + i) d e) ∙ inside (a + i) (omega arith) e

  tail : keep f (drop b l) ≡ []
  tail = keep_none f d (drop b l) go
    where
      go : (i : ℕ) → i < length (drop b l) → f (get_or (drop b l) i d) ≡ false
      go i h = ap f (get_or-drop b l i d) ∙ over (b + i) (omega arith) (omega (arith, length-drop b l))

  pub keep_slice : keep f l ≡ slice a b l
  keep_slice =
      ap (keep f) (sym (take-append-drop b l) ∙ ap (λ (x : List A). x ++ drop b l) (sym (take-append-drop a (take b l))))
      ∙ keep_append f (take a (take b l) ++ slice a b l) (drop b l)
      ∙ ap₂ {C = List A} ◌++◌ (keep_append f (take a (take b l)) (slice a b l) ∙ ap₂ {C = List A} ◌++◌ front middle) tail
      ∙ append-nil (slice a b l)

-- a test of the k numbers from n on fails where one of them fails it, and passes where each passes it
module _ (f : ℕ → Bool) where
  pub from_fails : (n k i : ℕ) → n ≤ i → i < n + k → f i ≡ false → all f (from n k) ≡ false
  unfolding all from
  from_fails n zero i l h e = absurd (omega arith)
  from_fails n (suc k) i l h e = go (ℕ_discrete n i) (λ m. from_fails (suc n) k i m (omega arith) e)
    where
      go : Dec (n ≡ i) → (suc n ≤ i → all f (from (suc n) k) ≡ false) → (f n && all f (from (suc n) k)) ≡ false
      go (yes q) ih = ap (λ (b : Bool). b && all f (from (suc n) k)) (ap f q ∙ e)
      go (no q) ih = ap (λ (b : Bool). f n && b) (ih (omega (arith, q))) ∙ and-false (f n)

  pub from_passes : (n k : ℕ) → ((i : ℕ) → n ≤ i → i < n + k → f i ≡ true) → all f (from n k) ≡ true
  unfolding all from
  from_passes n zero h = refl
  from_passes n (suc k) h = rw (h n (omega arith) (omega arith)) (from_passes (suc n) k (λ i l t. h i (omega arith) (omega arith)))

  -- some of them passes it exactly where one does
  pub some_from : (n k : ℕ) → any f (from n k) ≡ true → (i : ℕ) × (n ≤ i) × (i < n + k) × (f i ≡ true)
  unfolding any from
  some_from n zero e = absurd (false≢true e)
  some_from n (suc k) e =
      ⊎_elim (λ q. (n, omega arith, omega arith, q)) (λ q. let t = some_from (suc n) k q in (t.0, omega (arith, t.1), omega (arith, t.2), t.3))
      (or_cases (f n) (any f (from (suc n) k)) e)

  pub any_from : (n k i : ℕ) → n ≤ i → i < n + k → f i ≡ true → any f (from n k) ≡ true
  unfolding any from
  any_from n zero i l h e = absurd (omega arith)
  any_from n (suc k) i l h e = go (ℕ_discrete n i) (λ m. any_from (suc n) k i m (omega arith) e)
    where
      go : Dec (n ≡ i) → (suc n ≤ i → any f (from (suc n) k) ≡ true) → (f n || any f (from (suc n) k)) ≡ true
      go (yes q) ih = or_left (f n) (any f (from (suc n) k)) (ap f q ∙ e)
      go (no q) ih = or_right (f n) (any f (from (suc n) k)) (ih (omega (arith, q)))

pub member-append : (t : ℕ) (xs ys : List ℕ) → member t (xs ++ ys) ≡ (member t xs || member t ys)
unfolding member
member-append t xs ys = any_append (eqb t) xs ys
