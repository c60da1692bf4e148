-- What is so of every element of a list.
use Rattle.std.proofs.Common.{eqb-true, ap, ap₂, subst, ◌∙◌, arith}
use Rattle.std.specs.Prelude.{◌≡◌, Bool, cond, ◌||◌, ℕ, zero, suc, ◌+◌, ◌<◌, eqb, length, get_or}
use Rattle.std.proofs.Math.Path.{refl, subst⁻¹}
use Rattle.std.proofs.Math.Bool.{true, false}
use Rattle.std.proofs.lemmas.Bool.{false≢true}
use mathlib.Core.List.Memᴰ
use mathlib.Core.List.{List, [], ◌∷◌, ◌++◌, Memᴰ}
use Rattle.std.proofs.Math.Logic.{⊎_elim}
use Rattle.basics.specs.Laws.Tests.{or_left, or_right, or_cases, or_none}
use Rattle.basics.specs.Lists.{keep, any, member, same_numbers, from}
use Rattle.basics.specs.Laws.Lists.{same_numbers_lem, same_self}

-- every element is so
abbrev pub Every : {A : Type 0} → (A → Type 0) → List A → Type 0
Every P [] = Unit {0}
Every P (x ∷ xs) = P x × Every P xs

-- no number is in an empty list
pub in_empty : {A : Type 0} (t : ℕ) → member t [] ≡ true → A
unfolding member any
in_empty t m = absurd (false≢true m)

-- one of the numbers
pub every_member : (P : ℕ → Type 0) (l : List ℕ) → Every P l → (t : ℕ) → member t l ≡ true → P t
unfolding member any
every_member P [] e t m = in_empty t m
every_member P (x ∷ l) e t m = ⊎_elim (λ q. subst⁻¹ P (eqb-true t x q) e.0) (every_member P l e.1 t) (or_cases (eqb t x) (member t l) m)

-- the k numbers from i on are below i + k
pub every_from : (n i k : ℕ) → i + k ≡ n → Every (λ q. q < n) (from i k)
unfolding from
every_from n i zero e = tt
every_from n i (suc k) e = (omega arith, every_from n (suc i) k (omega arith))

-- one thing follows from another
pub every_more : {A : Type 0} (P Q : A → Type 0) (l : List A) → ((x : A) → P x → Q x) → Every P l → Every Q l
every_more P Q [] f e = tt
every_more P Q (x ∷ l) f e = (f x e.0, every_more P Q l f e.1)

module _ {A : Type 0} (P : A → Type 0) where
  -- two lists joined
  pub every_append : (xs ys : List A) → Every P xs → Every P ys → Every P (xs ++ ys)
  every_append [] ys e f = f
  every_append (x ∷ xs) ys e f = (e.0, every_append xs ys e.1 f)

  -- those that pass a test, if each is so or does not pass
  pub every_kept : (f : A → Bool) (l : List A) → Every (λ x. f x ≡ true → P x) l → Every P (keep f l)
  unfolding keep
  every_kept f [] e = tt
  every_kept f (x ∷ l) e = step (f x) refl (every_kept f l e.1)
    where
      step : (b : Bool) → f x ≡ b → Every P (keep f l) → Every P (cond b (x ∷ keep f l) (keep f l))
      step true q rest = (e.0 q, rest)
      step false q rest = rest

  pub every_keep : (f : A → Bool) (l : List A) → Every P l → Every P (keep f l)
  every_keep f l e = every_kept f l (every_more P (λ x. f x ≡ true → P x) l (λ x p q. p) e)

  -- an element by its place, and every one by its place
  pub every_at : (d : A) (l : List A) (i : ℕ) → P d → Every P l → P (get_or l i d)
  every_at d [] i h e = h
  every_at d (x ∷ l) zero h e = e.0
  every_at d (x ∷ l) (suc i) h e = every_at d l i h e.1

  pub at_every : (d : A) (l : List A) → ((i : ℕ) → i < length l → P (get_or l i d)) → Every P l
  at_every d [] h = tt
  at_every d (x ∷ l) h = (h 0 (omega arith), at_every d l (λ i t. h (suc i) (omega arith)))

-- two tests that agree on every element keep the same
pub keep_same : {A : Type 0} (f g : A → Bool) (l : List A) → Every (λ x. f x ≡ g x) l → keep f l ≡ keep g l
unfolding keep
keep_same f g [] e = refl
keep_same {A} f g (x ∷ l) e = ap₂ {C = List A} (λ (b : Bool) (k : List A). cond b (x ∷ k) k) e.0 (keep_same f g l e.1)

-- a test that no element passes fails on every one, and the other way round
pub every_fails : {A : Type 0} (f : A → Bool) (l : List A) → any f l ≡ false → Every (λ x. f x ≡ false) l
unfolding any
every_fails f [] e = tt
every_fails f (x ∷ l) e = let q = or_none (f x) (any f l) e in (q.0, every_fails f l q.1)

pub any_fails : {A : Type 0} (f : A → Bool) (l : List A) → Every (λ x. f x ≡ false) l → any f l ≡ false
unfolding any
any_fails f [] e = refl
any_fails f (x ∷ l) e = ap₂ ◌||◌ e.0 (any_fails f l e.1)

-- where some elements are kept, one passes
pub any_kept : {A : Type 0} (f : A → Bool) (l : List A) (x : A) (rest : List A) → keep f l ≡ x ∷ rest → any f l ≡ true
unfolding any keep
any_kept f [] x rest e = absurd (omega (arith, ap length e))
any_kept {A} f (y ∷ l) x rest e = go (f y) e (any_kept f l x rest)
  where
    go : (b : Bool) → ◌≡◌ {A = List A} (cond b (y ∷ keep f l) (keep f l)) (x ∷ rest) → (keep f l ≡ x ∷ rest → any f l ≡ true) → (b || any f l) ≡ true
    go true q ih = refl
    go false q ih = ih q

-- where every element that passes one test passes another
pub any_more : {A : Type 0} (f g : A → Bool) → ((x : A) → f x ≡ true → g x ≡ true) → (l : List A) → any f l ≡ true → any g l ≡ true
unfolding any
any_more f g h [] e = e
any_more f g h (x ∷ l) e = ⊎_elim (λ q. or_left (g x) (any g l) (h x q)) (λ q. or_right (g x) (any g l) (any_more f g h l q)) (or_cases (f x) (any f l) e)

pub none_kept : {A : Type 0} (f : A → Bool) (l : List A) → any f l ≡ false → keep f l ≡ []
unfolding any keep
none_kept f [] e = refl
none_kept {A} f (x ∷ l) e = let q = or_none (f x) (any f l) e in ap (λ (b : Bool). cond b (x ∷ keep f l) (keep f l)) q.0 ∙ none_kept f l q.1

module _ {A : Type 0} where
  -- what is so of each element is so of every one, and the other way round
  pub each_every : (P : A → Type 0) (l : List A) → ((x : A) → Memᴰ x l → P x) → Every P l
  each_every P [] f = tt
  each_every P (x ∷ l) f = (f x (Memᴰ.head refl), each_every P l (λ y m. f y (Memᴰ.tail m)))

  pub every_each : (P : A → Type 0) (l : List A) → Every P l → (x : A) → Memᴰ x l → P x
  every_each P [] e x m = absurd (Memᴰ.not-nil m)
  every_each P (y ∷ l) e x m = ⊎_elim (λ q. subst⁻¹ P q e.0) (every_each P l e.1 x) (Memᴰ.cases_cons m)

  -- an element that passes a test is kept
  pub in_kept : (f : A → Bool) (l : List A) (x : A) → Memᴰ x l → f x ≡ true → Memᴰ x (keep f l)
  unfolding keep
  in_kept f [] x m e = m
  in_kept f (y ∷ l) x m e = ⊎_elim (λ q. here (f y) (subst (λ (z : A). f z ≡ true) q e) q) (λ t. there (f y) (in_kept f l x t e)) (Memᴰ.cases_cons m)
    where
      here : (b : Bool) → b ≡ true → x ≡ y → Memᴰ x (cond b (y ∷ keep f l) (keep f l))
      here true t q = Memᴰ.head q
      here false t q = absurd (false≢true t)

      there : (b : Bool) → Memᴰ x (keep f l) → Memᴰ x (cond b (y ∷ keep f l) (keep f l))
      there true m = Memᴰ.tail m
      there false m = m

  -- and what is kept is an element that passes it
  pub of_kept : (f : A → Bool) (l : List A) (x : A) → Memᴰ x (keep f l) → Memᴰ x l × (f x ≡ true)
  unfolding keep
  of_kept f [] x m = absurd (Memᴰ.not-nil m)
  of_kept f (y ∷ l) x m = go (f y) refl m (of_kept f l x)
    where
      go : (b : Bool) → f y ≡ b → Memᴰ x (cond b (y ∷ keep f l) (keep f l)) → (Memᴰ x (keep f l) → Memᴰ x l × (f x ≡ true))
          → Memᴰ x (y ∷ l) × (f x ≡ true)
      go true e m ih = ⊎_elim (λ q. (Memᴰ.head q, subst⁻¹ (λ (z : A). f z ≡ true) q e)) (λ t. let u = ih t in (Memᴰ.tail u.0, u.1)) (Memᴰ.cases_cons m)
      go false e m ih = let u = ih m in (Memᴰ.tail u.0, u.1)

  -- some element passes a test
  pub some_passes : (f : A → Bool) (l : List A) (x : A) → Memᴰ x l → f x ≡ true → any f l ≡ true
  unfolding any
  some_passes f [] x m e = absurd (Memᴰ.not-nil m)
  some_passes f (y ∷ l) x m e =
      ⊎_elim (λ q. or_left (f y) (any f l) (subst (λ (z : A). f z ≡ true) q e)) (λ t. or_right (f y) (any f l) (some_passes f l x t e)) (Memᴰ.cases_cons m)

  pub passes_some : (f : A → Bool) (l : List A) → any f l ≡ true → (x : A) × Memᴰ x l × (f x ≡ true)
  unfolding any
  passes_some f [] e = absurd (false≢true e)
  passes_some f (y ∷ l) e =
      ⊎_elim (λ q. (y, Memᴰ.head refl, q)) (λ q. let u = passes_some f l q in (u.0, Memᴰ.tail u.1, u.2)) (or_cases (f y) (any f l) e)

-- a list of numbers is among some exactly if it is one of them
pub among_in : (r : List ℕ) (l : List (List ℕ)) → Memᴰ r l → any (same_numbers r) l ≡ true
among_in r l m = some_passes (same_numbers r) l r m (same_self r)

pub in_among : (r : List ℕ) (l : List (List ℕ)) → any (same_numbers r) l ≡ true → Memᴰ r l
in_among r l e = let u = passes_some (same_numbers r) l e in subst⁻¹ (λ (x : List ℕ). Memᴰ x l) (same_numbers_lem r u.0 u.2) u.1
