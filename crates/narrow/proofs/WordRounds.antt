-- Rounds on words.
use mathlib.Core.Path.{◌≡◌, sym, ap, ap₂, subst, ◌∙◌}
use mathlib.Core.Bool.{Bool, ◌&&◌, ◌||◌}
use mathlib.Core.List.{List}
use Prim.Native.Nat.{ℕ, ◌+◌, ◌≤◌, ◌<◌}
use native.Mathlib.Numerals.{add-one}
use native.Mathlib.Omega.{arith}
use borrow.Author.Count.{below_more}
use lib.ListN.{length, get_or, set, length-set}
use lib.Seq.{get_or-set_same, get_or-set_other}
use lib.Bits.{bit_or}
use Rattle.basics.specs.Bit.{bit_of}
use Rattle.basics.specs.Tabulated.{grid_test, grid}
use Rattle.basics.specs.Laws.Bits.{bit_or_lem}
use Rattle.basics.specs.Laws.Tabulated.{grid_at}
use Rattle.walks.specs.Computed.{rounds, closed}
use Rattle.walks.specs.Laws.Closing.{round_at}
use Rattle.narrow.specs.Words.{test, Lines, Spread, ClosedWords}

-- one more word has line put into it, if it has bit k
module _ (k line x : ℕ) (a l : List ℕ) (S : Spread k line x a l) (h : x < length a) (t : Bool) (w : ℕ) (has : t ≡ test l x k)
    (is : (i : ℕ) → bit_of w i ≡ (t && bit_of line i)) where
  v : ℕ
  v = bit_or (get_or l x 0) w

  still : (y : ℕ) → test l x y ≡ test a x y
  still y = ap (λ (c : ℕ). bit_of c y) (S.rest x (omega arith))

  here : (y : ℕ) → test (set l x v) x y ≡ (test a x y || (test a x k && bit_of line y))
  unfolding v
  here y =
      ap (λ (c : ℕ). bit_of c y) (get_or-set_same l x v 0 (omega (arith, S.len)))
      ∙ bit_or_lem (get_or l x 0) w y
      ∙ ap₂ ◌||◌ (still y) (is y ∙ ap (λ (b : Bool). b && bit_of line y) (has ∙ still k))

  pub spread_more : Spread k line (x + 1) a (set l x (bit_or (get_or l x 0) w))
  unfolding v
  spread_more = record {
    len = length-set l x v ∙ S.len;
    done = λ i y hi. below_more (λ (n : ℕ). test (set l x v) n y ≡ (test a n y || (test a n k && bit_of line y))) x
        (λ n b. ap (λ (c : ℕ). bit_of c y) (get_or-set_other l x n v 0 (λ e. omega arith)) ∙ S.done n y b)
        (here y) i hi;
    rest = λ i b. get_or-set_other l x i v 0 (λ e. omega arith) ∙ S.rest i (omega arith);
  }

-- where the first n words were f, they are f after k rounds
abbrev pub After : ℕ → ℕ → List ℕ → List ℕ → Type 0
After n k before now = (f : ℕ → ℕ → Bool) → Lines f n before → Lines (λ x y. grid_test (rounds k (grid n f)) x y) n now

pub after_none : (n : ℕ) (a : List ℕ) → After n 0 a a
unfolding rounds
after_none n a f L = record { at = λ x y hx hy. L.at x y hx hy ∙ sym (grid_at n f x y hx hy) }

pub after_more : (n k : ℕ) (a l m : List ℕ) → After n k a l → k < n → n ≤ 32 → Spread k (get_or l k 0) 32 l m → After n (k + 1) a m
unfolding rounds
after_more n k a l m A hk hn S f L =
    let B = A f L in
    record {
      at = λ x y hx hy.
          S.done x y (omega arith)
          ∙ ap₂ ◌||◌ (B.at x y hx hy) (ap₂ ◌&&◌ (B.at x k hx hk) (B.at k y hk hy))
          ∙ sym (round_at k (rounds k (grid n f)) x y)
          ∙ ap (λ (j : ℕ). grid_test (rounds j (grid n f)) x y) (sym (add-one k));
    }

pub after_all : (n k : ℕ) (a l : List ℕ) → After n k a l → k ≡ n → ClosedWords n a l
unfolding closed
after_all n k a l A e f L = subst (λ (j : ℕ). Lines (λ x y. grid_test (rounds j (grid n f)) x y) n l) e (A f L)
