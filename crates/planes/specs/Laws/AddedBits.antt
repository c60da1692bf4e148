-- Bits that are added to a line or a plane, one set after the other.
use Rattle.std.proofs.Common.{eq-eqb, eqb-true, ap, ◌∙◌, arith}
use Rattle.std.specs.Prelude.{◌≡◌, refl, Bool, true, false, ◌||◌, List, [], ◌∷◌, ◌++◌, ℕ, ◌+◌, ◌*◌, ◌<◌}
use Rattle.std.proofs.Math.Path.{sym}
use Rattle.std.proofs.Math.Bool.{or-false}
use Rattle.std.proofs.Math.Dec.{eqb}
use Rattle.planes.specs.Plane.{bit}
use Rattle.planes.specs.Lines.{BitSet}
use Rattle.planes.specs.Laws.Lines.{set_bit}
use Rattle.planes.specs.Laws.Places.{byte_at}
use Rattle.basics.specs.Laws.Tests.{same_test, or_left, or_right}
use Rattle.basics.specs.Lists.{any, member}
use Rattle.basics.specs.Laws.Lists.{member-append}
use Rattle.planes.specs.Adds.{Adds, Added, Within}

or_swap : (a b c : Bool) → a || (b || c) ≡ (b || a) || c
or_swap true true c = refl
or_swap true false c = refl
or_swap false true c = refl
or_swap false false c = refl

or_held : (a b : Bool) → (a ≡ true → b ≡ true) → b ≡ (a || b)
or_held true b f = f refl
or_held false b f = refl

module _ (at n : ℕ) where
  -- which bits are added may be said in other words
  pub adds_as : (p q : ℕ → Bool) (a b : List ℕ) → ((t : ℕ) → t < n * 8 → p t ≡ q t) → Adds p at n a b → Adds q at n a b
  adds_as p q a b e A = record {
    len = A.len;
    bits = λ t h. A.bits t h ∙ ap (λ (x : Bool). x || bit a (at * 8 + t)) (e t h);
    under = A.under;
    over = A.over;
  }

  pub adds_none : (a : List ℕ) → Adds (λ t. false) at n a a
  adds_none a = record { len = refl; bits = λ t h. refl; under = λ m h. refl; over = λ m h. refl }

  pub adds_both : (p q : ℕ → Bool) (a b c : List ℕ) → Adds p at n a b → Adds q at n b c → Adds (λ t. p t || q t) at n a c
  adds_both p q a b c A B = record {
    len = B.len ∙ A.len;
    bits = λ t h. B.bits t h ∙ ap (λ (x : Bool). q t || x) (A.bits t h) ∙ or_swap (q t) (p t) (bit a (at * 8 + t));
    under = λ m h. B.under m h ∙ A.under m h;
    over = λ m h. B.over m h ∙ A.over m h;
  }

  -- one bit
  pub adds_one : (k : ℕ) (a b : List ℕ) → BitSet (at * 8 + k) a b → k < n * 8 → Adds (λ t. eqb t k) at n a b
  adds_one k a b S h = record {
    len = S.len;
    bits = λ t l. set_bit (at * 8 + k) (at * 8 + t) a b S ∙ ap (λ (x : Bool). x || bit a (at * 8 + t)) (same_shift t k);
    under = λ m l. S.bytes m (λ q. omega (arith, q, byte_at at k));
    over = λ m l. S.bytes m (λ q. omega (arith, q, byte_at at k));
  }
    where
      same_shift : (t k : ℕ) → eqb (at * 8 + t) (at * 8 + k) ≡ eqb t k
      same_shift t k = same_test _ _ (λ e. eq-eqb t k (omega (arith, eqb-true (at * 8 + t) (at * 8 + k) e))) (λ e. eq-eqb _ _ (ap (λ (m : ℕ). at * 8 + m) (eqb-true t k e)))

  -- whatever adds the rest to b has added all to a
  abbrev pub Toward : (ℕ → Bool) → (ℕ → Bool) → List ℕ → List ℕ → Type 0
  Toward all rest a b = (c : List ℕ) → Adds rest at n b c → Adds all at n a c

  pub toward_more : (all left p rest : ℕ → Bool) (a b c : List ℕ) → ((t : ℕ) → t < n * 8 → left t ≡ (p t || rest t))
      → Toward all left a b → Adds p at n b c → Toward all rest a c
  toward_more all left p rest a b c e T A = λ d R. T d (adds_as (λ t. p t || rest t) left b d (λ t h. sym (e t h)) (adds_both p rest b c d A R))

  -- the same, of the numbers in lists
  pub added_none : (a : List ℕ) → Added [] at n a a
  unfolding member any
  added_none a = adds_none a

  pub added_one : (k : ℕ) (a b : List ℕ) → BitSet (at * 8 + k) a b → k < n * 8 → Added (k ∷ []) at n a b
  unfolding member any
  added_one k a b S h = adds_as (λ t. eqb t k) (λ t. member t (k ∷ [])) a b (λ t l. sym (or-false (eqb t k))) (adds_one k a b S h)

  pub added_both : (l m a b c : List ℕ) → Added l at n a b → Added m at n b c → Added (l ++ m) at n a c
  added_both l m a b c A B = adds_as (λ t. member t l || member t m) (λ t. member t (l ++ m)) a c (λ t h. sym (member-append t l m)) (adds_both _ _ a b c A B)

  -- copies that are there already are added by doing nothing
  pub added_within : (l a : List ℕ) → Within l at n a → Added l at n a a
  added_within l a W = record { len = refl; bits = λ t h. or_held (member t l) (bit a (at * 8 + t)) (W t h); under = λ m h. refl; over = λ m h. refl }

  -- the copies are there afterwards, and bits that were set stay
  pub added_there : (l a b : List ℕ) → Added l at n a b → Within l at n b
  added_there l a b A t h m = A.bits t h ∙ or_left (member t l) (bit a (at * 8 + t)) m

  pub added_stays : (l a b : List ℕ) → Added l at n a b → (t : ℕ) → t < n * 8 → bit a (at * 8 + t) ≡ true → bit b (at * 8 + t) ≡ true
  added_stays l a b A t h m = A.bits t h ∙ or_right (member t l) (bit a (at * 8 + t)) m

  abbrev pub TowardList : List ℕ → List ℕ → List ℕ → List ℕ → Type 0
  TowardList all rest a b = Toward (λ t. member t all) (λ t. member t rest) a b

  pub list_more : (all left xs rest a b c : List ℕ) → left ≡ xs ++ rest → TowardList all left a b → Added xs at n b c → TowardList all rest a c
  list_more all left xs rest a b c e =
      toward_more (λ t. member t all) (λ t. member t left) (λ t. member t xs) (λ t. member t rest) a b c
      (λ t h. ap (member t) e ∙ member-append t xs rest)
