-- Joins of rows.
use mathlib.Core.Path.{◌≡◌, refl, sym, ap, ◌∙◌}
use mathlib.Core.Bool.{Bool, true, false}
use mathlib.Core.List.{List}
use Prim.Native.Nat.{ℕ, ◌+◌, ◌≤◌, ◌<◌}
use native.Mathlib.Omega.{arith}
use native.Mathlib.Decide.{ℕ_discrete}
use lib.ListN.{get_or}
use Rattle.basics.specs.Bit.{bit_of}
use Rattle.lines.specs.declared.Op.{Op}
use Rattle.lines.specs.declared.Op.TheVariants.{Not, And, Or}
use Rattle.lines.specs.declared.Row.{Row}
use Rattle.lines.specs.declared.Row.TheVariants.{Full, From}
use Rattle.lines.specs.declared.Join.{Join}
use Rattle.lines.specs.declared.Join.TheVariants.{Same, Two}
use Rattle.lines.specs.Shapes.{op_bool, op_byte, full_byte, Quantifies, row_byte, pair, RowWithin, Even, Joins}
use Rattle.lines.specs.Laws.LineBits.{full_bit, op_bit}
use Rattle.lines.specs.Laws.Quantified.{comm}

-- an operation on equal tests, by byte
op_full : (t : Op) (p q : Bool) → op_byte t (full_byte p) (full_byte q) ≡ full_byte (op_bool t p q)
op_full Not true q = refl
op_full Not false q = refl
op_full And true true = refl
op_full And true false = refl
op_full And false true = refl
op_full And false false = refl
op_full Or true true = refl
op_full Or true false = refl
op_full Or false true = refl
op_full Or false false = refl

full_once : (p q : Bool) → full_byte p ≡ full_byte q → p ≡ q
full_once true true e = refl
full_once true false e = absurd (omega (arith, e))
full_once false true e = absurd (omega (arith, e))
full_once false false e = refl

-- beside a test s, an operation gives one test, or what it gives of the other test twice
one_test : (f : Bool → Bool) (x : Bool) → f false ≡ f true → f false ≡ f x
one_test f true e = e
one_test f false e = refl

own_second : (t : Op) (s x : Bool) → (op_bool t s false ≡ op_bool t s true → ⊥) → op_bool t x x ≡ op_bool t s x
own_second Not s x n = absurd (n refl)
own_second And true true n = refl
own_second And true false n = refl
own_second And false x n = absurd (n refl)
own_second Or true x n = absurd (n refl)
own_second Or false true n = refl
own_second Or false false n = refl

own_first : (t : Op) (s x : Bool) → (op_bool t false s ≡ op_bool t true s → ⊥) → op_bool t x x ≡ op_bool t x s
own_first Not s x n = refl
own_first And true true n = refl
own_first And true false n = refl
own_first And false x n = absurd (n refl)
own_first Or true x n = absurd (n refl)
own_first Or false true n = refl
own_first Or false false n = refl

-- joins of rows, by their kinds
module _ (t : Op) where
  pub joins_full : (c d v : ℕ) → v ≡ op_byte t c d → Joins t (Full c) (Full d) (Same v)
  joins_full c d v e = record { within = λ n len p q. tt; is = λ bytes j i l. ap (λ (w : ℕ). bit_of w i) e ∙ op_bit t c d i l }

  pub joins_two : (a b : ℕ) → Joins t (From a) (From b) (Two (pair t a b))
  joins_two a b = record { within = λ n len p q. (p, q); is = λ bytes j i l. op_bit t (get_or bytes (a + j) 0) (get_or bytes (b + j) 0) i l }

  -- a row of equal tests and the bytes from a on, of which the operation gives f
  module _ (p q : Row) (a low high : ℕ) (f : Bool → Bool) (e : Join)
      (room : (n len : ℕ) → RowWithin n len p → RowWithin n len q → a + len ≤ n)
      (gives : (bytes : List ℕ) (j i : ℕ) → i < 8 → f (bit_of (get_or bytes (a + j) 0) i) ≡ op_bool t (bit_of (row_byte p bytes j) i) (bit_of (row_byte q bytes j) i))
      (own : (x : Bool) → (f false ≡ f true → ⊥) → op_bool t x x ≡ f x) (L : low ≡ full_byte (f false)) (H : high ≡ full_byte (f true)) where
    joins_even : (low ≡ high → e ≡ Same low) → ((low ≡ high → ⊥) → e ≡ Two (pair t a a)) → Joins t p q e
    joins_even S T = go (ℕ_discrete low high)
      where
        go : Dec (low ≡ high) → Joins t p q e
        go (yes s) = rw (S s) (record {
          within = λ n len v w. tt;
          is = λ bytes j i l.
              ap (λ (w : ℕ). bit_of w i) L
              ∙ full_bit (f false) i l
              ∙ one_test f (bit_of (get_or bytes (a + j) 0) i) (full_once _ _ (sym L ∙ s ∙ H))
              ∙ gives bytes j i l;
        })
        go (no n) = rw (T n) (record {
          within = λ m len v w. (room m len v w, room m len v w);
          is = λ bytes j i l.
              let v = get_or bytes (a + j) 0 in
              op_bit t v v i l
              ∙ own (bit_of v i) (λ k. n (L ∙ ap full_byte k ∙ sym H))
              ∙ gives bytes j i l;
        })

  pub joins_full_from : (c a low high : ℕ) (e : Join) → Even (Full c) → low ≡ op_byte t c 0 → high ≡ op_byte t c 255
      → (low ≡ high → e ≡ Same low) → ((low ≡ high → ⊥) → e ≡ Two (pair t a a)) → Joins t (Full c) (From a) e
  joins_full_from c a low high e E l h =
      joins_even (Full c) (From a) a low high (op_bool t E.0) e
      (λ n len v w. w)
      (λ bytes j i k. ap (λ (s : Bool). op_bool t s (bit_of (get_or bytes (a + j) 0) i)) (sym (ap (λ (w : ℕ). bit_of w i) E.1 ∙ full_bit E.0 i k)))
      (λ x n. own_second t E.0 x n)
      (l ∙ ap (λ (w : ℕ). op_byte t w 0) E.1 ∙ op_full t E.0 false)
      (h ∙ ap (λ (w : ℕ). op_byte t w 255) E.1 ∙ op_full t E.0 true)

  pub joins_from_full : (a d low high : ℕ) (e : Join) → Even (Full d) → low ≡ op_byte t 0 d → high ≡ op_byte t 255 d
      → (low ≡ high → e ≡ Same low) → ((low ≡ high → ⊥) → e ≡ Two (pair t a a)) → Joins t (From a) (Full d) e
  joins_from_full a d low high e E l h =
      joins_even (From a) (Full d) a low high (λ x. op_bool t x E.0) e
      (λ n len v w. v)
      (λ bytes j i k. ap (λ (s : Bool). op_bool t (bit_of (get_or bytes (a + j) 0) i) s) (sym (ap (λ (w : ℕ). bit_of w i) E.1 ∙ full_bit E.0 i k)))
      (λ x n. own_first t E.0 x n)
      (l ∙ ap (λ (w : ℕ). op_byte t 0 w) E.1 ∙ op_full t false E.0)
      (h ∙ ap (λ (w : ℕ). op_byte t 255 w) E.1 ∙ op_full t true E.0)

-- where the operation quantifies, the rows may stand the other way round
pub joins_swap : (t : Op) → Quantifies t → (p q : Row) (e : Join) → Joins t p q e → Joins t q p e
joins_swap t h p q e J = record {
  within = λ n len x y. J.within n len y x;
  is = λ bytes j i l. J.is bytes j i l ∙ comm t h (bit_of (row_byte p bytes j) i) (bit_of (row_byte q bytes j) i);
}
