-- For all, and for some, over the bits of a byte and of a line.
use Rattle.std.specs.Prelude.{◌≡◌, Bool, true, false, not, ◌&&◌, ◌||◌, ℕ, zero, suc, ◌+◌, ◌-◌, ◌*◌, ◌/◌, ◌%◌, ◌<◌, eqb}
use Rattle.std.proofs.Math.Path.{refl}
use Rattle.std.proofs.Common.{sym, ap, ap₂, ◌∙◌, add-suc, add-zero, not-suc-le-zero, add-one, arith, eqb-true, eq-eqb}
use Rattle.std.proofs.Math.Decide.{dec_lt}
use Rattle.basics.specs.Bit.{bit_of}
use Rattle.basics.specs.Laws.Tests.{same_test, true_of, false_of, not_both}
use Rattle.basics.specs.Laws.Bits.{bits_ext, bit_above, bit-zero}
use Rattle.lines.specs.declared.Op.{Op}
use Rattle.lines.specs.declared.Op.TheVariants.{Not, And, Or}
use Rattle.lines.specs.declared.Quantifier.{Quantifier}
use Rattle.lines.specs.declared.Quantifier.TheVariants.{All, Any}
use Rattle.basics.specs.Below.{any_below, all_below}
use Rattle.basics.specs.Laws.Below.{any_iff, all_iff}
use Rattle.lines.specs.Shapes.{op_bool, op_byte, over, unit, unit_byte, Quantifies, op_of, bits_of}
use Rattle.lines.specs.Laws.LineBits.{op_bit, full_bit}

and_last : (p q : Bool) → ◌≡◌ {A = Bool} (elim q [ true ↦ p | false ↦ false ]) (p && q)
and_last true true = refl
and_last true false = refl
and_last false true = refl
and_last false false = refl

or_last : (p q : Bool) → ◌≡◌ {A = Bool} (elim q [ true ↦ true | false ↦ p ]) (p || q)
or_last true true = refl
or_last true false = refl
or_last false true = refl
or_last false false = refl

pub quantifies : (q : Quantifier) → Quantifies (op_of q)
quantifies All = tt
quantifies Any = tt

unit_unit : (o : Op) → Quantifies o → op_bool o (unit o) (unit o) ≡ unit o
unit_unit Not q = absurd q
unit_unit And q = refl
unit_unit Or q = refl

pub right_unit : (o : Op) → Quantifies o → (p : Bool) → op_bool o p (unit o) ≡ p
right_unit Not q p = absurd q
right_unit And q true = refl
right_unit And q false = refl
right_unit Or q true = refl
right_unit Or q false = refl

assoc : (o : Op) → Quantifies o → (p q r : Bool) → op_bool o p (op_bool o q r) ≡ op_bool o (op_bool o p q) r
assoc Not h p q r = absurd h
assoc And h true q r = refl
assoc And h false q r = refl
assoc Or h true q r = refl
assoc Or h false q r = refl

pub comm : (o : Op) → Quantifies o → (p q : Bool) → op_bool o p q ≡ op_bool o q p
comm Not h p q = absurd h
comm And h true true = refl
comm And h true false = refl
comm And h false true = refl
comm And h false false = refl
comm Or h true true = refl
comm Or h true false = refl
comm Or h false true = refl
comm Or h false false = refl

pub twice : (o : Op) → Quantifies o → (p : Bool) → op_bool o p p ≡ p
twice Not h p = absurd h
twice And h true = refl
twice And h false = refl
twice Or h true = refl
twice Or h false = refl

-- what is not the unit decides
pub decides : (o : Op) → Quantifies o → (p q : Bool) → (p ≡ unit o → ⊥) → op_bool o p q ≡ p
decides Not h p q n = absurd h
decides And h true q n = absurd (n refl)
decides And h false q n = refl
decides Or h true q n = refl
decides Or h false q n = absurd (n refl)

-- the same tests, the same answer
pub over_same : (o : Op) (n : ℕ) (g h : ℕ → Bool) → ((i : ℕ) → i < n → g i ≡ h i) → over o n g ≡ over o n h
unfolding over any_below all_below
over_same Not n g h e = refl
over_same And zero g h e = refl
over_same And (suc n) g h e =
    ap₂ (λ (p q : Bool). elim p [ true ↦ q | false ↦ false ]) (e n (omega arith)) (over_same And n g h (λ i l. e i (omega arith)))
over_same Or zero g h e = refl
over_same Or (suc n) g h e =
    ap₂ (λ (p q : Bool). elim p [ true ↦ true | false ↦ q ]) (e n (omega arith)) (over_same Or n g h (λ i l. e i (omega arith)))

module _ (o : Op) (h : Quantifies o) where
  pub over_none : (g : ℕ → Bool) → over o 0 g ≡ unit o
  unfolding over any_below all_below
  over_none g = go o h
    where
      go : (o : Op) → Quantifies o → over o 0 g ≡ unit o
      go Not q = absurd q
      go And q = refl
      go Or q = refl

  over-suc : (n : ℕ) (g : ℕ → Bool) → over o (suc n) g ≡ op_bool o (over o n g) (g n)
  unfolding over any_below all_below
  over-suc n g = go o h
    where
      go : (o : Op) → Quantifies o → over o (suc n) g ≡ op_bool o (over o n g) (g n)
      go Not q = absurd q
      go And q = and_last (all_below n g) (g n)
      go Or q = or_last (any_below n g) (g n)

  pub over_more : (n : ℕ) (g : ℕ → Bool) → over o (n + 1) g ≡ op_bool o (over o n g) (g n)
  over_more n g = ap (λ (m : ℕ). over o m g) (add-one n) ∙ over-suc n g

  -- one test for all
  ones : (n : ℕ) (t : Bool) → over o (suc n) (λ i. t) ≡ t
  ones zero t = over-suc 0 (λ i. t) ∙ ap (λ (p : Bool). op_bool o p t) (over_none (λ i. t)) ∙ comm o h (unit o) t ∙ right_unit o h t
  ones (suc n) t = over-suc (suc n) (λ i. t) ∙ ap (λ (p : Bool). op_bool o p t) (ones n t) ∙ twice o h t

  pub over_one : (n : ℕ) (t : Bool) → 0 < n → over o n (λ i. t) ≡ t
  over_one zero t l = absurd (not-suc-le-zero l)
  over_one (suc n) t l = ones n t

  four : (p q r s : Bool) → op_bool o (op_bool o p q) (op_bool o r s) ≡ op_bool o (op_bool o p r) (op_bool o q s)
  four p q r s =
      assoc o h (op_bool o p q) r s
      ∙ ap (λ (t : Bool). op_bool o t s) (sym (assoc o h p q r) ∙ ap (op_bool o p) (comm o h q r) ∙ assoc o h p r q)
      ∙ sym (assoc o h (op_bool o p r) q s)

  -- both tests at once
  both : (n : ℕ) (g k : ℕ → Bool) → over o n (λ i. op_bool o (g i) (k i)) ≡ op_bool o (over o n g) (over o n k)
  both zero g k =
      over_none (λ i. op_bool o (g i) (k i)) ∙ sym (unit_unit o h) ∙ ap₂ (op_bool o) (sym (over_none g)) (sym (over_none k))
  both (suc n) g k =
      over-suc n (λ i. op_bool o (g i) (k i))
      ∙ ap (λ (t : Bool). op_bool o t (op_bool o (g n) (k n))) (both n g k)
      ∙ four (over o n g) (over o n k) (g n) (k n)
      ∙ ap₂ (op_bool o) (sym (over-suc n g)) (sym (over-suc n k))

  -- first n, then m more
  parts : (n m : ℕ) (g : ℕ → Bool) → over o (n + m) g ≡ op_bool o (over o n g) (over o m (λ i. g (n + i)))
  parts n zero g =
      ap (λ (k : ℕ). over o k g) (add-zero n) ∙ sym (right_unit o h (over o n g)) ∙ ap (op_bool o (over o n g)) (sym (over_none (λ i. g (n + i))))
  parts n (suc m) g =
      ap (λ (k : ℕ). over o k g) (add-suc n m)
      ∙ over-suc (n + m) g
      ∙ ap (λ (t : Bool). op_bool o t (g (n + m))) (parts n m g)
      ∙ sym (assoc o h (over o n g) (over o m (λ i. g (n + i))) (g (n + m)))
      ∙ ap (op_bool o (over o n g)) (sym (over-suc m (λ i. g (n + i))))

  units_over : (n : ℕ) (g : ℕ → Bool) → ((i : ℕ) → i < n → g i ≡ unit o) → over o n g ≡ unit o
  units_over zero g e = over_none g
  units_over (suc n) g e =
      over-suc n g ∙ ap₂ (op_bool o) (units_over n g (λ i l. e i (omega arith))) (e n (omega arith)) ∙ unit_unit o h

  -- the bytes f 0, f 1, .. tested one by one
  pub bytes_none : (f : ℕ → ℕ) → over o 8 (bit_of (unit_byte o)) ≡ over o 0 (bits_of f)
  bytes_none f = units_over 8 (bit_of (unit_byte o)) (λ i l. full_bit (unit o) i l) ∙ sym (over_none (bits_of f))

  last_byte : (f : ℕ → ℕ) (j : ℕ) → over o ((j + 1) * 8) (bits_of f) ≡ op_bool o (over o (j * 8) (bits_of f)) (over o 8 (bit_of (f j)))
  last_byte f j =
      let q : (j + 1) * 8 ≡ j * 8 + 8 = omega arith in
      ap (λ (n : ℕ). over o n (bits_of f)) q
      ∙ parts (j * 8) 8 (bits_of f)
      ∙ ap (op_bool o (over o (j * 8) (bits_of f))) (over_same o 8 (λ i. bits_of f (j * 8 + i)) (bit_of (f j)) (λ i l. inside i l))
    where
      inside : (i : ℕ) → i < 8 → bits_of f (j * 8 + i) ≡ bit_of (f j) i
      inside i l =
          let d : (j * 8 + i) / 8 ≡ j = omega arith in
          let m : (j * 8 + i) % 8 ≡ i = omega arith in
          ap₂ (λ (a c : ℕ). bit_of (f a) c) d m

  pub bytes_more : (f : ℕ → ℕ) (c j v : ℕ) → over o 8 (bit_of c) ≡ over o (j * 8) (bits_of f) → v ≡ f j
      → over o 8 (bit_of (op_byte o c v)) ≡ over o ((j + 1) * 8) (bits_of f)
  bytes_more f c j v e w =
      ap (λ (n : ℕ). over o 8 (bit_of (op_byte o c n))) w
      ∙ over_same o 8 (bit_of (op_byte o c (f j))) (λ i. op_bool o (bit_of c i) (bit_of (f j) i)) (λ i l. op_bit o c (f j) i l)
      ∙ both 8 (bit_of c) (bit_of (f j))
      ∙ ap (λ (t : Bool). op_bool o t (over o 8 (bit_of (f j)))) e
      ∙ sym (last_byte f j)

  -- one byte over and over
  same_bytes : (c n : ℕ) → over o ((n + 1) * 8) (bits_of (λ j. c)) ≡ over o 8 (bit_of c)
  same_bytes c zero =
      last_byte (λ j. c) 0
      ∙ ap (λ (t : Bool). op_bool o t (over o 8 (bit_of c))) (over_none (bits_of (λ j. c)))
      ∙ comm o h (unit o) (over o 8 (bit_of c))
      ∙ right_unit o h (over o 8 (bit_of c))
  same_bytes c (suc n) =
      let e : suc n ≡ n + 1 = omega arith in
      last_byte (λ j. c) (suc n)
      ∙ ap (λ (m : ℕ). op_bool o (over o (m * 8) (bits_of (λ j. c))) (over o 8 (bit_of c))) e
      ∙ ap (λ (t : Bool). op_bool o t (over o 8 (bit_of c))) (same_bytes c n)
      ∙ twice o h (over o 8 (bit_of c))

  pub bytes_same : (c n : ℕ) → 0 < n → over o 8 (bit_of c) ≡ over o (n * 8) (bits_of (λ j. c))
  bytes_same c n l =
      let e : (n - 1) + 1 ≡ n = omega arith in
      sym (same_bytes c (n - 1)) ∙ ap (λ (m : ℕ). over o (m * 8) (bits_of (λ j. c))) e

-- a byte of whose bits all are set, and one of which none is
all_set : (b : ℕ) → b < 256 → ((i : ℕ) → i < 8 → bit_of b i ≡ true) → b ≡ 255
all_set b h f = bits_ext b 255 (λ i. go i (dec_lt i 8))
  where
    go : (i : ℕ) → Dec (i < 8) → bit_of b i ≡ bit_of 255 i
    go i (yes l) = f i l ∙ sym (full_bit true i l)
    go i (no g) = bit_above 8 b i h (omega (arith, g)) ∙ sym (bit_above 8 255 i (omega arith) (omega (arith, g)))

none_set : (b : ℕ) → b < 256 → ((i : ℕ) → i < 8 → bit_of b i ≡ true → ⊥) → b ≡ 0
none_set b h f = bits_ext b 0 (λ i. go i (dec_lt i 8) ∙ sym (bit-zero i))
  where
    go : (i : ℕ) → Dec (i < 8) → bit_of b i ≡ false
    go i (yes l) = false_of (bit_of b i) (f i l)
    go i (no g) = bit_above 8 b i h (omega (arith, g))

-- all bits of a byte, and some bit of a byte
pub byte_all : (b : ℕ) → b < 256 → eqb b 255 ≡ over And 8 (bit_of b)
unfolding over
byte_all b h =
    same_test (eqb b 255) (all_below 8 (bit_of b))
    (λ t. (all_iff 8 (bit_of b)).1 (λ i l. ap (λ (n : ℕ). bit_of n i) (eqb-true b 255 t) ∙ full_bit true i l))
    (λ t. eq-eqb b 255 (all_set b h ((all_iff 8 (bit_of b)).0 t)))

pub byte_some : (b : ℕ) → b < 256 → not (eqb b 0) ≡ over Or 8 (bit_of b)
unfolding over
byte_some b h = go (eqb b 0) refl
  where
    go : (t : Bool) → eqb b 0 ≡ t → not t ≡ any_below 8 (bit_of b)
    go true e =
        sym (false_of (any_below 8 (bit_of b)) (λ t.
        let r = (any_iff 8 (bit_of b)).0 t in
        not_both r.2 (ap (λ (n : ℕ). bit_of n r.0) (eqb-true b 0 e) ∙ bit-zero r.0)))
    go false e =
        sym (true_of (any_below 8 (bit_of b)) (λ t.
        not_both (eq-eqb b 0 (none_set b h (λ i l s. not_both ((any_iff 8 (bit_of b)).1 (i, l, s)) t))) e))
