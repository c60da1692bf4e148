-- A plane that is laid line by line, or all at once.
use Rattle.std.specs.Prelude.{◌≡◌, Bool, List, ℕ, ◌+◌, ◌*◌, ◌/◌, ◌%◌, ◌<◌, get_or}
use Rattle.std.proofs.Common.{sym, ap, ap₂, ◌∙◌, inl, inr, ⊎_elim, mul-le-mul_right, arith}
use Rattle.basics.specs.Bit.{bit_of}
use Rattle.planes.specs.Plane.{bit, cell, plane_size}
use Rattle.planes.specs.Lines.{Laid, Made}
use Rattle.planes.specs.Laws.Lines.{line_bit, line_kept}
use Rattle.planes.specs.Laws.Places.{bit_at, line_before}
use Rattle.planes.specs.Laws.Planes.{made_more}
use Rattle.lines.specs.declared.Op.{Op}
use Rattle.lines.specs.declared.Row.{Row}
use Rattle.lines.specs.declared.Row.TheVariants.{From}
use Rattle.forms.specs.declared.Form.{Form}
use Rattle.forms.specs.declared.Form.TheVariants.{OfX, OfY, Both, Turned}
use Rattle.lines.specs.Shapes.{op_bool, op_byte, Lined, Plane, Source, Span, row_byte, Ready}
use Rattle.forms.specs.declared.Joined.{Joined}
use Rattle.forms.specs.Forms.{tests, place, Upright, row_of, Readable, Joinable, joined}
use Rattle.lines.specs.Laws.LineBits.{full_bit, op_bit}
use Rattle.forms.specs.Laws.PlaneShapes.{line_small, source_in}
use Rattle.forms.specs.Laws.Forms.{tests_kept}

-- the bits of bytes that are an operation on those of two rows, and on those of two spans
pub row_bit : (o : Op) (p q : Row) (to len : ℕ) (l m : List ℕ) → Laid (λ j. op_byte o (row_byte p l j) (row_byte q l j)) to len l m → (y : ℕ) → y < len * 8
    → bit m (to * 8 + y) ≡ op_bool o (bit_of (row_byte p l (y / 8)) (y % 8)) (bit_of (row_byte q l (y / 8)) (y % 8))
row_bit o p q to len l m L y h =
    line_bit (λ j. op_byte o (row_byte p l j) (row_byte q l j)) to len m L.inside y h
    ∙ op_bit o (row_byte p l (y / 8)) (row_byte q l (y / 8)) (y % 8) (omega arith)

pub span_bit : (o : Op) (p q to len : ℕ) (l m : List ℕ) → Laid (λ j. op_byte o (get_or l (p + j) 0) (get_or l (q + j) 0)) to len l m → (y : ℕ) → y < len * 8
    → bit m (to * 8 + y) ≡ op_bool o (bit l (p * 8 + y)) (bit l (q * 8 + y))
span_bit o p q to len l m L y h =
    row_bit o (From p) (From q) to len l m L y h ∙ ap₂ (op_bool o) (sym (bit_at l p y)) (sym (bit_at l q y))

-- the first bytes of a plane that shares no byte with the one at base
pub first_span : (bytes : List ℕ) (pitch base a : ℕ) → Source bytes pitch base a → Span bytes pitch base a
first_span bytes pitch base a S = record {
  within = omega (arith, S.within, line_small pitch);
  ahead = ⊎_elim (λ q. inl (omega (arith, line_small pitch))) (λ q. inr (omega arith)) S.apart;
}

-- a line that is an operation on two spans
pub spans_lined : (o : Op) (p q base pitch : ℕ) (l m : List ℕ) → Laid (λ j. op_byte o (get_or l (p + j) 0) (get_or l (q + j) 0)) base pitch l m
    → Lined (λ z. op_bool o (bit l (p * 8 + z)) (bit l (q * 8 + z))) (pitch * 8) pitch base l m
spans_lined o p q base pitch l m L = record {
  len = L.len;
  here = span_bit o p q base pitch l m L;
  rest = λ n out. ⊎_elim (λ h. L.under n h) (λ h. L.over n (omega (arith, line_small pitch))) out;
}

-- two planes, all at once
pub planes_joined : (o : Op) (p q base pitch : ℕ) (l m : List ℕ) → Laid (λ j. op_byte o (get_or l (p + j) 0) (get_or l (q + j) 0)) base (plane_size pitch) l m
    → Made (λ x y. op_bool o (cell l p pitch x y) (cell l q pitch x y)) pitch base (pitch * 8) l m
planes_joined o p q base pitch l m L = record {
  len = L.len;
  here = λ x y hx hy.
      ap (bit m) (sym (place_of base x y))
      ∙ span_bit o p q base (plane_size pitch) l m L (x * pitch * 8 + y) (omega (arith, line_before x (pitch * 8) pitch hx))
      ∙ ap₂ (op_bool o) (ap (bit l) (place_of p x y)) (ap (bit l) (place_of q x y));
  under = L.under;
  over = L.over;
}
  where
    place_of : (at x y : ℕ) → at * 8 + (x * pitch * 8 + y) ≡ (at + x * pitch) * 8 + y
    place_of at x y = omega arith

-- a plane that is read while the plane at base is laid
pub plane_span : (bytes : List ℕ) (pitch base at : ℕ) → Plane bytes pitch base → Readable bytes pitch base (Both at) → Span bytes (plane_size pitch) base at
plane_span bytes pitch base at P (inl S) = record { within = S.within; ahead = ⊎_elim (λ q. inl q) (λ q. inr (omega arith)) S.apart }
plane_span bytes pitch base at P (inr e) = let same = ap place e in record { within = omega (arith, P.within, same); ahead = inr (omega (arith, same)) }

-- line x of a form: its bytes can be read, and are its tests
module _ (bytes : List ℕ) (pitch base x : ℕ) (hx : x < pitch * 8) where
  source_ready : (g : Form) → Upright g → Source bytes pitch base (place g) → Ready bytes pitch (base + x * pitch) (row_of g bytes pitch x)
  source_ready (OfX at) U S = tt
  source_ready (OfY at) U S = record {
    within = omega (arith, S.within, line_small pitch);
    ahead = ⊎_elim (λ q. inl (omega (arith, line_small pitch))) (λ q. inr (omega (arith, line_before x (pitch * 8) pitch hx))) S.apart;
  }
  source_ready (Both at) U S = record {
    within = omega (arith, S.within, line_before x (pitch * 8) pitch hx);
    ahead = ⊎_elim (λ q. inl (omega (arith, line_before x (pitch * 8) pitch hx))) (λ q. inr (omega arith)) S.apart;
  }
  source_ready (Turned at) U S = absurd U

  pub row_ready : (g : Form) → Plane bytes pitch base → Upright g → Readable bytes pitch base g → Ready bytes pitch (base + x * pitch) (row_of g bytes pitch x)
  row_ready g P U (inl S) = source_ready g U S
  row_ready g P U (inr e) = rw e (record { within = omega (arith, P.within, line_before x (pitch * 8) pitch hx); ahead = inr (omega arith) })

  pub row_tests : (g : Form) → Upright g → (y : ℕ) → bit_of (row_byte (row_of g bytes pitch x) bytes (y / 8)) (y % 8) ≡ tests g bytes pitch x y
  row_tests (OfX at) U y = full_bit (bit bytes (at * 8 + x)) (y % 8) (omega arith)
  row_tests (OfY at) U y = sym (bit_at bytes at y)
  row_tests (Both at) U y = sym (bit_at bytes (at + x * pitch) y)
  row_tests (Turned at) U y = absurd U

-- while line x is laid, a form that is read is there, and its line x is as before
module _ (f : ℕ → ℕ → Bool) (pitch base x : ℕ) (a l : List ℕ) (M : Made f pitch base x a l) (hx : x < pitch * 8) where
  pub still_plane : Plane a pitch base → Plane l pitch base
  still_plane P = record { small = P.small; within = omega (arith, P.within, M.len) }

  pub still_readable : (g : Form) → Readable a pitch base g → Readable l pitch base g
  still_readable g (inl S) = inl (source_in _ _ _ _ _ M.len S)
  still_readable g (inr e) = inr e

  pub readable_there : (g : Form) → Plane a pitch base → Readable a pitch base g → Plane l pitch (place g)
  readable_there g P (inl S) = record { small = P.small; within = omega (arith, S.within, M.len) }
  readable_there g P (inr e) = rw e (still_plane P)

  -- line x of the plane itself is not yet laid
  own_line : (y : ℕ) → y < pitch * 8 → cell l base pitch x y ≡ cell a base pitch x y
  own_line = line_kept (base + x * pitch) pitch a l (λ j hj. M.over (base + x * pitch + j) (omega arith))

  form_kept : (g : Form) → Readable a pitch base g → (y : ℕ) → y < pitch * 8 → tests g l pitch x y ≡ tests g a pitch x y
  form_kept g (inl S) y hy =
      tests_kept pitch a l g
      (λ m lo hi. ⊎_elim (λ q. M.under m (omega arith)) (λ q. M.over m (omega (arith, mul-le-mul_right pitch hx))) S.apart)
      x y hx hy
  form_kept g (inr e) y hy = rw e (own_line y hy)

  -- one more line, of the rows of two forms
  pub laid_more : (j : Joined) (p q : Row) (m : List ℕ) → Joinable a pitch base j → p ≡ row_of j.first l pitch x → q ≡ row_of j.second l pitch x
      → Laid (λ i. op_byte j.op (row_byte p l i) (row_byte q l i)) (base + x * pitch) pitch l m → ((y : ℕ) → f x y ≡ joined j a pitch x y) → Made f pitch base (x + 1) a m
  laid_more j p q m J ep eq L is =
      made_more f pitch base x a l m M L.len L.under L.over
      (λ y hy.
      row_bit j.op p q (base + x * pitch) pitch l m L y hy
      ∙ ap₂ (op_bool j.op)
      (ap (λ (r : Row). bit_of (row_byte r l (y / 8)) (y % 8)) ep ∙ row_tests l pitch base x hx j.first J.upright.0 y ∙ form_kept j.first J.first y hy)
      (ap (λ (r : Row). bit_of (row_byte r l (y / 8)) (y % 8)) eq ∙ row_tests l pitch base x hx j.second J.upright.1 y ∙ form_kept j.second J.second y hy)
      ∙ sym (is y))
