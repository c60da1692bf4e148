-- The operation on two forms, line by line, and lines that are gathered of these.
use mathlib.Core.Path.{◌≡◌, refl, sym, ap, ap₂, ◌∙◌}
use mathlib.Core.Bool.{Bool, true, false, false≢true}
use mathlib.Core.List.{List}
use mathlib.Core.Logic.{inl, inr}
use Prim.Native.Nat.{ℕ, ◌+◌, ◌*◌, ◌/◌, ◌%◌, ◌≤◌, ◌<◌}
use native.Mathlib.Nat.{zero-add}
use native.Mathlib.Omega.{arith}
use lib.ListN.{length, get_or, replicate, get_or-replicate}
use denote.Enum.Bare.{sameb}
use Rattle.basics.specs.Bit.{bit_of}
use Rattle.planes.specs.Plane.{bit}
use Rattle.planes.specs.Lines.{Laid}
use Rattle.planes.specs.Laws.Places.{bit_at}
use Rattle.format.specs.Policy.{same_var}
use Rattle.format.specs.contracts.kinds.Var.{the_type}
use Rattle.format.specs.declared.kinds.Var.{Var}
use Rattle.format.specs.declared.kinds.Var.TheVariants.{X, Y}
use Rattle.truth.specs.Truth.{value, with_x, with_y}
use Rattle.truth.specs.Laws.Tables.{with_x-lt, with_y-lt}
use Rattle.lines.specs.declared.Op.{Op}
use Rattle.lines.specs.declared.Join.{Join}
use Rattle.forms.specs.declared.Joined.{Joined}
use Rattle.forms.specs.declared.Way.TheVariants.{Over}
use Rattle.forms.specs.declared.Form.{Form}
use Rattle.forms.specs.declared.Form.TheVariants.{OfX, OfY, Both, Turned}
use Rattle.lines.specs.Shapes.{op_bool, op_byte, over, unit, unit_byte, full_byte, Quantifies, bits_of, Line, Lined, Plane, Even, RowWithin, join_byte, Joins, LineIs}
use Rattle.forms.specs.Forms.{tests, place, turned, other, line_form, Upright, row_of, Pairs, Readable, Sources, Joinable, Paired, Straightened, joined, turned_joined, ranged, Stands}
use Rattle.lines.specs.Laws.LineBits.{full_bit, op_bit}
use Rattle.forms.specs.Laws.Forms.{line_room, first_room, stands_as, stands_turned, lined_stands, laid_lined, source_plane, sources_joinable, joined_turned, straightened_joined, then_stands}
use Rattle.forms.specs.Laws.LinesLaid.{row_tests}
use Rattle.lines.specs.Laws.Quantified.{over_same, over_one, over_none, over_more}

-- line x of a form
module _ (bytes : List ℕ) (pitch x : ℕ) where
  pub row_even : (f : Form) → Even (row_of f bytes pitch x)
  row_even (OfX at) = (bit bytes (at * 8 + x), refl)
  row_even (OfY at) = tt
  row_even (Both at) = tt
  row_even (Turned at) = tt

  module _ (hx : x < pitch * 8) where
    row_within : (f : Form) → Plane bytes pitch (place f) → RowWithin (length bytes) pitch (row_of f bytes pitch x)
    row_within (OfX at) P = tt
    row_within (OfY at) P = first_room bytes pitch at P
    row_within (Both at) P = line_room bytes pitch at P x hx
    row_within (Turned at) P = first_room bytes pitch at P

    pub line_is : (j : Joined) (e : Join) → Paired bytes pitch j → Joins j.op (row_of j.first bytes pitch x) (row_of j.second bytes pitch x) e → LineIs (joined j bytes pitch x) bytes pitch e
    line_is j e P J = record {
      within = J.within (length bytes) pitch (row_within j.first P.first) (row_within j.second P.second);
      is = λ y.
          J.is bytes (y / 8) (y % 8) (omega arith)
          ∙ ap₂ (op_bool j.op) (row_tests bytes pitch 0 x hx j.first P.upright.0 y) (row_tests bytes pitch 0 x hx j.second P.upright.1 y);
    }

-- two forms that can be read while the plane at base is laid, and such that share no byte with it, lie within the buffer
module _ (bytes : List ℕ) (pitch base : ℕ) (P : Plane bytes pitch base) where
  readable_plane : (f : Form) → Readable bytes pitch base f → Plane bytes pitch (place f)
  readable_plane f (inl S) = source_plane bytes pitch base (place f) P.small S
  readable_plane f (inr e) = rw e P

  pub joinable_paired : (j : Joined) → Joinable bytes pitch base j → Paired bytes pitch j
  joinable_paired j J = record { first = readable_plane j.first J.first; second = readable_plane j.second J.second; upright = J.upright }

  pub sources_paired : (j : Joined) → Sources bytes pitch base j → Upright j.first × Upright j.second → Paired bytes pitch j
  sources_paired j S U = joinable_paired j (sources_joinable bytes pitch base j S U)

-- the equality that Var derives
pub vars_same : (u v : Var) → sameb the_type u v ≡ same_var u v
vars_same X X = refl
vars_same X Y = refl
vars_same Y X = refl
vars_same Y Y = refl

-- the operation on two lines
module _ (o : Op) (h : Quantifies o) (t : Op) (a b pitch base : ℕ) (l m : List ℕ) where
  abbrev lines : ℕ → Bool
  lines z = op_bool t (bit l (a * 8 + z)) (bit l (b * 8 + z))

  -- equal tests
  pub same_lined : (k : List ℕ) (c : ℕ) (s : Bool) → Lined lines (pitch * 8) pitch base l k → s ≡ over o (pitch * 8) (bits_of (λ j. get_or k (base + j) 0)) → c ≡ full_byte s
      → Laid (λ j. c) base pitch k m → Lined (λ z. over o (pitch * 8) lines) (pitch * 8) pitch base l m
  same_lined k c s J e q L =
      let N = laid_lined (λ j. c) (λ z. over o (pitch * 8) lines) pitch base k m L (λ z hz.
      ap (λ (w : ℕ). bit_of w (z % 8)) q
      ∙ full_bit s (z % 8) (omega arith)
      ∙ e
      ∙ over_same o (pitch * 8) (bits_of (λ j. get_or k (base + j) 0)) lines (λ y hy. sym (bit_at k base y) ∙ J.here y hy)) in
      record { len = N.len ∙ J.len; here = N.here; rest = λ n out. N.rest n out ∙ J.rest n out }

-- the operation on two lines over the variable u
module _ (o : Op) (h : Quantifies o) (j : Joined) (pitch base : ℕ) (l m : List ℕ) where
  abbrev on_lines : ℕ → Bool
  on_lines z = op_bool j.op (bit l (place j.first * 8 + z)) (bit l (place j.second * 8 + z))

  flat_joined : (u : Var) → Pairs j.first j.second (Over u) → (x y : ℕ) → joined j l pitch x y ≡ on_lines (value u x y)
  flat_joined X F x y = ap₂ (op_bool j.op) (ap (λ (f : Form). tests f l pitch x y) F.0) (ap (λ (f : Form). tests f l pitch x y) F.1)
  flat_joined Y F x y = ap₂ (op_bool j.op) (ap (λ (f : Form). tests f l pitch x y) F.0) (ap (λ (f : Form). tests f l pitch x y) F.1)

  flat_ranged : (u v : Var) → Pairs j.first j.second (Over u) → (x y : ℕ)
      → over o (pitch * 8) (λ z. on_lines (value u (with_x v z x) (with_y v z y))) ≡ ranged o v j l pitch x y
  flat_ranged u v F x y = sym (over_same o (pitch * 8) _ _ (λ z hz. flat_joined u F (with_x v z x) (with_y v z y)))

  -- with the variable of the lines, and with the other, running over every state
  pub flat_same : (u v : Var) → same_var u v ≡ true → Pairs j.first j.second (Over u) → Lined (λ z. over o (pitch * 8) on_lines) (pitch * 8) pitch base l m
      → Stands (ranged o v j l pitch) (line_form u base) pitch base l m
  flat_same X X s F L = stands_as _ _ _ pitch base l m (λ x y hx hy. flat_ranged X X F x y) (lined_stands X (λ z. over o (pitch * 8) on_lines) pitch base l m L)
  flat_same X Y s F L = absurd (false≢true s)
  flat_same Y X s F L = absurd (false≢true s)
  flat_same Y Y s F L = stands_as _ _ _ pitch base l m (λ x y hx hy. flat_ranged Y Y F x y) (lined_stands Y (λ z. over o (pitch * 8) on_lines) pitch base l m L)

  pub flat_other : (u v : Var) → same_var u v ≡ false → Pairs j.first j.second (Over u) → Lined on_lines (pitch * 8) pitch base l m
      → Stands (ranged o v j l pitch) (line_form u base) pitch base l m
  flat_other X X s F L = absurd (false≢true (sym s))
  flat_other X Y s F L =
      stands_as _ _ _ pitch base l m (λ x y hx hy. sym (over_one o h (pitch * 8) (on_lines x) (omega arith)) ∙ flat_ranged X Y F x y) (lined_stands X on_lines pitch base l m L)
  flat_other Y X s F L =
      stands_as _ _ _ pitch base l m (λ x y hx hy. sym (over_one o h (pitch * 8) (on_lines y) (omega arith)) ∙ flat_ranged Y X F x y) (lined_stands Y on_lines pitch base l m L)
  flat_other Y Y s F L = absurd (false≢true (sym s))

-- the operation with X and Y exchanged, and the other variable running over every state
pub exchanged_ranged : (o : Op) (v : Var) (j : Joined) (pitch : ℕ) (l : List ℕ) (x y : ℕ) → ranged o (other v) (turned_joined j) l pitch y x ≡ ranged o v j l pitch x y
exchanged_ranged o X j pitch l x y = over_same o (pitch * 8) _ _ (λ z hz. joined_turned j l pitch y z)
exchanged_ranged o Y j pitch l x y = over_same o (pitch * 8) _ _ (λ z hz. joined_turned j l pitch z x)

pub exchanged_stands : (o : Op) (v : Var) (j : Joined) (f : Form) (pitch base : ℕ) (l m : List ℕ) → Stands (ranged o (other v) (turned_joined j) l pitch) f pitch base l m
    → Stands (ranged o v j l pitch) (turned f) pitch base l m
exchanged_stands o v j f pitch base l m S =
    stands_as _ _ _ pitch base l m (λ x y hx hy. exchanged_ranged o v j pitch l x y) (stands_turned _ f pitch base l m S)

-- two forms that were straightened
pub straightened_stands : (o : Op) (v : Var) (j r : Joined) (f : Form) (pitch base : ℕ) (a l m : List ℕ) → Straightened j r pitch base a l → Stands (ranged o v r l pitch) f pitch base l m
    → Stands (ranged o v j a pitch) f pitch base a m
straightened_stands o v j r f pitch base a l m E S =
    then_stands _ _ f pitch base a l m E.len E.rest
    (λ x y hx hy. over_same o (pitch * 8) _ _ (λ z hz. straightened_joined j r pitch base a l E (with_x v z x) (with_y v z y) (with_x-lt v hz hx) (with_y-lt v hz hy)))
    S

-- a line of the states of the other variable
pub gathered_x : (o : Op) (j : Joined) (f : Form) (e : List ℕ) (pitch base : ℕ) (l m : List ℕ) → Line (λ y. over o (pitch * 8) (λ x. joined j l pitch x y)) (pitch * 8) e
    → Stands (λ x y. bit e y) f pitch base l m → Stands (ranged o X j l pitch) f pitch base l m
gathered_x o j f e pitch base l m L S = stands_as _ _ _ pitch base l m (λ x y hx hy. L.is y hy) S

pub gathered_y : (o : Op) (j : Joined) (f : Form) (e : List ℕ) (pitch base : ℕ) (l m : List ℕ) → Line (λ x. over o (pitch * 8) (joined j l pitch x)) (pitch * 8) e
    → Stands (λ x y. bit e x) f pitch base l m → Stands (ranged o Y j l pitch) f pitch base l m
gathered_y o j f e pitch base l m L S = stands_as _ _ _ pitch base l m (λ x y hx hy. L.is x hx) S

-- a line that takes in line after line, by an operation
module _ (o : Op) (h : Quantifies o) (pitch : ℕ) where
  pub taken_none : (c : ℕ) (g : ℕ → ℕ → Bool) → c ≡ unit_byte o → pitch ≤ 128 → Line (λ y. over o 0 (λ x. g x y)) (pitch * 8) (replicate 128 c)
  unfolding bit
  taken_none c g e l = record {
    is = λ y hy.
        ap (λ (v : ℕ). bit_of v (y % 8)) (get_or-replicate 128 (y / 8) c 0 (omega arith) ∙ e)
        ∙ full_bit (unit o) (y % 8) (omega arith)
        ∙ sym (over_none o h (λ x. g x y));
  }

  pub taken_more : (g : ℕ → ℕ → Bool) (x : ℕ) (bytes : List ℕ) (e : Join) (r s : List ℕ) → Line (λ y. over o x (λ i. g i y)) (pitch * 8) r → LineIs (g x) bytes pitch e
      → Laid (λ j. op_byte o (get_or r j 0) (join_byte e bytes j)) 0 pitch r s → Line (λ y. over o (x + 1) (λ i. g i y)) (pitch * 8) s
  unfolding bit
  taken_more g x bytes e r s L J T = record {
    is = λ y hy.
        ap (λ (m : ℕ). bit_of (get_or s m 0) (y % 8)) (sym (zero-add (y / 8)))
        ∙ ap (λ (v : ℕ). bit_of v (y % 8)) (T.inside (y / 8) (omega arith))
        ∙ op_bit o (get_or r (y / 8) 0) (join_byte e bytes (y / 8)) (y % 8) (omega arith)
        ∙ ap₂ (op_bool o) (L.is y hy) (J.is y)
        ∙ sym (over_more o h x (λ i. g i y));
  }
