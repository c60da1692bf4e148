-- Laws of forms: with X and Y exchanged, where their bytes stayed, where they lie; forms that were kept, made and closed.
use Rattle.std.specs.Prelude.{◌≡◌, refl, Bool, List, ◌⊎◌, ℕ, ◌+◌, ◌*◌, ◌/◌, ◌%◌, ◌≤◌, ◌<◌, length, get_or}
use Rattle.std.proofs.Common.{sym, ap, ap₂, subst, ◌∙◌, inl, inr, ⊎_elim, arith}
use Rattle.planes.specs.Lines.{Laid, Made, Put}
use Rattle.basics.specs.Bit.{bit_of}
use Rattle.planes.specs.Plane.{bit, cell, plane_size, Apart}
use Rattle.planes.specs.Laws.Places.{line_before}
use Rattle.planes.specs.Laws.Lines.{line_bit, line_kept, plane_kept}
use Rattle.format.specs.declared.kinds.Var.{Var}
use Rattle.format.specs.declared.kinds.Var.TheVariants.{X, Y}
use Rattle.walks.specs.Walk.{Walk}
use Rattle.walks.specs.Walk.Walk.{one, more}
use Rattle.reaching.specs.Into.{ClosedInto}
use Rattle.walks.specs.Laws.Walks.{map_walk, walk_back}
use Rattle.forms.specs.declared.Form.{Form}
use Rattle.forms.specs.declared.Form.TheVariants.{OfX, OfY, Both, Turned}
use Rattle.forms.specs.declared.Joined.{Joined}
use Rattle.forms.specs.declared.Way.{Way}
use Rattle.forms.specs.declared.Way.TheVariants.{FirstTurned, SecondTurned}
use Rattle.lines.specs.declared.Op.{Op}
use Rattle.truth.specs.Truth.{value}
use Rattle.lines.specs.Shapes.{op_bool, Outside, Lined, Plane, Source}
use Rattle.forms.specs.Forms.{tests, place, turned, line_form, Placed, Lies, Upright, Pairs, Mixed, Sources, Joinable, joined, turned_joined, arranged, Stands, Arranges, Straightened, Reached, Reaches, Closes}
use Rattle.truth.specs.Laws.Tables.{value-lt}
use Rattle.forms.specs.Laws.PlaneShapes.{line_small, source_in}

-- a form with X and Y exchanged
pub turned_tests : (f : Form) (bytes : List ℕ) (pitch x y : ℕ) → tests (turned f) bytes pitch x y ≡ tests f bytes pitch y x
turned_tests (OfX at) bytes pitch x y = refl
turned_tests (OfY at) bytes pitch x y = refl
turned_tests (Both at) bytes pitch x y = refl
turned_tests (Turned at) bytes pitch x y = refl

pub turned_place : (f : Form) → place (turned f) ≡ place f
turned_place (OfX at) = refl
turned_place (OfY at) = refl
turned_place (Both at) = refl
turned_place (Turned at) = refl

-- a form lies in the node's own plane, in the first plane or in the second, and so it does exchanged
pub lies_placed : (f : Form) (pitch own : ℕ) → Lies pitch own f → Placed pitch own f
lies_placed (OfX at) pitch own L = inl L
lies_placed (OfY at) pitch own L = inl L
lies_placed (Both at) pitch own L = L
lies_placed (Turned at) pitch own L = L

pub lies_place : (P : ℕ → Type 0) (pitch own : ℕ) (f : Form) → Placed pitch own f → P own → P 0 → P (plane_size pitch) → P (place f)
lies_place P pitch own f L o z s = ⊎_elim (λ e. subst P (sym e) o) (λ q. ⊎_elim (λ e. subst P (sym e) z) (λ e. subst P (sym e) s) q) L

pub turned_lies : (f : Form) (pitch own : ℕ) → Lies pitch own f → Lies pitch own (turned f)
turned_lies (OfX at) pitch own L = L
turned_lies (OfY at) pitch own L = L
turned_lies (Both at) pitch own L = L
turned_lies (Turned at) pitch own L = L

pub turned_placed : (f : Form) (pitch own : ℕ) → Placed pitch own f → Placed pitch own (turned f)
turned_placed (OfX at) pitch own L = L
turned_placed (OfY at) pitch own L = L
turned_placed (Both at) pitch own L = L
turned_placed (Turned at) pitch own L = L

-- a form whose bytes stayed
module _ (pitch : ℕ) (a b : List ℕ) where
  line_stays : (at z : ℕ) → ((m : ℕ) → at ≤ m → m < at + plane_size pitch → get_or b m 0 ≡ get_or a m 0) → z < pitch * 8
      → bit b (at * 8 + z) ≡ bit a (at * 8 + z)
  line_stays at z h hz = line_kept at pitch a b (λ j hj. h (at + j) (omega arith) (omega (arith, line_small pitch))) z hz

  pub tests_kept : (f : Form) → ((m : ℕ) → place f ≤ m → m < place f + plane_size pitch → get_or b m 0 ≡ get_or a m 0) → (x y : ℕ) → x < pitch * 8 → y < pitch * 8
      → tests f b pitch x y ≡ tests f a pitch x y
  tests_kept (OfX at) h x y hx hy = line_stays at x h hx
  tests_kept (OfY at) h x y hx hy = line_stays at y h hy
  tests_kept (Both at) h x y hx hy = plane_kept at pitch a b h x y hx hy
  tests_kept (Turned at) h x y hx hy = plane_kept at pitch a b h y x hy hx

-- the bytes of the lines of a plane are within the buffer
module _ (bytes : List ℕ) (pitch at : ℕ) (P : Plane bytes pitch at) where
  pub line_room : (x : ℕ) → x < pitch * 8 → at + x * pitch + pitch ≤ length bytes
  line_room x h = omega (arith, P.within, line_before x (pitch * 8) pitch h)

  pub first_room : at + pitch ≤ length bytes
  first_room = omega (arith, P.within, line_small pitch)

-- what a form tests may be said in other words
pub stands_as : (f g : ℕ → ℕ → Bool) (r : Form) (pitch base : ℕ) (a b : List ℕ) → ((x y : ℕ) → x < pitch * 8 → y < pitch * 8 → f x y ≡ g x y)
    → Stands f r pitch base a b → Stands g r pitch base a b
stands_as f g r pitch base a b h S = record { len = S.len; lies = S.lies; here = λ x y hx hy. S.here x y hx hy ∙ h x y hx hy; rest = S.rest }

-- and with X and Y exchanged
pub stands_turned : (f : ℕ → ℕ → Bool) (r : Form) (pitch base : ℕ) (a b : List ℕ) → Stands f r pitch base a b → Stands (λ x y. f y x) (turned r) pitch base a b
stands_turned f r pitch base a b S = record {
  len = S.len;
  lies = turned_lies r pitch base S.lies;
  here = λ x y hx hy. turned_tests r b pitch x y ∙ S.here y x hy hx;
  rest = S.rest;
}

-- a line that was laid, whole and as bytes f, and one that was stored
pub lined_stands : (v : Var) (g : ℕ → Bool) (pitch base : ℕ) (a b : List ℕ) → Lined g (pitch * 8) pitch base a b → Stands (λ x y. g (value v x y)) (line_form v base) pitch base a b
lined_stands X g pitch base a b L = record { len = L.len; lies = refl; here = λ x y hx hy. L.here x hx; rest = L.rest }
lined_stands Y g pitch base a b L = record { len = L.len; lies = refl; here = λ x y hx hy. L.here y hy; rest = L.rest }

pub laid_lined : (f : ℕ → ℕ) (g : ℕ → Bool) (pitch base : ℕ) (a b : List ℕ) → Laid f base pitch a b → ((z : ℕ) → z < pitch * 8 → bit_of (f (z / 8)) (z % 8) ≡ g z)
    → Lined g (pitch * 8) pitch base a b
laid_lined f g pitch base a b L is = record {
  len = L.len;
  here = λ z h. line_bit f base pitch b L.inside z h ∙ is z h;
  rest = λ m o. ⊎_elim (λ h. L.under m h) (λ h. L.over m (omega (arith, line_small pitch))) o;
}

pub put_lined : (e : List ℕ) (pitch base : ℕ) (a b : List ℕ) → Put e base pitch a b → Lined (bit e) (pitch * 8) pitch base a b
unfolding bit
put_lined e pitch base a b P = laid_lined (λ j. get_or e j 0) (bit e) pitch base a b P (λ z h. refl)

-- a plane that was made
module _ (f : ℕ → ℕ → Bool) (pitch base : ℕ) (a b : List ℕ) (M : Made f pitch base (pitch * 8) a b) where
  beside_plane : (m : ℕ) → Outside pitch base m → get_or b m 0 ≡ get_or a m 0
  beside_plane m o = ⊎_elim (λ h. M.under m h) (λ h. M.over m h) o

  pub made_straight : Stands f (Both base) pitch base a b
  made_straight = record { len = M.len; lies = inl refl; here = M.here; rest = beside_plane }

  pub made_exchanged : Stands (λ x y. f y x) (Turned base) pitch base a b
  made_exchanged = record { len = M.len; lies = inl refl; here = λ x y hx hy. M.here y x hy hx; rest = beside_plane }

-- a walk over a test of its first state, or of its last
walk_first : {S : ℕ} {P : ℕ → Type 0} {x y : ℕ} → Walk S (λ i j. P i) x y → P x
walk_first (one ha hb r) = r
walk_first (more ha r p) = r

walk_last : {S : ℕ} {P : ℕ → Type 0} {x y : ℕ} → Walk S (λ i j. P j) x y → P y
walk_last (one ha hb r) = r
walk_last (more ha r p) = walk_last p

-- a line is its own closure
pub line_closed : (v : Var) (at : ℕ) (g : Form) (pitch base : ℕ) (a b : List ℕ) → Stands (λ x y. bit a (at * 8 + value v x y)) g pitch base a b → Closes (line_form v at) g pitch base a b
line_closed X at g pitch base a b S = record {
  len = S.len;
  lies = S.lies;
  here = λ x y hx hy. let e = S.here x y hx hy in (λ t. one hx hy (sym e ∙ t), λ w. e ∙ walk_first w);
  rest = S.rest;
}
line_closed Y at g pitch base a b S = record {
  len = S.len;
  lies = S.lies;
  here = λ x y hx hy. let e = S.here x y hx hy in (λ t. one hx hy (sym e ∙ t), λ w. e ∙ walk_last w);
  rest = S.rest;
}

-- a plane that was closed into another, and the step plane, whose closure the second plane is
pub into_closed : (at pitch base : ℕ) (a b : List ℕ) → ClosedInto at base pitch a b → Closes (Both at) (Both base) pitch base a b
into_closed at pitch base a b C = record {
  len = C.len;
  lies = inl refl;
  here = C.reaches;
  rest = λ n o. ⊎_elim (λ h. C.under n h) (λ h. C.over n h) o;
}

pub steps_closed : (at pitch base : ℕ) (a : List ℕ) → Reached pitch a → at ≡ 0 → Closes (Both at) (Both (plane_size pitch)) pitch base a a
steps_closed at pitch base a R z = rw z (record { len = refl; lies = inr (inr refl); here = R; rest = λ m o. refl })

-- the closure of a form with X and Y exchanged is that of the form, exchanged
pub turned_closed : (f g : Form) (pitch base : ℕ) (a b : List ℕ) → Closes f g pitch base a b → Closes (turned f) (turned g) pitch base a b
turned_closed f g pitch base a b C = record {
  len = C.len;
  lies = turned_lies g pitch base C.lies;
  here = λ x y hx hy.
      let r = C.here y x hy hx in
      let e = turned_tests g b pitch x y in (
        λ t. map_walk (λ i j hi hj s. turned_tests f a pitch i j ∙ s) (walk_back (r.0 (sym e ∙ t))),
        λ w. e ∙ r.1 (map_walk (λ i j hi hj s. sym (turned_tests f a pitch j i) ∙ s) (walk_back w)),
      );
  rest = C.rest;
}

-- a form with the variables (X, Y) and (Y, X), where no byte changed
module _ (f : Form) (pitch base : ℕ) (a : List ℕ) (L : Placed pitch base f) where
  pub arranged_straight : Arranges X Y f f pitch base a a
  arranged_straight = record { len = refl; placed = L; lies = λ l. l; here = λ x y hx hy. refl; rest = λ m o. refl }

  pub arranged_turned : Arranges Y X f (turned f) pitch base a a
  arranged_turned = record {
    len = refl;
    placed = turned_placed f pitch base L;
    lies = λ l. turned_lies f pitch base l;
    here = λ x y hx hy. turned_tests f a pitch x y;
    rest = λ m o. refl;
  }

-- a form that has the tests of another with the variables (u, v), and one that lies as the form of a node does
pub stands_arranged : (u v : Var) (f g : Form) (pitch base : ℕ) (a b : List ℕ) → Stands (arranged u v f a pitch) g pitch base a b → Arranges u v f g pitch base a b
stands_arranged u v f g pitch base a b S =
    record { len = S.len; placed = lies_placed g pitch base S.lies; lies = λ l. S.lies; here = S.here; rest = S.rest }

pub arranged_stands : (u v : Var) (f g : Form) (pitch base : ℕ) (a b : List ℕ) → Lies pitch base f → Arranges u v f g pitch base a b → Stands (arranged u v f a pitch) g pitch base a b
arranged_stands u v f g pitch base a b L A = record { len = A.len; lies = A.lies L; here = A.here; rest = A.rest }

-- closed, then arranged
pub closed_arranged : (u v : Var) (f c g : Form) (pitch base : ℕ) (a m b : List ℕ) → Closes f c pitch base a m → Stands (arranged u v c m pitch) g pitch base m b
    → Reaches u v f g pitch base a b
closed_arranged u v f c g pitch base a m b C S = record {
  len = S.len ∙ C.len;
  lies = S.lies;
  here = λ x y hx hy.
      let r = C.here (value u x y) (value v x y) (value-lt u hx hy) (value-lt v hx hy) in
      let e = S.here x y hx hy in
      (λ t. r.0 (sym e ∙ t), λ w. e ∙ r.1 w);
  rest = λ n o. S.rest n o ∙ C.rest n o;
}

-- the plane of a form of a node
pub form_plane : (bytes : List ℕ) (pitch base : ℕ) (f : Form) → Placed pitch base f → Plane bytes pitch base → plane_size pitch + plane_size pitch ≤ base → Plane bytes pitch (place f)
form_plane bytes pitch base f L P h =
    lies_place (Plane bytes pitch) pitch base f L P
    (record { small = P.small; within = omega (arith, P.within) })
    (record { small = P.small; within = omega (arith, P.within) })

pub source_plane : (bytes : List ℕ) (pitch base p : ℕ) → pitch ≤ 128 → Source bytes pitch base p → Plane bytes pitch p
source_plane bytes pitch base p h S = record { small = h; within = S.within }

-- two planes that share no byte
pub lie_apart_lem : (bytes : List ℕ) (pitch base p : ℕ) → Plane bytes pitch base → Source bytes pitch base p → Apart p base pitch (length bytes)
lie_apart_lem bytes pitch base p P S = record { narrow = P.small; first = S.within; second = P.within; apart = S.apart }

-- what is made of a buffer of which the plane at base was laid is made of the one before
pub then_stands : (h g : ℕ → ℕ → Bool) (f : Form) (pitch base : ℕ) (a m b : List ℕ) → length m ≡ length a → ((n : ℕ) → Outside pitch base n → get_or m n 0 ≡ get_or a n 0)
    → ((x y : ℕ) → x < pitch * 8 → y < pitch * 8 → h x y ≡ g x y) → Stands h f pitch base m b → Stands g f pitch base a b
then_stands h g f pitch base a m b l r e S = record {
  len = S.len ∙ l;
  lies = S.lies;
  here = λ x y hx hy. S.here x y hx hy ∙ e x y hx hy;
  rest = λ n o. S.rest n o ∙ r n o;
}

-- two forms are taken together with one of them exchanged
pub turned_mixed : (a b : Form) (w : Way) → (w ≡ FirstTurned) ⊎ (w ≡ SecondTurned) → Pairs a b w → Mixed a b
turned_mixed a b w (inl e) P = inl (subst (Pairs a b) e P)
turned_mixed a b w (inr e) P = inr (subst (Pairs a b) e P)

-- the plane at p was laid exchanged at base: a form that stood exchanged is the plane at base, and another is as before
module _ (p pitch base : ℕ) (a m : List ℕ) (E : Made (λ x y. cell a p pitch y x) pitch base (pitch * 8) a m) where
  pub turned_here : (f : Form) → p ≡ place f → f ≡ Turned (place f) → (x y : ℕ) → x < pitch * 8 → y < pitch * 8 → tests (Both base) m pitch x y ≡ tests f a pitch x y
  turned_here f q e x y hx hy = E.here x y hx hy ∙ ap (λ (n : ℕ). cell a n pitch y x) q ∙ sym (ap (λ (g : Form). tests g a pitch x y) e)

  pub other_same : (g : Form) → Source a pitch base (place g) → (x y : ℕ) → x < pitch * 8 → y < pitch * 8 → tests g m pitch x y ≡ tests g a pitch x y
  other_same g S = tests_kept pitch a m g (λ n lo hi. ⊎_elim (λ q. E.under n (omega arith)) (λ q. E.over n (omega arith)) S.apart)

  pub then_made : (h g : ℕ → ℕ → Bool) (b : List ℕ) → ((x y : ℕ) → x < pitch * 8 → y < pitch * 8 → h x y ≡ g x y) → Made h pitch base (pitch * 8) m b
      → Stands g (Both base) pitch base a b
  then_made h g b e M =
      then_stands h g (Both base) pitch base a m b E.len (beside_plane (λ x y. cell a p pitch y x) pitch base a m E) e (made_straight h pitch base m b M)

  pub first_straightened : (j : Joined) → Mixed j.first j.second → j.first ≡ Turned p → Sources a pitch base j
      → Straightened j (record { op = j.op; first = Both base; second = j.second }) pitch base a m
  first_straightened j M e S =
      let U = ⊎_elim (λ t. t.1) (λ t. absurd (subst Upright e t.1)) M in
      record {
        len = E.len;
        op = refl;
        first = turned_here j.first (sym (ap place e)) (e ∙ ap (λ (f : Form). Turned (place f)) (sym e));
        second = other_same j.second S.second;
        joinable = record { first = inr refl; second = inl (source_in a m pitch base (place j.second) E.len S.second); upright = (tt, U) };
        rest = beside_plane (λ x y. cell a p pitch y x) pitch base a m E;
      }

  pub second_straightened : (j : Joined) → Mixed j.first j.second → ((q : ℕ) → j.first ≡ Turned q → ⊥) → p ≡ place j.second → Sources a pitch base j
      → Straightened j (record { op = j.op; first = j.first; second = Both base }) pitch base a m
  second_straightened j M n q S =
      let T : (j.second ≡ Turned (place j.second)) × Upright j.first = ⊎_elim (λ t. absurd (n _ t.0)) (λ t. t) M in
      record {
        len = E.len;
        op = refl;
        first = other_same j.first S.first;
        second = turned_here j.second q T.0;
        joinable = record { first = inl (source_in a m pitch base (place j.first) E.len S.first); second = inr refl; upright = (T.1, tt) };
        rest = beside_plane (λ x y. cell a p pitch y x) pitch base a m E;
      }

-- the operation on two forms that were straightened is that on the two before
pub straightened_joined : (j r : Joined) (pitch base : ℕ) (a m : List ℕ) → Straightened j r pitch base a m → (x y : ℕ) → x < pitch * 8 → y < pitch * 8
    → joined r m pitch x y ≡ joined j a pitch x y
straightened_joined j r pitch base a m E x y hx hy =
    ap (λ (o : Op). op_bool o (tests r.first m pitch x y) (tests r.second m pitch x y)) E.op ∙ ap₂ (op_bool j.op) (E.first x y hx hy) (E.second x y hx hy)

-- with X and Y exchanged
pub joined_turned : (j : Joined) (bytes : List ℕ) (pitch x y : ℕ) → joined (turned_joined j) bytes pitch x y ≡ joined j bytes pitch y x
joined_turned j bytes pitch x y = ap₂ (op_bool j.op) (turned_tests j.first bytes pitch x y) (turned_tests j.second bytes pitch x y)

-- forms that share no byte with the plane at base, as they stand and exchanged
pub sources_joinable : (bytes : List ℕ) (pitch base : ℕ) (j : Joined) → Sources bytes pitch base j → Upright j.first × Upright j.second → Joinable bytes pitch base j
sources_joinable bytes pitch base j S U = record { first = inl S.first; second = inl S.second; upright = U }

pub turned_sources : (bytes : List ℕ) (pitch base : ℕ) (j : Joined) → Sources bytes pitch base j → Sources bytes pitch base (turned_joined j)
turned_sources bytes pitch base j S = record { first = rw (turned_place j.first) S.first; second = rw (turned_place j.second) S.second }
