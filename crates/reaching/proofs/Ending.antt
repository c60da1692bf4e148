-- From a copy of the relation to its closure.
use mathlib.Core.Path.{◌≡◌, sym, ap, ◌∙◌}
use mathlib.Core.List.{List}
use Prim.Native.Nat.{ℕ, ◌+◌, ◌*◌, ◌<◌}
use native.Mathlib.Omega.{arith}
use lib.ListN.{length, get_or}
use Rattle.planes.specs.Plane.{cell, On, plane_size, Apart}
use Rattle.planes.specs.Lines.{Laid, Made}
use Rattle.basics.specs.Tabulated.{grid_test}
use Rattle.planes.specs.Laws.Places.{bit_at, line_before}
use Rattle.planes.specs.Laws.Lines.{line_bit}
use Rattle.walks.specs.Walk.{Walk}
use Rattle.walks.specs.Walk.Walk.{one, more}
use Rattle.closure.specs.Closed.{Closed}
use Rattle.walks.specs.Computed.{closed}
use Rattle.walks.specs.Laws.Closing.{closed_iff}
use Rattle.walks.specs.Laws.Walks.{start, end, map_walk}
use Rattle.reaching.specs.Into.{ClosedInto}
use Rattle.sinks.specs.Turns.{Between, Stable}
use Rattle.sinks.specs.Laws.Turning.{from_kept, flat}

module _ (from to pitch : ℕ) (a l : List ℕ) (C : Laid (λ i. get_or a (from + i) 0) to (plane_size pitch) a l) where
  copied_cell : (x y : ℕ) → x < pitch * 8 → y < pitch * 8 → cell l to pitch x y ≡ cell a from pitch x y
  copied_cell x y hx hy =
      line_bit (λ j. get_or a (from + x * pitch + j) 0) (to + x * pitch) pitch l byte y hy ∙ sym (bit_at a (from + x * pitch) y)
    where
      byte : (j : ℕ) → j < pitch → get_or l (to + x * pitch + j) 0 ≡ get_or a (from + x * pitch + j) 0
      byte j h =
          let e : to + x * pitch + j ≡ to + (x * pitch + j) = omega arith in
          let f : from + (x * pitch + j) ≡ from + x * pitch + j = omega arith in
          ap (λ (n : ℕ). get_or l n 0) e
          ∙ C.inside (x * pitch + j) (omega (arith, line_before x (pitch * 8) pitch hx))
          ∙ ap (λ (n : ℕ). get_or a n 0) f

  -- a relation lies between itself and its closure
  pub copied_between : Between from to pitch a l
  copied_between = record {
    len = C.len;
    sound = λ x y hx hy t. one hx hy (sym (copied_cell x y hx hy) ∙ t);
    grows = λ x y hx hy t. copied_cell x y hx hy ∙ t;
    under = C.under;
    over = C.over;
  }

  -- so does the relation that was copied anew
  pub copied_anew : (start : List ℕ) → Apart from to pitch (length start) → Between from to pitch start a → Between from to pitch start l
  copied_anew start A B = record {
    len = C.len ∙ B.len;
    sound = λ x y hx hy t. one hx hy (sym (is x y hx hy) ∙ t);
    grows = λ x y hx hy t. is x y hx hy ∙ t;
    under = λ m h. C.under m h ∙ B.under m h;
    over = λ m h. C.over m h ∙ B.over m h;
  }
    where
      is : (x y : ℕ) → x < pitch * 8 → y < pitch * 8 → cell l to pitch x y ≡ cell start from pitch x y
      is x y hx hy = copied_cell x y hx hy ∙ from_kept from to pitch start a A B x y hx hy

-- a relation between R and its closure of which every line is stable is the closure
module _ (from to pitch : ℕ) (a l : List ℕ) (B : Between from to pitch a l) (S : (x : ℕ) → x < pitch * 8 → Stable to pitch l x) where
  complete : {x y : ℕ} → Walk (pitch * 8) (On a from pitch) x y → On l to pitch x y
  complete (one {a = x} {b = y} hx hy r) = B.grows x y hx hy r
  complete (more {a = x} {b = z} {c = y} hx r p) =
      S x hx z y (start p) (end p) (B.grows x z hx (start p) r) (complete p)

  pub stable_closed : ClosedInto from to pitch a l
  stable_closed = record {
    len = B.len;
    reaches = λ x y hx hy. (λ t. B.sound x y hx hy t, λ p. complete p);
    under = B.under;
    over = B.over;
  }

-- a relation between R and its closure has the closure of R
pub between_closed : (from to pitch : ℕ) (a l m : List ℕ) → Between from to pitch a l → Closed to pitch l m → ClosedInto from to pitch a m
between_closed from to pitch a l m B C = record {
  len = C.len ∙ B.len;
  reaches = λ x y hx hy. (λ t. flat B.sound ((C.reaches x y hx hy).0 t), λ p. (C.reaches x y hx hy).1 (map_walk B.grows p));
  under = λ n h. C.under n h ∙ B.under n h;
  over = λ n h. C.over n h ∙ B.over n h;
}

-- a plane that was made the computed closure is the closure
pub made_closed : (from to pitch : ℕ) (a l : List ℕ) → Made (λ x y. grid_test (closed (pitch * 8) (cell a from pitch)) x y) pitch to (pitch * 8) a l → ClosedInto from to pitch a l
made_closed from to pitch a l M = record {
  len = M.len;
  reaches = λ x y hx hy.
      let C = closed_iff (pitch * 8) (cell a from pitch) x y hx hy in
      (λ t. C.0 (sym (M.here x y hx hy) ∙ t), λ p. M.here x y hx hy ∙ C.1 p);
  under = M.under;
  over = M.over;
}
