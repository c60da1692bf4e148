-- A plane that is filled line by line, and to which pairs are added.
use Rattle.std.specs.Prelude.{◌≡◌, Bool, true, ◌||◌, List, ℕ, ◌+◌, ◌*◌, ◌<◌, length}
use Rattle.std.proofs.Common.{sym, ap, ap₂, ◌∙◌, arith}
use Rattle.std.proofs.Math.Bool.{or-false}
use Rattle.planes.specs.Plane.{bit, plane_size}
use Rattle.planes.specs.Lines.{Cleared, Made}
use Rattle.planes.specs.Laws.Places.{line_before}
use Rattle.planes.specs.Laws.Lines.{cleared_bit}
use Rattle.planes.specs.Laws.Planes.{made_more}
use Rattle.basics.specs.Lists.{member}
use Rattle.widths.specs.Widths.{states, within_limits, line_bytes}
use Rattle.format.specs.Laws.States.{whole_bytes}
use Rattle.widths.specs.declared.Widths.{Widths}
use Rattle.planes.specs.Adds.{Adds, Added}
use Rattle.links.specs.Carried.{PlaneRoom, pair}

-- one more line, which was cleared
pub line_more : (f : ℕ → List ℕ) (base w s : ℕ) (a b c d : List ℕ) → Made (λ x t. member t (f x)) w base s a b → Cleared (base + s * w) w b c → Added (f s) (base + s * w) w c d
    → Made (λ x t. member t (f x)) w base (s + 1) a d
line_more f base w s a b c d M C A =
    made_more (λ x t. member t (f x)) w base s a b d M (A.len ∙ C.len) (λ n h. A.under n h ∙ C.under n h) (λ n h. A.over n h ∙ C.over n h)
    (λ t h. A.bits t h ∙ ap (λ (x : Bool). member t (f s) || x) (cleared_bit (base + s * w) w b c C t h) ∙ or-false (member t (f s)))

-- a plane has room in a buffer that is as long
pub room_on : (w : Widths) (base : ℕ) (a b : List ℕ) → length b ≡ length a → PlaneRoom w base a → PlaneRoom w base b
room_on w base a b e R = record { limits = R.limits; room = omega (arith, R.room) }

-- pairs that are added to the plane
module _ (w : Widths) (limits : within_limits w ≡ true) (base : ℕ) where
  abbrev rb : ℕ
  rb = line_bytes w

  place : (s t : ℕ) → (base + s * rb) * 8 + t ≡ base * 8 + pair w s t
  place s t =
      let e : s * states w ≡ s * (rb * 8) = ap (λ (k : ℕ). s * k) (whole_bytes w limits) in
      omega arith

  pub pair_in : (s t : ℕ) → s < states w → t < states w → pair w s t < plane_size rb * 8
  pair_in s t hs ht =
      let q : states w ≡ rb * 8 = whole_bytes w limits in
      let e : s * states w ≡ s * (rb * 8) = ap (λ (k : ℕ). s * k) q in
      omega (arith, line_before s (rb * 8) rb (omega arith))

  pub plane_pairs : plane_size rb * 8 ≡ states w * states w
  plane_pairs =
      let q : states w ≡ rb * 8 = whole_bytes w limits in
      let e : states w * states w ≡ rb * 8 * (rb * 8) = ap₂ ◌*◌ q q in
      omega arith

  pub pairs_added : (f g : ℕ → ℕ → Bool) (p : ℕ → Bool) (a b c : List ℕ) → Made f rb base (states w) a b → Adds p base (plane_size rb) b c
      → ((s t : ℕ) → s < states w → t < states w → (p (pair w s t) || f s t) ≡ g s t) → Made g rb base (states w) a c
  pairs_added f g p a b c F A e =
      let q : states w ≡ rb * 8 = whole_bytes w limits in
      let size : states w * rb ≡ plane_size rb = ap (λ (k : ℕ). k * rb) q in
      record {
        len = A.len ∙ F.len;
        here = λ s t hs ht.
            let h : t < states w = omega arith in
            ap (bit c) (place s t)
            ∙ A.bits (pair w s t) (pair_in s t hs h)
            ∙ ap (λ (x : Bool). p (pair w s t) || x) (ap (bit b) (sym (place s t)) ∙ F.here s t hs ht)
            ∙ e s t hs h;
        under = λ m h. A.under m h ∙ F.under m h;
        over = λ m h. A.over m (omega arith) ∙ F.over m h;
      }
