-- The bits of a plane are exchanged one by one.
use mathlib.Core.Path.{◌≡◌, sym, ap, ◌∙◌}
use mathlib.Core.Bool.{true}
use mathlib.Core.List.{List}
use mathlib.Core.Logic.{◌⊎◌, inl, inr, ⊎_elim}
use Prim.Native.Nat.{ℕ, ◌+◌, ◌*◌, ◌/◌, ◌<◌, ◌≤◌}
use native.Mathlib.Nat.{not-suc-le-zero}
use native.Mathlib.Decide.{ℕ_discrete, dec_lt}
use native.Mathlib.Omega.{arith}
use Rattle.planes.specs.Plane.{bit, cell, plane_size}
use Rattle.planes.specs.Lines.{BitSet, Cleared, Loaded, Made}
use Rattle.planes.specs.Laws.Places.{byte_at, line_before, same_place}
use Rattle.planes.specs.Laws.Lines.{plane_kept, loaded_bit}
use Rattle.planes.specs.Laws.Planes.{made_cleared}
use Rattle.words.specs.Words.{Lacks}
use Rattle.words.specs.Laws.Seeking.{front_bit}
use lib.ListN.{take}
use Rattle.exchange.specs.Swapped.{Swapped}

-- planes of n bytes share no byte if the one at to ends before the other where it does not begin behind it
pub parted_apart : (from to n : ℕ) → (to < from + n → to + n ≤ from) → (from + n ≤ to) ⊎ (to + n ≤ from)
parted_apart from to n h = go (dec_lt to (from + n))
  where
    go : Dec (to < from + n) → (from + n ≤ to) ⊎ (to + n ≤ from)
    go (yes l) = inr (h l)
    go (no g) = inl (omega (arith, g))

-- a copy of a line has its states
pub copied : (at pitch : ℕ) (l copy : List ℕ) → Loaded at pitch l copy → (u : ℕ) → u < pitch * 8 → bit (take pitch copy) u ≡ bit l (at * 8 + u)
copied at pitch l copy L u hu = front_bit copy pitch u hu ∙ loaded_bit at pitch l copy L u hu

module _ (from to pitch : ℕ) (apart : (from + plane_size pitch ≤ to) ⊎ (to + plane_size pitch ≤ from)) where
  abbrev S : ℕ
  S = pitch * 8

  -- at first the plane is clear
  pub swapped_none : (a l : List ℕ) → Cleared to (plane_size pitch) a l → Swapped from to pitch 0 0 a l
  swapped_none a l C =
      record {
        len = C.len;
        under = C.under;
        over = C.over;
        done = λ u v hu hv h. absurd (⊎_elim (λ k. not-suc-le-zero k) (λ k. not-suc-le-zero k.1) h);
        clear = λ u v hu hv h. (made_cleared pitch to a l C).here u v hu hv;
      }

  -- the plane at from is as before
  same_bits : (x y : ℕ) (a l : List ℕ) → Swapped from to pitch x y a l → (u v : ℕ) → u < S → v < S → cell l from pitch u v ≡ cell a from pitch u v
  same_bits x y a l T = plane_kept from pitch a l (λ m lo hi. ⊎_elim (λ q. T.under m (omega arith)) (λ q. T.over m (omega arith)) apart)

  -- what line x has is what it had before
  pub had_line : (x : ℕ) (a l line : List ℕ) → Swapped from to pitch x 0 a l → x < S → ((u : ℕ) → u < S → bit line u ≡ cell l from pitch x u)
      → (u : ℕ) → u < S → bit line u ≡ cell a from pitch x u
  had_line x a l line T hx h u hu = h u hu ∙ same_bits x 0 a l T x u hx hu

  module _ (x y : ℕ) (a l line : List ℕ) (same : (u : ℕ) → u < S → bit line u ≡ cell a from pitch x u) (T : Swapped from to pitch x y a l) where
    -- a state that line x lacks is not set
    not_had : (z : ℕ) → Lacks line y z → (u v : ℕ) → u < S → v < S → v ≡ x → y ≤ u → u < z → cell l to pitch u v ≡ cell a from pitch v u
    not_had z F u v hu hv e h k =
        T.clear u v hu hv (inr (e, h))
        ∙ sym (ap (λ (v : ℕ). cell a from pitch v u) e ∙ sym (same u hu) ∙ F.none u h k)

    -- where line x has none of the next states, nothing is set
    pub swapped_over : (z : ℕ) → y ≤ z → Lacks line y z → Swapped from to pitch x z a l
    swapped_over z h F =
        record { len = T.len; under = T.under; over = T.over; done = done; clear = λ u v hu hv k. T.clear u v hu hv (later k) }
      where
        later : {u v : ℕ} → (x < v) ⊎ ((v ≡ x) × (z ≤ u)) → (x < v) ⊎ ((v ≡ x) × (y ≤ u))
        later (inl k) = inl k
        later {u} (inr k) = inr (k.0, omega (arith, k.1, h))

        done : (u v : ℕ) → u < S → v < S → (v < x) ⊎ ((v ≡ x) × (u < z)) → cell l to pitch u v ≡ cell a from pitch v u
        done u v hu hv (inl k) = T.done u v hu hv (inl k)
        done u v hu hv (inr (e, k)) = go (dec_lt u y)
          where
            go : Dec (u < y) → cell l to pitch u v ≡ cell a from pitch v u
            go (yes i) = T.done u v hu hv (inr (e, i))
            go (no i) = not_had z F u v hu hv e (omega (arith, i)) k

    -- where line x has y, the exchanged bit is set
    pub swapped_set : (m : List ℕ) → x < S → y < S → bit line y ≡ true → BitSet ((to + y * pitch) * 8 + x) l m → Swapped from to pitch x (y + 1) a m
    swapped_set m hx hy has B =
        record {
          len = B.len ∙ T.len;
          under = λ n h. B.bytes n (λ e. omega (arith, e, h, place)) ∙ T.under n h;
          over = λ n h. B.bytes n (λ e. omega (arith, e, h, place, line_before y S pitch hy)) ∙ T.over n h;
          done = λ u v hu hv k. done u v hu hv k (ℕ_discrete u y) (ℕ_discrete v x);
          clear = λ u v hu hv k. B.others _ (λ e. not_here u v hv k (same_place to pitch u v y x hv hx e)) ∙ T.clear u v hu hv (later k);
        }
      where
        place : ((to + y * pitch) * 8 + x) / 8 ≡ to + y * pitch + x / 8
        place = byte_at (to + y * pitch) x

        has_before : cell a from pitch x y ≡ true
        has_before = sym (same y hy) ∙ has

        later : {u v : ℕ} → (x < v) ⊎ ((v ≡ x) × (y + 1 ≤ u)) → (x < v) ⊎ ((v ≡ x) × (y ≤ u))
        later (inl k) = inl k
        later {u} (inr k) = inr (k.0, omega (arith, k.1))

        not_here : (u v : ℕ) → v < S → (x < v) ⊎ ((v ≡ x) × (y + 1 ≤ u)) → (u ≡ y) × (v ≡ x) → ⊥
        not_here u v hv (inl k) e = omega (arith, k, e.1)
        not_here u v hv (inr k) e = omega (arith, k.1, e.0)

        before : {u v : ℕ} → (v < x) ⊎ ((v ≡ x) × (u < y + 1)) → ((u ≡ y) × (v ≡ x) → ⊥) → (v < x) ⊎ ((v ≡ x) × (u < y))
        before (inl k) n = inl k
        before {u} (inr k) n = inr (k.0, go (ℕ_discrete u y))
          where
            go : Dec (u ≡ y) → u < y
            go (yes e) = absurd (n (e, k.0))
            go (no e) = omega (arith, e, k.1)

        done : (u v : ℕ) → u < S → v < S → (v < x) ⊎ ((v ≡ x) × (u < y + 1)) → Dec (u ≡ y) → Dec (v ≡ x) → cell m to pitch u v ≡ cell a from pitch v u
        done u v hu hv k (yes e) (yes f) = rw (e, f) (B.here ∙ sym has_before)
        done u v hu hv k (no e) d = B.others _ (λ q. e (same_place to pitch u v y x hv hx q).0) ∙ T.done u v hu hv (before k (λ q. e q.0))
        done u v hu hv k (yes e) (no f) = B.others _ (λ q. f (same_place to pitch u v y x hv hx q).1) ∙ T.done u v hu hv (before k (λ q. f q.1))

    -- where it has none of all that are left, the next line begins
    pub swapped_line : Lacks line y S → Swapped from to pitch (x + 1) 0 a l
    swapped_line F =
        record { len = T.len; under = T.under; over = T.over; done = done; clear = λ u v hu hv k. T.clear u v hu hv (later k) }
      where
        later : {u v : ℕ} → (x + 1 < v) ⊎ ((v ≡ x + 1) × (0 ≤ u)) → (x < v) ⊎ ((v ≡ x) × (y ≤ u))
        later (inl k) = inl (omega (arith, k))
        later (inr k) = inl (omega (arith, k.0))

        here : (u v : ℕ) → u < S → v < S → v ≡ x → Dec (u < y) → cell l to pitch u v ≡ cell a from pitch v u
        here u v hu hv e (yes i) = T.done u v hu hv (inr (e, i))
        here u v hu hv e (no i) = not_had S F u v hu hv e (omega (arith, i)) hu

        done : (u v : ℕ) → u < S → v < S → (v < x + 1) ⊎ ((v ≡ x + 1) × (u < 0)) → cell l to pitch u v ≡ cell a from pitch v u
        done u v hu hv (inr k) = absurd (not-suc-le-zero k.1)
        done u v hu hv (inl k) = go (ℕ_discrete v x)
          where
            go : Dec (v ≡ x) → cell l to pitch u v ≡ cell a from pitch v u
            go (yes e) = here u v hu hv e (dec_lt u y)
            go (no e) = T.done u v hu hv (inl (omega (arith, e)))

  -- after the last line the plane is exchanged
  pub swapped_all : (a l : List ℕ) → Swapped from to pitch S 0 a l → Made (λ x y. cell a from pitch y x) pitch to S a l
  swapped_all a l T = record { len = T.len; here = λ x y hx hy. T.done x y hx hy (inl hy); under = T.under; over = T.over }
