-- The test of whether two planes lie within the bytes and share none.
use mathlib.Core.Path.{◌≡◌, sym}
use mathlib.Core.Bool.{true, false, ◌||◌}
use mathlib.Core.Logic.{◌⊎◌, inl, inr, ⊎_elim}
use Prim.Native.Nat.{ℕ, ◌+◌, ◌≤◌}
use borrow.Author.Tests.{leb-true, le-leb}
use lib.Dec.{leb}
use Rattle.planes.specs.Plane.{plane_size, Apart}
use Rattle.basics.specs.Laws.Tests.{same_test, false_of, and_both, both, or_left, or_right, or_cases}
use Rattle.closure.specs.Closed.{lies_within}
use Rattle.reaching.specs.Into.{lie_apart}

-- one plane
within : (len base pitch : ℕ) → lies_within len base pitch ≡ true → (pitch ≤ 128) × (base + plane_size pitch ≤ len)
within len base pitch t =
    let p = both (leb pitch 128) (leb (base + plane_size pitch) len) t in
    (leb-true pitch 128 p.0, leb-true (base + plane_size pitch) len p.1)

is_within : (len base pitch : ℕ) → pitch ≤ 128 → base + plane_size pitch ≤ len → lies_within len base pitch ≡ true
is_within len base pitch h l = and_both _ _ (le-leb pitch 128 h) (le-leb (base + plane_size pitch) len l)

module _ (len from to pitch : ℕ) where
  -- no byte is shared
  parted : (leb (from + plane_size pitch) to || leb (to + plane_size pitch) from) ≡ true → (from + plane_size pitch ≤ to) ⊎ (to + plane_size pitch ≤ from)
  parted t = ⊎_elim (λ p. inl (leb-true _ to p)) (λ p. inr (leb-true _ from p)) (or_cases _ (leb (to + plane_size pitch) from) t)

  is_parted : (from + plane_size pitch ≤ to) ⊎ (to + plane_size pitch ≤ from) → (leb (from + plane_size pitch) to || leb (to + plane_size pitch) from) ≡ true
  is_parted (inl h) = or_left _ _ (le-leb (from + plane_size pitch) to h)
  is_parted (inr h) = or_right (leb (from + plane_size pitch) to) _ (le-leb (to + plane_size pitch) from h)

  -- two planes
  pub apart : lie_apart len from to pitch ≡ true → Apart from to pitch len
  apart t =
      let p = both _ (leb (from + plane_size pitch) to || leb (to + plane_size pitch) from) t in
      let q = both (lies_within len from pitch) (lies_within len to pitch) p.0 in
      record {
        narrow = (within len from pitch q.0).0;
        first = (within len from pitch q.0).1;
        second = (within len to pitch q.1).1;
        apart = parted p.1;
      }

  is_apart : Apart from to pitch len → lie_apart len from to pitch ≡ true
  is_apart A =
      and_both _ _
      (and_both _ _ (is_within len from pitch A.narrow A.first) (is_within len to pitch A.narrow A.second))
      (is_parted A.apart)

  pub not_apart : (Apart from to pitch len → ⊥) → false ≡ lie_apart len from to pitch
  not_apart h = sym (false_of _ (λ t. h (apart t)))

  -- by the gap between where they start
  pub gap_test : (gap : ℕ) → pitch ≤ 128 → from + plane_size pitch ≤ len → to + plane_size pitch ≤ len
      → (plane_size pitch ≤ gap → (from + plane_size pitch ≤ to) ⊎ (to + plane_size pitch ≤ from))
      → ((from + plane_size pitch ≤ to) ⊎ (to + plane_size pitch ≤ from) → plane_size pitch ≤ gap)
      → leb (plane_size pitch) gap ≡ lie_apart len from to pitch
  gap_test gap h f g p q =
      same_test (leb (plane_size pitch) gap) (lie_apart len from to pitch)
      (λ t. is_apart (record { narrow = h; first = f; second = g; apart = p (leb-true (plane_size pitch) gap t) }))
      (λ t. le-leb (plane_size pitch) gap (q (apart t).apart))
