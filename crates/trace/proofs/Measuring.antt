-- The rounds of the search, one after the other.
use mathlib.Core.Path.{◌≡◌, refl, subst, ◌∙◌}
use mathlib.Core.Bool.{Bool, false}
use mathlib.Core.List.{List}
use mathlib.Core.Logic.{⊎_elim}
use Prim.Native.Nat.{ℕ, suc, ◌+◌, ◌*◌, ◌<◌, ◌≤◌}
use native.Mathlib.Decide.{ℕ_discrete}
use native.Mathlib.Omega.{arith}
use lib.ListN.{length, get_or}
use Rattle.trails.specs.Distances.{Near}
use Rattle.trace.specs.Search.{Steps, Marked, Advanced, Measured}
use Rattle.trails.specs.Laws.Searching.{at_distance, near_start, near_more, near_all}
use Rattle.trace.proofs.Rounds.{round_first}

-- the distances up to k are known
pub record Measuring (work : List ℕ) (pitch b k : ℕ) (ds : List ℕ) : Type 0 where
  pub some : 1 ≤ k
  pub bound : k ≤ pitch * 8
  pub len : length ds ≡ 1024
  pub near : Near (pitch * 8) (Steps work pitch) b k ds

module _ (work : List ℕ) (pitch b : ℕ) where
  abbrev S : ℕ
  S = pitch * 8

  abbrev R : ℕ → ℕ → Type 0
  R = Steps work pitch

  -- at first no distance is known, and after the end was marked those up to 1
  pub measuring_start : (before after : List ℕ) → b < S → length before ≡ 1024 → ((x : ℕ) → get_or before x 0 ≡ 0)
      → Marked work pitch b 0 S before after → Measuring work pitch b 1 after
  measuring_start before after hb e zeros M =
      record {
        some = omega arith;
        bound = omega arith;
        len = M.len ∙ e;
        near = near_more S R b 0 before (near_start S R b before (λ x hx. zeros x)) after (round_first work pitch b 0 before after hb refl M);
      }

  module _ (k : ℕ) (ds : List ℕ) (I : Measuring work pitch b k ds) where
    module _ (some : Bool) (after : List ℕ) (A : Advanced work pitch k S ds some after) where
      next : Near S R b (suc k) after
      next = near_more S R b k ds I.near after (A.farther b)

      pub measuring_more : k < S → Measuring work pitch b (k + 1) after
      measuring_more h =
          record {
            some = omega arith;
            bound = omega arith;
            len = A.len ∙ I.len;
            near = subst (λ (n : ℕ). Near S R b n after) (omega arith) next;
          }

      -- no state was at the distance k, so that none is farther
      pub measured_stuck : (a : ℕ) → some ≡ false → Measured work pitch a b after
      measured_stuck a e =
          record { far = S + suc k; near = near_all S R b S (suc k) after (omega arith) next none; enough = λ z. omega arith }
        where
          none : (x : ℕ) → x < S → get_or after x 0 ≡ suc k → ⊥
          none x hx q = go (ℕ_discrete (get_or ds x 0) 0)
            where
              go : Dec (get_or ds x 0 ≡ 0) → ⊥
              go (yes z) =
                  ⊎_elim (λ p. omega (arith, p, q))
                  (λ p. let (y, hy, away, r) = p.1 in A.none e y hy (at_distance ds b k y I.some away))
                  ((A.farther b).only x hx z)
              go (no z) = omega (arith, q, (A.farther b).kept x hx (omega (arith, z)), I.near.up_to x hx)
