-- Lines with marks, whatever is sent.
use Rattle.std.specs.Prelude.{◌≡◌, List, ℕ, ◌<◌, replicate}
use Rattle.std.proofs.Common.{sym, ◌∙◌}
use Rattle.std.proofs.Math.Bool.{true}
use Rattle.std.proofs.Math.Decide.{ℕ_discrete}
use native.Mathlib.Omega.{arith}
use Rattle.planes.specs.Plane.{bit}
use Rattle.planes.specs.Lines.{BitSet}
use Rattle.planes.specs.Laws.Lines.{no_bit}
use Rattle.basics.specs.Laws.Tests.{not_both}
use Rattle.planes.specs.Adds.{Added, Within}
use Rattle.groups.specs.Marks.{mark, Done}
use Rattle.planes.specs.Laws.AddedBits.{added_within}

module _ (send : ℕ → ℕ → List ℕ) (n : ℕ) where
  -- at the start nothing is marked
  pub done_none : (k : ℕ) (line : List ℕ) → Done send n line (replicate k 0)
  done_none k line = record { within = λ g h l e. not_both e (no_bit k (mark g h)) }

  -- the run of a marked pair returns at once
  pub added_marked : (g h : ℕ) (line marks : List ℕ) → h < 64 → bit marks (mark g h) ≡ true → Done send n line marks → Added (send g h) 0 n line line
  added_marked g h line marks l e D = added_within 0 n (send g h) line (D.within g h l e)

  -- after its last part a run is marked
  pub done_marked : (g h : ℕ) (line marks marks' : List ℕ) → h < 64 → Within (send g h) 0 n line → Done send n line marks → BitSet (mark g h) marks marks' → Done send n line marks'
  done_marked g h line marks marks' lh W D S = record { within = λ x k l e. go x k l e (ℕ_discrete (mark x k) (mark g h)) }
    where
      go : (x k : ℕ) → k < 64 → bit marks' (mark x k) ≡ true → Dec (mark x k ≡ mark g h) → Within (send x k) 0 n line
      go x k l e (yes q) =
          let u : x ≡ g = omega arith in
          let v : k ≡ h = omega arith in
          rw (u, v) W
      go x k l e (no q) = D.within x k l (sym (S.others (mark x k) q) ∙ e)
