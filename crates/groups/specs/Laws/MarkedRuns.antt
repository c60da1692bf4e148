-- Runs with marks, one after the other, whatever they send, into a line of any buffer.
use Rattle.std.specs.Prelude.{◌≡◌, refl, List, [], ◌++◌, ℕ, ◌<◌, replicate}
use Rattle.std.proofs.Common.{sym, ◌∙◌}
use Rattle.std.proofs.Math.Bool.{true}
use Rattle.std.proofs.Math.Decide.{ℕ_discrete}
use native.Mathlib.Omega.{arith}
use Rattle.planes.specs.Plane.{bit}
use Rattle.planes.specs.Lines.{BitSet}
use Rattle.planes.specs.Laws.Lines.{no_bit}
use Rattle.basics.specs.Laws.Tests.{not_both}
use Rattle.planes.specs.Adds.{Added, Within}
use Rattle.groups.specs.Marks.{mark, DoneAt, RanAt}
use Rattle.planes.specs.Laws.AddedBits.{added_none, added_both, added_within, added_there, added_stays}

module _ (send : ℕ → ℕ → List ℕ) (line n : ℕ) where
  -- at the start nothing is marked
  pub done_none : (k : ℕ) (work : List ℕ) → DoneAt send line n work (replicate k 0)
  unfolding DoneAt
  done_none k work g h l e = not_both e (no_bit k (mark g h))

  -- copies sent without a run
  pub ran_sent : (l work work' marks : List ℕ) → Added l line n work work' → DoneAt send line n work marks → RanAt send line n l work marks work' marks
  unfolding DoneAt
  ran_sent l work work' marks A D = record {
    copies = A;
    marks_len = refl;
    done = λ g h k e t b m. added_stays line n l work work' A t b (D g h k e t b m);
  }

  pub ran_none : (work marks : List ℕ) → DoneAt send line n work marks → RanAt send line n [] work marks work marks
  ran_none work marks D = ran_sent [] work work marks (added_none line n work) D

  -- the run of a marked pair returns at once
  pub ran_marked : (g h : ℕ) (work marks : List ℕ) → h < 64 → bit marks (mark g h) ≡ true → DoneAt send line n work marks → RanAt send line n (send g h) work marks work marks
  unfolding DoneAt
  ran_marked g h work marks l e D = ran_sent (send g h) work work marks (added_within line n (send g h) work (D g h l e)) D

  -- one after the other
  pub ran_both : (l k a m a₁ m₁ a₂ m₂ : List ℕ) → RanAt send line n l a m a₁ m₁ → RanAt send line n k a₁ m₁ a₂ m₂ → RanAt send line n (l ++ k) a m a₂ m₂
  ran_both l k a m a₁ m₁ a₂ m₂ R S = record {
    copies = added_both line n l k a a₁ a₂ R.copies S.copies;
    marks_len = S.marks_len ∙ R.marks_len;
    done = S.done;
  }

  -- after its last part a run is marked
  pub ran_all : (g h : ℕ) (a m a₁ m₁ m₂ : List ℕ) → h < 64 → RanAt send line n (send g h) a m a₁ m₁ → BitSet (mark g h) m₁ m₂ → RanAt send line n (send g h) a m a₁ m₂
  unfolding DoneAt
  ran_all g h a m a₁ m₁ m₂ lh R S = record {
    copies = R.copies;
    marks_len = S.len ∙ R.marks_len;
    done = λ x k l e. go x k l e (ℕ_discrete (mark x k) (mark g h));
  }
    where
      go : (x k : ℕ) → k < 64 → bit m₂ (mark x k) ≡ true → Dec (mark x k ≡ mark g h) → Within (send x k) line n a₁
      go x k l e (yes q) =
          let u : x ≡ g = omega arith in
          let v : k ≡ h = omega arith in
          rw (u, v) (added_there line n (send g h) a a₁ R.copies)
      go x k l e (no q) = R.done x k l (sym (S.others (mark x k) q) ∙ e)
