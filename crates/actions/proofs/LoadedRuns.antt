-- A line and marks that were loaded into ones of their own, and are put back after a run.
use mathlib.Core.Path.{◌≡◌, sym, ap, ◌∙◌}
use mathlib.Core.Bool.{Bool, true, ◌||◌}
use mathlib.Core.List.{List}
use Prim.Native.Nat.{ℕ, ◌+◌, ◌*◌, ◌/◌, ◌%◌, ◌<◌}
use native.Mathlib.Omega.{arith}
use Rattle.std.proofs.Math.Decide.{dec_lt}
use Rattle.basics.specs.Bit.{bit_of}
use Rattle.basics.specs.Lists.{member}
use Rattle.basics.specs.Laws.Bits.{bit-zero}
use Rattle.basics.specs.Laws.Tests.{not_both}
use Rattle.planes.specs.Plane.{bit}
use Rattle.planes.specs.Lines.{Loaded, Put}
use Rattle.planes.specs.Adds.{Added, Within}
use Rattle.planes.specs.Laws.Lines.{loaded_bit, put_bit}
use Rattle.planes.specs.Laws.AddedBits.{added_stays}
use Rattle.groups.specs.Marks.{mark, Done, DoneAt, RanAt}

-- bit t of a line of its own
own : (l : List ℕ) (t : ℕ) → bit l (0 * 8 + t) ≡ bit l t
own l t = let e : 0 * 8 + t ≡ t = omega arith in ap (bit l) e

module _ (send : ℕ → ℕ → List ℕ) (at n : ℕ) (work marks line own_marks : List ℕ) (L : Loaded at n work line) (M : Loaded 0 128 marks own_marks) where
  -- what is marked there was marked
  was_marked : (k : ℕ) → Dec (k < 1024) → bit own_marks k ≡ true → bit marks k ≡ true
  unfolding bit
  was_marked k (yes h) e = sym (loaded_bit 0 128 marks own_marks M k (omega arith) ∙ own marks k) ∙ e
  was_marked k (no g) e = not_both e (ap (λ (v : ℕ). bit_of v (k % 8)) (M.rest (k / 8) (omega arith)) ∙ bit-zero (k % 8))

  pub done_loaded : DoneAt send at n work marks → Done send n line own_marks
  unfolding DoneAt
  done_loaded D = record {
    within = λ g h lh e t lt m. own line t ∙ loaded_bit at n work line L t lt ∙ D g h lh (was_marked (mark g h) (dec_lt (mark g h) 1024) e) t lt m;
  }

  -- after the run
  module _ (l line' own_marks' work' marks' : List ℕ) (D : DoneAt send at n work marks) (A : Added l 0 n line line') (D' : Done send n line' own_marks')
      (P : Put line' at n work work') (Q : Put own_marks' 0 128 marks marks') where
    added_back : Added l at n work work'
    added_back = record {
      len = P.len;
      bits = λ t lt. put_bit line' at n work work' P t lt ∙ sym (own line' t) ∙ A.bits t lt ∙ ap (λ (x : Bool). member t l || x) (own line t ∙ loaded_bit at n work line L t lt);
      under = P.under;
      over = P.over;
    }

    done_back : (g h : ℕ) → h < 64 → Dec (mark g h < 1024) → bit marks' (mark g h) ≡ true → Within (send g h) at n work'
    unfolding bit DoneAt
    done_back g h lh (yes k) e t lt m =
        put_bit line' at n work work' P t lt ∙ sym (own line' t)
        ∙ D'.within g h lh (sym (sym (own marks' (mark g h)) ∙ put_bit own_marks' 0 128 marks marks' Q (mark g h) (omega arith)) ∙ e) t lt m
    done_back g h lh (no k) e t lt m =
        added_stays at n l work work' added_back t lt
        (D g h lh (sym (ap (λ (v : ℕ). bit_of v (mark g h % 8)) (Q.over (mark g h / 8) (omega arith))) ∙ e) t lt m)

    pub ran_back : RanAt send at n l work marks work' marks'
    unfolding DoneAt
    ran_back = record { copies = added_back; marks_len = Q.len; done = λ g h lh e. done_back g h lh (dec_lt (mark g h) 1024) e }
