-- What the groups of a switch send: one bucket after the other, each to a port or on to a lower group.
use Rattle.std.proofs.Common.{eq-eqb, ne_eqb, sym, ◌∙◌, add-one, arith}
use Rattle.std.specs.Prelude.{◌≡◌, eqb}
use Rattle.std.proofs.Math.Path.{refl, ap}
use Rattle.std.proofs.Math.Bool.{Bool, true, false}
use mathlib.Core.List.{List, [], ◌++◌}
use Prim.Native.Nat.{ℕ, zero, suc, ◌+◌, ◌<◌}
use Rattle.std.proofs.Math.Decide.{ℕ_discrete}
use Rattle.format.specs.Record.{Rec, Net, at}
use Rattle.format.specs.Group.{target_kind, IsBucket}
use Rattle.widths.specs.declared.Widths.{Widths}
use Rattle.format.specs.declared.Bucket.{Bucket}
use Rattle.onestep.specs.Groups.{group_record, sent_to, bucket_header, bucket_sent, buckets_sent, record_sent, lower_sent, group_sent}

module _ (net : Net) (w : Widths) (sw p : ℕ) where
  -- what a group sends is the same among those below any higher number
  pub lower_is : (k g h : ℕ) → g < k → lower_sent net w sw p k g h ≡ group_sent net w sw p g h
  unfolding lower_sent group_sent
  lower_is zero g h l = absurd (omega arith)
  lower_is (suc k) g h l = go (ℕ_discrete g k) (lower_is k g h)
    where
      At : Bool → List ℕ
      At b = elim b as (λ x. List ℕ) [ true ↦ record_sent w sw p (lower_sent net w sw p k) (group_record net sw k) h | false ↦ lower_sent net w sw p k g h ]

      go : Dec (g ≡ k) → (g < k → lower_sent net w sw p k g h ≡ group_sent net w sw p g h) → At (eqb g k) ≡ group_sent net w sw p g h
      go (yes q) below = ap At (eq-eqb g k q) ∙ ap (λ (x : ℕ). group_sent net w sw p x h) (sym q)
      go (no q) below = ap At (ne_eqb g k q) ∙ below (omega (arith, q))

  -- the buckets of a group, one after the other
  module _ (g h : ℕ) (r : Rec) where
    pub no_buckets : buckets_sent w sw p (lower_sent net w sw p g) r h 0 ≡ []
    unfolding buckets_sent
    no_buckets = refl

    pub more_buckets : (j header : ℕ) (b : Bucket) → IsBucket r j b → header ≡ bucket_header w r j h
        → buckets_sent w sw p (lower_sent net w sw p g) r h (j + 1) ≡ buckets_sent w sw p (lower_sent net w sw p g) r h j ++ sent_to (target_kind b.kind) w sw p (lower_sent net w sw p g) b.target header
    unfolding buckets_sent bucket_sent
    more_buckets j header b I e = rw (add-one, I.kind, I.target, e) refl

    pub all_buckets : group_record net sw g ≡ r → group_sent net w sw p g h ≡ buckets_sent w sw p (lower_sent net w sw p g) r h (at r 8)
    unfolding group_sent
    all_buckets e = ap (λ (x : Rec). record_sent w sw p (lower_sent net w sw p g) x h) e

  -- a group that is not there
  pub no_group : (g h : ℕ) → group_record net sw g ≡ [] → group_sent net w sw p g h ≡ []
  unfolding group_sent buckets_sent
  no_group g h e = ap (λ (x : Rec). record_sent w sw p (lower_sent net w sw p g) x h) e
