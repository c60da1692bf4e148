-- The buckets of a group run one after the other into a line of any buffer, as they were read from its record.
use Rattle.std.specs.Prelude.{◌≡◌, refl, true, List, [], ℕ, ◌+◌, ◌^◌, ◌<◌, replicate}
use Rattle.std.proofs.Common.{sym, ap, subst, ◌∙◌, arith}
use Rattle.std.proofs.lemmas.List.{length-replicate}
use Rattle.planes.specs.Plane.{bit}
use Rattle.planes.specs.Lines.{BitSet}
use Rattle.format.specs.Record.{Rec, Net, at}
use Rattle.format.specs.Group.{target_kind, IsBucket}
use Rattle.format.specs.declared.kinds.TargetKind.{TargetKind}
use Rattle.widths.specs.Laws.Limits.{limits}
use Rattle.patterns.specs.Laws.Matched.{below_64}
use Rattle.widths.specs.declared.Widths.{Widths}
use Rattle.format.specs.declared.Bucket.{Bucket}
use Rattle.onestep.specs.Groups.{group_record, bucket_header, sent_to, buckets_sent, lower_sent, group_sent}
use Rattle.widths.specs.Widths.{line_bytes}
use Rattle.groups.specs.Marks.{mark, DoneAt}
use Rattle.groups.specs.Sent.{Sends, Ready, GroupsRan, target_sends}
use Rattle.groups.specs.Laws.GroupCopies.{no_buckets, more_buckets, all_buckets, no_group}
use Rattle.groups.specs.Laws.MarkedRuns.{done_none, ran_none, ran_marked, ran_both, ran_all}
use Rattle.groups.specs.Laws.StateBits.{sends_on}

module _ (net : Net) (w : Widths) (line sw p : ℕ) where
  -- what the next run asks, with another header, and after a run
  pub ready_with : (h k : ℕ) (work marks : List ℕ) → k < 2 ^ w.h → Ready net w line sw p h work marks → Ready net w line sw p k work marks
  ready_with h k work marks lt Q = record { sends = sends_on w line sw h k work work refl lt Q.sends; room = Q.room; done = Q.done }

  pub ready_on : (h : ℕ) (l a m a₁ m₁ : List ℕ) → Ready net w line sw p h a m → GroupsRan net w line sw p l a m a₁ m₁ → Ready net w line sw p h a₁ m₁
  ready_on h l a m a₁ m₁ Q R = record {
    sends = sends_on w line sw h h a a₁ R.copies.len Q.sends.ready.header Q.sends;
    room = omega (arith, Q.room, R.marks_len);
    done = R.done;
  }

  -- at the start nothing is marked
  pub ready_first : (h : ℕ) (work : List ℕ) → Sends w line sw h work → Ready net w line sw p h work (replicate 128 0)
  ready_first h work S = record { sends = S; room = omega (arith, length-replicate {A = ℕ} 128 0); done = done_none (group_sent net w sw p) line (line_bytes w) 128 work }

  pub few_headers : (h : ℕ) (work marks : List ℕ) → Ready net w line sw p h work marks → h < 64
  few_headers h work marks Q = below_64 w.h h (limits w Q.sends.ready.limits).high_h Q.sends.ready.header

  -- a bucket that sends on its header, by the kind of its target
  pub bucket_ran : (g kind target header : ℕ) (x : TargetKind) → target_kind kind ≡ x → (a m a₁ m₁ : List ℕ)
      → GroupsRan net w line sw p (sent_to x w sw p (lower_sent net w sw p g) target header) a m a₁ m₁ → GroupsRan net w line sw p (target_sends net w sw p g kind target header) a m a₁ m₁
  bucket_ran g kind target header x e a m a₁ m₁ R = rw e R

  -- group g: its buckets, and its mark
  module _ (g h : ℕ) where
    pub group_absent : (a m : List ℕ) → group_record net sw g ≡ [] → DoneAt (group_sent net w sw p) line (line_bytes w) a m → GroupsRan net w line sw p (group_sent net w sw p g h) a m a m
    group_absent a m e D = rw (no_group net w sw p g h e) (ran_none (group_sent net w sw p) line (line_bytes w) a m D)

    module _ (n : ℕ) (en : n ≡ mark g h) where
      pub group_marked : (a m : List ℕ) → Ready net w line sw p h a m → bit m n ≡ true → GroupsRan net w line sw p (group_sent net w sw p g h) a m a m
      group_marked a m Q e = ran_marked (group_sent net w sw p) line (line_bytes w) g h a m (few_headers h a m Q) (ap (bit m) (sym en) ∙ e) Q.done

    module _ (r : Rec) where
      pub buckets_start : (a m : List ℕ) → DoneAt (group_sent net w sw p) line (line_bytes w) a m → GroupsRan net w line sw p (buckets_sent w sw p (lower_sent net w sw p g) r h 0) a m a m
      buckets_start a m D = rw (no_buckets net w sw p g h r) (ran_none (group_sent net w sw p) line (line_bytes w) a m D)

      pub buckets_next : (j header : ℕ) (b : Bucket) (a m a₁ m₁ a₂ m₂ : List ℕ) → IsBucket r j b → header ≡ bucket_header w r j h
          → GroupsRan net w line sw p (buckets_sent w sw p (lower_sent net w sw p g) r h j) a m a₁ m₁ → GroupsRan net w line sw p (target_sends net w sw p g b.kind b.target header) a₁ m₁ a₂ m₂
          → GroupsRan net w line sw p (buckets_sent w sw p (lower_sent net w sw p g) r h (j + 1)) a m a₂ m₂
      buckets_next j header b a m a₁ m₁ a₂ m₂ I e R S =
          rw (more_buckets net w sw p g h r j header b I e) (ran_both (group_sent net w sw p) line (line_bytes w) _ (target_sends net w sw p g b.kind b.target header) a m a₁ m₁ a₂ m₂ R S)

      pub group_ran : (n j : ℕ) (a m a₁ m₁ m₂ : List ℕ) → n ≡ mark g h → h < 64 → group_record net sw g ≡ r → j ≡ at r 8
          → GroupsRan net w line sw p (buckets_sent w sw p (lower_sent net w sw p g) r h j) a m a₁ m₁ → BitSet n m₁ m₂ → GroupsRan net w line sw p (group_sent net w sw p g h) a m a₁ m₂
      group_ran n j a m a₁ m₁ m₂ en lh is ej R S =
          ran_all (group_sent net w sw p) line (line_bytes w) g h a m a₁ m₁ m₂ lh
          (subst (λ (x : List ℕ). GroupsRan net w line sw p x a m a₁ m₁) (ap (buckets_sent w sw p (lower_sent net w sw p g) r h) ej ∙ sym (all_buckets net w sw p g h r is)) R)
          (subst (λ (x : ℕ). BitSet x m₁ m₂) en S)
