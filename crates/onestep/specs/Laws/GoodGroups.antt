-- What good fields of a group's record say.
use Rattle.std.proofs.Common.{ltb-true, sym, ap, ◌∙◌, arith}
use Rattle.std.specs.Prelude.{◌≡◌, true, ℕ, ◌^◌, ◌<◌, ◌≤◌}
use Rattle.std.proofs.Math.Decide.{dec_lt}
use Rattle.basics.specs.Laws.Tests.{not_both, and_right}
use Rattle.format.specs.Record.{Rec, at}
use Rattle.format.specs.Group.{bucket_value, bucket_care, bucket_kind, bucket_target, target_kind, IsBucket}
use Rattle.format.specs.declared.kinds.TargetKind.{TargetKind}
use Rattle.format.specs.declared.kinds.TargetKind.TheVariants.{Port as k_port, LowerGroup as k_lower_group}
use Rattle.format.specs.Pattern.{pattern_good}
use Rattle.format.specs.Fields.{target_fields, buckets_good}
use Rattle.format.specs.Laws.Fields.{buckets_high, bucket_used, bucket_each}
use Rattle.widths.specs.declared.Widths.{Widths}
use Rattle.format.specs.declared.Bucket.{Bucket}

-- a good target, by its kind
module _ (w : Widths) (g k target : ℕ) (good : target_fields (target_kind k) w g target ≡ true) where
  fields_as : (x : TargetKind) → target_kind k ≡ x → target_fields x w g target ≡ true
  fields_as x e = sym (ap (λ (y : TargetKind). target_fields y w g target) e) ∙ good

  pub port_within : target_kind k ≡ k_port → target < 2 ^ w.p
  port_within e = ltb-true target (2 ^ w.p) (fields_as k_port e)

  pub group_lower : target_kind k ≡ k_lower_group → target < g
  group_lower e = ltb-true target g (fields_as k_lower_group e)

module _ (w : Widths) (r : Rec) where
  -- the used buckets of a group with good buckets
  module _ (good : buckets_good w r ≡ true) where
    pub few_buckets : at r 8 ≤ 3
    few_buckets = go (dec_lt 3 (at r 8))
      where
        go : Dec (3 < at r 8) → at r 8 ≤ 3
        go (yes h) = not_both good (buckets_high w r h)
        go (no h) = omega arith

    module _ (j : ℕ) (h : j < at r 8) where
      good_target : target_fields (target_kind (bucket_kind r j)) w (at r 2) (bucket_target r j) ≡ true
      good_target =
          and_right (pattern_good w.h (bucket_value r j) (bucket_care r j)) (target_fields (target_kind (bucket_kind r j)) w (at r 2) (bucket_target r j))
          (sym (bucket_used w r (at r 8) j h) ∙ bucket_each w r good j (omega (arith, few_buckets)))

      -- as it was read from the record of group g
      pub target_as : (g : ℕ) (b : Bucket) → at r 2 ≡ g → IsBucket r j b → target_fields (target_kind b.kind) w g b.target ≡ true
      target_as g b e I = rw (I.kind, I.target, ← e) good_target

      -- a port that it sends to
      pub bucket_port : target_kind (bucket_kind r j) ≡ k_port → bucket_target r j < 2 ^ w.p
      bucket_port = port_within w (at r 2) (bucket_kind r j) (bucket_target r j) good_target
