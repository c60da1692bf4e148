-- Groups that good actions and buckets name are below 16.
use Rattle.std.specs.Prelude.{◌≡◌, true, ℕ, ◌+◌, ◌*◌, ◌<◌, ◌^◌, ◌≤◌, ltb, length}
use Rattle.std.proofs.Common.{sym, ◌∙◌, arith, pow_mono}
use Rattle.format.specs.Record.{Rec, at, kind}
use Rattle.format.specs.Group.{bucket_kind, bucket_target}
use borrow.Author.Tests.{ltb-true}
use Rattle.basics.specs.Laws.Tests.{and_left}
use Rattle.format.specs.Fields.{zeros, match_good, actions_good, fields_good}
use Rattle.format.specs.Pattern.{pattern_good}
use Rattle.format.specs.Laws.Fields.{miss_fields, rule_fields, miss_actions, rule_actions, group_parts, action_each, bucket_each, action_group, bucket_lower}
use Rattle.widths.specs.Laws.Limits.{Limits}
use Rattle.widths.specs.declared.Widths.{Widths}

-- a record's switch and the groups that its actions run have bits
pub record ActionsNamed (r : Rec) : Type 0 where
  pub switch : at r 1 < 16
  pub number : (i : ℕ) → i < 4 → at r (9 + 3 * i) ≡ 4 → at r (10 + 3 * i) < 16

-- so have those to which its buckets go on
pub record BucketsNamed (r : Rec) : Type 0 where
  pub switch : at r 1 < 16
  pub number : (j : ℕ) → j < 3 → bucket_kind r j ≡ 2 → bucket_target r j < 16

-- good actions and good buckets name groups that have bits
module _ (w : Widths) (limits : Limits w) (r : Rec) where
  pub switch_lt : at r 1 < 2 ^ w.w → at r 1 < 16
  switch_lt h = let m : 2 ^ w.w ≤ 2 ^ 4 = pow_mono limits.high_w in omega arith

  pub actions_named : at r 1 < 2 ^ w.w → actions_good w r ≡ true → ActionsNamed r
  actions_named h e = record { switch = switch_lt h; number = λ i l k. action_group w r (at r 8) i (action_each w r e i l) k }

  pub miss_named : kind r ≡ 3 → fields_good w r ≡ true → ActionsNamed r
  miss_named k e =
      actions_named (ltb-true _ _ (and_left (ltb (at r 1) (2 ^ w.w)) (zeros 2 7 r) (and_left _ (actions_good w r) (and_left _ (zeros 21 23 r) (sym (miss_fields w r k) ∙ e))))) (miss_actions w r k e)

  pub match_switch : match_good w r ≡ true → at r 1 < 2 ^ w.w
  unfolding match_good
  match_switch e = ltb-true _ _ (and_left (ltb (at r 1) (2 ^ w.w)) (pattern_good w.p (at r 4) (at r 5)) (and_left _ (pattern_good w.h (at r 6) (at r 7)) e))

  pub rule_named : kind r ≡ 4 → fields_good w r ≡ true → ActionsNamed r
  rule_named k e = actions_named (match_switch (and_left (match_good w r) (actions_good w r) (and_left _ (zeros 21 23 r) (sym (rule_fields w r k) ∙ e)))) (rule_actions w r k e)

  pub buckets_named : length r ≡ 24 → kind r ≡ 9 → fields_good w r ≡ true → BucketsNamed r
  buckets_named l k e =
      let parts = group_parts w r k e in
      record {
        switch = switch_lt parts.0;
        number = λ j h q. omega (arith, parts.1, bucket_lower w r l (at r 8) j h (bucket_each w r parts.2 j h) q);
      }
