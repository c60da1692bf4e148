-- Which groups a record names, and whether they are there, which goes by the network's groups alone.
use Rattle.std.specs.Prelude.{◌≡◌, Bool, true, false, ◌&&◌, ◌||◌, [], ◌∷◌, ◌++◌, ℕ, ◌+◌, ◌*◌, ◌<◌, eqb}
use Rattle.std.proofs.Math.Path.{refl, ap}
use Rattle.std.proofs.Common.{sym, ◌∙◌, arith}
use Rattle.std.proofs.Math.Bool.{not}
use Rattle.basics.specs.Lists.{any, all, from}
use Rattle.format.specs.Record.{Rec, Net, at, kind, record_kind, of_kind}
use Rattle.format.specs.declared.kinds.RecordKind.{RecordKind}
use Rattle.format.specs.declared.kinds.RecordKind.TheVariants.{Widths as k_widths, Link as k_link, Miss as k_miss, Rule as k_rule, Node as k_node, Group as k_group, Unknown as k_no_record}
use Rattle.format.specs.Group.{bucket_kind, bucket_target, is_group, has_group, runs_there, actions_there, goes_there, buckets_there, named_there, groups_there}
use Rattle.basics.specs.Laws.Lists.{any_keep, any_snoc, from_fails, from_passes}
use Rattle.format.specs.Laws.Kinds.{is_group_record}

-- what a record of each kind names
module _ (net : Net) (r : Rec) where
  pub widths_there : kind r ≡ 1 → groups_there net r ≡ true
  unfolding groups_there record_kind
  widths_there k = rw k

  pub link_there : kind r ≡ 2 → groups_there net r ≡ true
  unfolding groups_there record_kind
  link_there k = rw k

  pub miss_there : kind r ≡ 3 → groups_there net r ≡ actions_there net r
  unfolding groups_there record_kind
  miss_there k = rw k

  pub rule_there : kind r ≡ 4 → groups_there net r ≡ actions_there net r
  unfolding groups_there record_kind
  rule_there k = rw k

  pub node_there : kind r ≡ 5 → groups_there net r ≡ true
  unfolding groups_there record_kind
  node_there k = rw k

  pub group_there : kind r ≡ 9 → groups_there net r ≡ buckets_there net r
  unfolding groups_there record_kind
  group_there k = rw k

-- two networks with the same groups
module _ (x y : Net) (same : of_kind 9 x ≡ of_kind 9 y) (r : Rec) where
  pub actions_alike : actions_there x r ≡ actions_there y r
  unfolding actions_there runs_there has_group
  actions_alike = ap (λ (groups : Net). all (λ i. not (eqb (at r (9 + 3 * i)) 4) || any (is_group (at r 1) (at r (10 + 3 * i))) groups) (from 0 4)) same

  buckets_alike : buckets_there x r ≡ buckets_there y r
  unfolding buckets_there goes_there has_group
  buckets_alike = ap (λ (groups : Net). all (λ j. not (eqb (bucket_kind r j) 2) || any (is_group (at r 1) (bucket_target r j)) groups) (from 0 3)) same

  pub there_alike : groups_there x r ≡ groups_there y r
  unfolding groups_there
  there_alike = go (record_kind (kind r))
    where
      go : (k : RecordKind) → named_there k x r ≡ named_there k y r
      go k_widths = refl
      go k_link = refl
      go k_miss = actions_alike
      go k_rule = actions_alike
      go k_node = refl
      go k_group = buckets_alike
      go k_no_record = refl

-- whether a group is there, with one record more
pub has_more : (net : Net) (r : Rec) (sw g : ℕ) → has_group (net ++ (r ∷ [])) sw g ≡ (has_group net sw g || (is_group_record r && is_group sw g r))
unfolding has_group of_kind
has_more net r sw g =
    any_keep (is_group sw g) is_group_record (net ++ (r ∷ [])) ∙ any_snoc (λ x. is_group_record x && is_group sw g x) net r
    ∙ ap (λ (b : Bool). b || (is_group_record r && is_group sw g r)) (sym (any_keep (is_group sw g) is_group_record net))

-- the groups named are there if each is, and not if one is not
module _ (net : Net) (r : Rec) where
  pub action_absent : (i : ℕ) → i < 4 → runs_there net r i ≡ false → actions_there net r ≡ false
  unfolding actions_there
  action_absent i h e = from_fails (runs_there net r) 0 4 i (omega arith) h e

  pub actions_there_lem : ((i : ℕ) → i < 4 → runs_there net r i ≡ true) → actions_there net r ≡ true
  unfolding actions_there
  actions_there_lem f = from_passes (runs_there net r) 0 4 (λ i l h. f i h)

  pub bucket_absent : (j : ℕ) → j < 3 → goes_there net r j ≡ false → buckets_there net r ≡ false
  unfolding buckets_there
  bucket_absent j h e = from_fails (goes_there net r) 0 3 j (omega arith) h e

  pub buckets_there_lem : ((j : ℕ) → j < 3 → goes_there net r j ≡ true) → buckets_there net r ≡ true
  unfolding buckets_there
  buckets_there_lem f = from_passes (goes_there net r) 0 3 (λ j l h. f j h)
