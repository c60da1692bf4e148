-- The groups of a network: their buckets, and whether one that is named is there.
use Rattle.std.specs.Prelude.{◌≡◌, Bool, true, not, ◌&&◌, ◌||◌, [], ◌∷◌, ℕ, ◌+◌, ◌*◌, eqb, get_or}
use Rattle.basics.specs.Lists.{any, all, from}
use Rattle.format.specs.Record.{Rec, Net, at, kind, record_kind, of_kind}
use Rattle.format.specs.declared.kinds.RecordKind.{RecordKind}
use Rattle.format.specs.declared.kinds.RecordKind.TheVariants.{Widths as k_widths, Link as k_link, Miss as k_miss, Rule as k_rule, Node as k_node, Group as k_group, Unknown as k_no_record}
use Rattle.format.specs.declared.Bucket.{Bucket}
use Rattle.format.specs.declared.kinds.TargetKind.{TargetKind}
use Rattle.format.specs.declared.kinds.TargetKind.TheVariants.{Port as k_port, LowerGroup as k_lower_group, Unknown as k_no_target}

-- bucket j of a group has four bytes: its header value,
abbrev pub bucket_value : Rec → ℕ → ℕ
bucket_value r j = at r (9 + 4 * j)

-- its header care,
abbrev pub bucket_care : Rec → ℕ → ℕ
bucket_care r j = at r (10 + 4 * j)

-- its target kind,
abbrev pub bucket_kind : Rec → ℕ → ℕ
bucket_kind r j = at r (11 + 4 * j)

-- and its target number
abbrev pub bucket_target : Rec → ℕ → ℕ
bucket_target r j = at r (12 + 4 * j)

-- what was read is bucket j of a group
pub record IsBucket (r : Rec) (j : ℕ) (b : Bucket) : Type 0 where
  pub value : b.value ≡ bucket_value r j
  pub care : b.care ≡ bucket_care r j
  pub kind : b.kind ≡ bucket_kind r j
  pub target : b.target ≡ bucket_target r j

-- a port is 1, a group 2
unfoldable pub target_kind : ℕ → TargetKind
target_kind k = get_or (k_no_target ∷ k_port ∷ k_lower_group ∷ []) k k_no_target

-- a group's record is that of number g of a switch
unfoldable pub is_group : ℕ → ℕ → Rec → Bool
is_group sw g r = eqb (at r 1) sw && eqb (at r 2) g

-- some record is group g of a switch
unfoldable pub has_group : Net → ℕ → ℕ → Bool
has_group net sw g = any (is_group sw g) (of_kind 9 net)

-- action i of a record runs no group, or one of its switch that is there
unfoldable pub runs_there : Net → Rec → ℕ → Bool
runs_there net r i = not (eqb (at r (9 + 3 * i)) 4) || has_group net (at r 1) (at r (10 + 3 * i))

-- so do all its actions
unfoldable pub actions_there : Net → Rec → Bool
actions_there net r = all (runs_there net r) (from 0 4)

-- bucket j of a group goes on to no group, or to one of its switch that is there
unfoldable pub goes_there : Net → Rec → ℕ → Bool
goes_there net r j = not (eqb (bucket_kind r j) 2) || has_group net (at r 1) (bucket_target r j)

-- so do all its buckets
unfoldable pub buckets_there : Net → Rec → Bool
buckets_there net r = all (goes_there net r) (from 0 3)

-- the groups that a record of each kind names are there
abbrev pub named_there : RecordKind → Net → Rec → Bool
named_there k_widths net r = true
named_there k_link net r = true
named_there k_miss net r = actions_there net r
named_there k_rule net r = actions_there net r
named_there k_node net r = true
named_there k_group net r = buckets_there net r
named_there k_no_record net r = true

-- the groups that a record names are there
unfoldable pub groups_there : Net → Rec → Bool
groups_there net r = named_there (record_kind (kind r)) net r
