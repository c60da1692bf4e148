-- The fields of a record, as its kind reads them: ranges, widths, patterns, actions and unnamed bytes.
use Rattle.std.specs.Prelude.{Bool, true, false, not, ◌&&◌, ℕ, suc, ◌+◌, ◌*◌, ◌^◌, eqb, leb, ltb, take, drop}
use Rattle.basics.specs.Lists.{all, from}
use Rattle.format.specs.Record.{Rec, most_policies, at, kind, record_kind, command_kind, action_kind}
use Rattle.format.specs.declared.kinds.RecordKind.{RecordKind}
use Rattle.format.specs.declared.kinds.CommandKind.{CommandKind}
use Rattle.format.specs.declared.kinds.ActionKind.{ActionKind}
use Rattle.format.specs.declared.kinds.RecordKind.TheVariants.{Widths as k_widths, Link as k_link, Miss as k_miss, Rule as k_rule, Node as k_node, Group as k_group, Unknown as k_no_record}
use Rattle.format.specs.declared.kinds.CommandKind.TheVariants.{Add as k_add, Modify as k_modify, Delete as k_delete, Unknown as k_no_command}
use Rattle.format.specs.declared.kinds.ActionKind.TheVariants.{Output as k_output, Set as k_set, InPort as k_in_port, RunGroup as k_run_group, Unknown as k_no_action}
use Rattle.format.specs.Group.{bucket_value, bucket_care, bucket_kind, bucket_target, target_kind}
use Rattle.format.specs.declared.kinds.TargetKind.{TargetKind}
use Rattle.format.specs.declared.kinds.TargetKind.TheVariants.{Port as k_port, LowerGroup as k_lower_group, Unknown as k_no_target}
use Rattle.widths.specs.Widths.{width}
use Rattle.format.specs.Version.{version_good}
use Rattle.format.specs.Pattern.{pattern_good}
use Rattle.format.specs.Policy.{node_kind}
use Rattle.format.specs.declared.kinds.NodeKind.{NodeKind}
use Rattle.format.specs.declared.kinds.NodeKind.TheVariants.{Bit as k_bit, R as k_r, E as k_e, Not as k_not, And as k_and, Or as k_or, Some as k_some, All as k_all, Tc as k_tc, Unknown as k_none}
use Rattle.widths.specs.declared.Widths.{Widths}

-- the bytes from the first up to the last are zero
unfoldable pub zeros : ℕ → ℕ → Rec → Bool
zeros first last r = all (eqb 0) (drop first (take (suc last) r))

-- a switch within its width, and a port
unfoldable pub point_good : Widths → ℕ → ℕ → Bool
point_good w sw p = ltb sw (2 ^ w.w) && ltb p (2 ^ w.p)

-- value and care are zero
abbrev pub no_pattern : ℕ → ℕ → Bool
no_pattern value care = eqb value 0 && eqb care 0

-- an action of each kind that is used: OUTPUT with a port pattern; SET with a header pattern, and not the last; IN_PORT with value and care zero;
-- one that runs a group, whose value is the group, 0–15, with care zero
abbrev pub used_fields : ActionKind → Widths → ℕ → ℕ → Bool → Bool
used_fields k_output w value care last = pattern_good w.p value care
used_fields k_set w value care last = pattern_good w.h value care && not last
used_fields k_in_port w value care last = no_pattern value care
used_fields k_run_group w value care last = leb value 15 && eqb care 0
used_fields k_no_action w value care last = false

-- the bytes of an action that is used
abbrev pub used_good : Widths → ℕ → ℕ → ℕ → Bool → Bool
used_good w k value care last = used_fields (action_kind k) w value care last

-- the bytes of an action that is not used are zero
abbrev pub unused_good : ℕ → ℕ → ℕ → Bool
unused_good k value care = eqb k 0 && no_pattern value care

-- action i of `count` by its three bytes
unfoldable pub action_bytes_good : Widths → ℕ → ℕ → ℕ → ℕ → ℕ → Bool
action_bytes_good w k value care count i =
    elim (ltb i count) [ true ↦ used_good w k value care (eqb (suc i) count) | false ↦ unused_good k value care ]

-- action i of a record that uses `count` of them
unfoldable pub action_good : Widths → Rec → ℕ → ℕ → Bool
action_good w r count i = action_bytes_good w (at r (9 + 3 * i)) (at r (10 + 3 * i)) (at r (11 + 3 * i)) count i

-- an action count of 1–4 and its actions, bytes 8 to 20
unfoldable pub actions_good : Widths → Rec → Bool
actions_good w r =
    let count = at r 8 in
    leb 1 count && leb count 4
    && action_good w r count 0 && action_good w r count 1 && action_good w r count 2 && action_good w r count 3

-- the switch and the two patterns of a rule, bytes 1 to 7
unfoldable pub match_good : Widths → Rec → Bool
match_good w r = ltb (at r 1) (2 ^ w.w) && pattern_good w.p (at r 4) (at r 5) && pattern_good w.h (at r 6) (at r 7)

-- byte 3 and byte 4 of a policy node of each kind; an operand may be any byte here
abbrev pub node_fields : NodeKind → Widths → ℕ → ℕ → Bool
node_fields k_bit w a b = leb a 1 && ltb b (width w)
node_fields k_r w a b = leb a 1 && leb b 1
node_fields k_e w a b = leb a 1 && eqb b 0
node_fields k_not w a b = eqb b 0
node_fields k_and w a b = true
node_fields k_or w a b = true
node_fields k_some w a b = leb b 1
node_fields k_all w a b = leb b 1
node_fields k_tc w a b = leb b 3
node_fields k_none w a b = false

-- the fields of a node whose byte 2 is k
unfoldable pub node_good : Widths → ℕ → ℕ → ℕ → Bool
node_good w k a b = node_fields (node_kind k) w a b

-- what a bucket of group g may have for a target of each kind: a port within its width, drop and controller included; a group lower than g
abbrev pub target_fields : TargetKind → Widths → ℕ → ℕ → Bool
target_fields k_port w g target = ltb target (2 ^ w.p)
target_fields k_lower_group w g target = ltb target g
target_fields k_no_target w g target = false

-- a bucket that is used: a header pattern and a target
abbrev pub used_bucket : Widths → ℕ → ℕ → ℕ → ℕ → ℕ → Bool
used_bucket w g value care k target = pattern_good w.h value care && target_fields (target_kind k) w g target

-- bucket j of a group that uses `count` of them; one that is not used is zero
unfoldable pub bucket_good : Widths → Rec → ℕ → ℕ → Bool
bucket_good w r count j =
    elim (ltb j count) [
      | true ↦ used_bucket w (at r 2) (bucket_value r j) (bucket_care r j) (bucket_kind r j) (bucket_target r j)
      | false ↦ zeros (9 + 4 * j) (12 + 4 * j) r
    ]

-- a bucket count of 1–3 and its buckets, bytes 8 to 20
unfoldable pub buckets_good : Widths → Rec → Bool
buckets_good w r = let count = at r 8 in leb 1 count && leb count 3 && all (bucket_good w r count) (from 0 3)

-- the fields of a record of each kind
abbrev pub fields_of : RecordKind → Widths → Rec → Bool
fields_of k_widths w r = version_good (at r 4) && zeros 5 23 r
fields_of k_link w r = point_good w (at r 1) (at r 2) && point_good w (at r 3) (at r 4) && zeros 5 23 r
fields_of k_miss w r = ltb (at r 1) (2 ^ w.w) && zeros 2 7 r && actions_good w r && zeros 21 23 r
fields_of k_rule w r = match_good w r && actions_good w r && zeros 21 23 r
fields_of k_node w r = leb (at r 1) most_policies && node_good w (at r 2) (at r 3) (at r 4) && zeros 5 23 r
fields_of k_group w r = ltb (at r 1) (2 ^ w.w) && leb (at r 2) 15 && zeros 3 7 r && buckets_good w r && zeros 21 23 r
fields_of k_no_record w r = false

-- the fields of a record, as its kind reads them
unfoldable pub fields_good : Widths → Rec → Bool
fields_good w r = fields_of (record_kind (kind r)) w r

-- what follows the match in a command of each kind: as in a rule; delete has bytes 8–20 zero
abbrev pub command_fields : CommandKind → Widths → Rec → Bool
command_fields k_add w c = actions_good w c && zeros 21 23 c
command_fields k_modify w c = actions_good w c && zeros 21 23 c
command_fields k_delete w c = zeros 8 23 c
command_fields k_no_command w c = false

-- the fields of a command
unfoldable pub command_good : Widths → Rec → Bool
command_good w c = match_good w c && command_fields (command_kind (kind c)) w c
