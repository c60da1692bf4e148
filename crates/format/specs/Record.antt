-- Records of 24 bytes: a network is n of them in a lent store, and the kind byte decides how the other 23 are read.
use Rattle.std.specs.Prelude.{Bool, ◌&&◌, ◌||◌, List, [], ◌∷◌, ◌++◌, ℕ, zero, suc, ◌+◌, ◌*◌, eqb, get_or, take, drop}
use Rattle.basics.specs.Lists.{keep, any, same_numbers}
use Rattle.widths.specs.declared.Widths.{Widths}
use Rattle.format.specs.declared.kinds.RecordKind.{RecordKind}
use Rattle.format.specs.declared.kinds.RecordKind.TheVariants.{Widths as k_widths, Link as k_link, Miss as k_miss, Rule as k_rule, Node as k_node, Group as k_group, Unknown as k_no_record}
use Rattle.format.specs.declared.kinds.CommandKind.{CommandKind}
use Rattle.format.specs.declared.kinds.CommandKind.TheVariants.{Add as k_add, Modify as k_modify, Delete as k_delete, Unknown as k_no_command}
use Rattle.format.specs.declared.kinds.ActionKind.{ActionKind}
use Rattle.format.specs.declared.kinds.ActionKind.TheVariants.{Output as k_output, Set as k_set, InPort as k_in_port, RunGroup as k_run_group, Unknown as k_no_action}

-- a record is its 24 bytes
abbrev pub Rec : Type 0
Rec = List ℕ

-- a network is its records, in the order of the file
abbrev pub Net : Type 0
Net = List Rec

-- the largest network has 657 records
abbrev pub most_records : ℕ
most_records = 657

-- so a store has at least 15,768 bytes
abbrev pub store_bytes : ℕ
store_bytes = 15768

-- at most 256 rules
abbrev pub most_rules : ℕ
most_rules = 256

-- at most 8 policies
abbrev pub most_policies : ℕ
most_policies = 8

-- of at most 32 nodes each
abbrev pub most_nodes : ℕ
most_nodes = 32

-- at most 16 groups
abbrev pub most_groups : ℕ
most_groups = 16

-- a byte of a record
abbrev pub at : Rec → ℕ → ℕ
at r k = get_or r k 0

-- its kind: 1 widths, 2 link, 3 miss, 4 rule, 5 policy node, 9 group; 6 add, 7 modify, 8 delete
abbrev pub kind : Rec → ℕ
kind r = at r 0

-- the kind that a kind byte names: 1 to 5, and 9
unfoldable pub record_kind : ℕ → RecordKind
record_kind k = get_or (k_no_record ∷ k_widths ∷ k_link ∷ k_miss ∷ k_rule ∷ k_node ∷ k_no_record ∷ k_no_record ∷ k_no_record ∷ k_group ∷ []) k k_no_record

-- the kind that a kind byte names: from 6 on
unfoldable pub command_kind : ℕ → CommandKind
command_kind k = get_or (k_no_command ∷ k_no_command ∷ k_no_command ∷ k_no_command ∷ k_no_command ∷ k_no_command ∷ k_add ∷ k_modify ∷ k_delete ∷ []) k k_no_command

-- OUTPUT is 1, SET 2, IN_PORT 3, running a group 4
unfoldable pub action_kind : ℕ → ActionKind
action_kind k = get_or (k_no_action ∷ k_output ∷ k_set ∷ k_in_port ∷ k_run_group ∷ []) k k_no_action

-- the first n records of a store
unfoldable pub records : ℕ → List ℕ → Net
records zero s = []
records (suc n) s = take 24 s ∷ records n (drop 24 s)

-- the bytes of a network's records
unfoldable pub flat : Net → List ℕ
flat [] = []
flat (r ∷ rs) = r ++ flat rs

-- the records of a kind, in the order of the file
unfoldable pub of_kind : ℕ → Net → Net
of_kind k net = keep (λ r. eqb (kind r) k) net

-- a rule's priority, low byte first
unfoldable pub priority : Rec → ℕ
priority r = at r 2 + 256 * at r 3

-- the record r is the same rule as c: switch, priority, port pattern and header pattern, bytes 1 to 7, agree
unfoldable pub same_rule : Rec → Rec → Bool
same_rule c r = eqb (kind r) 4 && same_numbers (take 7 (drop 1 c)) (take 7 (drop 1 r))

-- the same rule as c is among the records
unfoldable pub present : Rec → Net → Bool
present c net = any (same_rule c) net

-- a link ends at the point of a switch and a port
unfoldable pub ends_at : ℕ → ℕ → Rec → Bool
ends_at sw p l = (eqb (at l 1) sw && eqb (at l 2) p) || (eqb (at l 3) sw && eqb (at l 4) p)

-- some link ends at a point
unfoldable pub linked : Net → ℕ → ℕ → Bool
linked net sw p = any (ends_at sw p) (of_kind 2 net)

-- the widths that the first record gives
unfoldable pub widths_of : Net → Widths
widths_of net = let r = get_or net 0 [] in record { h = at r 1; p = at r 2; w = at r 3 }
