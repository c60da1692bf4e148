-- The rows of the table "Where a call stops", in its order. Rows 3 to 10 and 16 speak of a record, the records before it and those after it,
-- and are consulted only where no lower row and no earlier record is at fault.
use Rattle.std.specs.Prelude.{Bool, true, false, not, ◌&&◌, ◌||◌, List, [], ◌∷◌, ◌++◌, ℕ, suc, ◌+◌, ◌-◌, ◌*◌, ◌^◌, eqb, leb, ltb, length, get_or}
use Rattle.format.specs.Record.{Rec, Net, most_records, store_bytes, at, kind, of_kind, present, linked, most_rules, most_policies, most_nodes, most_groups, widths_of}
use Rattle.format.specs.Group.{actions_there, groups_there}
use Rattle.widths.specs.Widths.{plane_bytes, within_limits}
use Rattle.format.specs.Version.{version_of, acting, is_add}
use Rattle.format.specs.State.{ordinary}
use Rattle.format.specs.Policy.{nodes_of, policy_count, formula, longest, free, node_kind}
use Rattle.format.specs.declared.kinds.NodeKind.{NodeKind}
use Rattle.format.specs.declared.kinds.Var.TheVariants.{Y}
use Rattle.format.specs.declared.kinds.NodeKind.TheVariants.{Bit as k_bit, R as k_r, E as k_e, Not as k_not, And as k_and, Or as k_or, Some as k_some, All as k_all, Tc as k_tc, Unknown as k_none}
use Rattle.format.specs.Fields.{fields_good, command_good}

-- row 1: n is 0 or above 657
unfoldable pub row1 : ℕ → Bool
row1 n = eqb n 0 || ltb most_records n

-- row 2: store under 15,768 bytes
unfoldable pub row2 : List ℕ → Bool
row2 store = ltb (length store) store_bytes

-- row 3: kind not 1–5 or 9, below the one before, first not 1, second kind 1
unfoldable pub row3 : Net → Rec → Bool
row3 before r =
    ltb (kind r) 1 || (ltb 5 (kind r) && not (eqb (kind r) 9))
    || ltb (kind r) (kind (get_or before (length before - 1) []))
    || (eqb (length before) 0 && not (eqb (kind r) 1))
    || (ltb 0 (length before) && eqb (kind r) 1)

-- row 4: H, P, W or N outside limits
unfoldable pub row4 : Rec → Bool
row4 r = eqb (kind r) 1 && not (within_limits (widths_of (r ∷ [])))

-- row 5: field outside its range or width, stray bit, nonzero unnamed byte, bad action; a group has row 16 in place of it
unfoldable pub row5 : Net → Rec → Bool
row5 before r = not (eqb (kind r) 9) && not (fields_good (widths_of before) r)

-- row 6: link with either end at a port not ordinary or at a point already linked, or with both ends the same point
unfoldable pub row6 : Net → Rec → Bool
row6 before r =
    let w = widths_of before in
    eqb (kind r) 2
    && (not (ordinary w (at r 2)) || not (ordinary w (at r 4))
    || linked before (at r 1) (at r 2) || linked before (at r 3) (at r 4)
    || (eqb (at r 1) (at r 3) && eqb (at r 2) (at r 4)))

-- there are fewer misses than switches; row 7 has each miss be that of the next switch, so that some switch then has none
unfoldable pub misses_incomplete : Net → Bool
misses_incomplete net = ltb (length (of_kind 3 net)) (2 ^ (widths_of net).w)

-- row 7: miss not the next switch, or misses incomplete at a record of a higher kind
unfoldable pub row7 : Net → Rec → Bool
row7 before r = (eqb (kind r) 3 && not (eqb (at r 1) (length (of_kind 3 before)))) || (ltb 3 (kind r) && misses_incomplete before)

-- row 8: same rule twice
unfoldable pub row8 : Net → Rec → Bool
row8 before r = eqb (kind r) 4 && present r before

-- the operands of a node of each kind are earlier ones than number i of its policy
abbrev pub operands_earlier : NodeKind → ℕ → ℕ → ℕ → Bool
operands_earlier k_bit a b i = true
operands_earlier k_r a b i = true
operands_earlier k_e a b i = true
operands_earlier k_not a b i = ltb a i
operands_earlier k_and a b i = ltb a i && ltb b i
operands_earlier k_or a b i = ltb a i && ltb b i
operands_earlier k_some a b i = ltb a i
operands_earlier k_all a b i = ltb a i
operands_earlier k_tc a b i = ltb a i
operands_earlier k_none a b i = false

-- the operands of a node whose byte 2 is k
unfoldable pub operands_good : ℕ → ℕ → ℕ → ℕ → Bool
operands_good k a b i = operands_earlier (node_kind k) a b i

-- the next record is not kind 5 with the same byte 1
unfoldable pub ends_policy : Rec → Net → Bool
ends_policy r [] = true
ends_policy r (s ∷ after) = not (eqb (kind s) 5 && eqb (at s 1) (at r 1))

-- Y is free at the node that r is, after its policy's nodes before it
unfoldable pub free_at : Net → Rec → Bool
free_at before r = let nodes = nodes_of (at r 1) before in free Y (formula (nodes ++ (r ∷ [])) (length nodes))

-- row 9: operand not earlier; policy neither the last nor one more; Y free at a policy's last node
unfoldable pub row9 : Net → Rec → Net → Bool
row9 before r after =
    eqb (kind r) 5
    && (not (operands_good (at r 2) (at r 3) (at r 4) (length (nodes_of (at r 1) before)))
    || not (eqb (suc (at r 1)) (policy_count before) || eqb (at r 1) (policy_count before))
    || (ends_policy r after && free_at before r))

-- row 10: 257th rule, ninth policy, 33rd node
unfoldable pub row10 : Net → Rec → Bool
row10 before r =
    (eqb (kind r) 4 && leb most_rules (length (of_kind 4 before)))
    || (eqb (kind r) 5 && (leb most_policies (at r 1) || leb most_nodes (length (nodes_of (at r 1) before))))

-- a group stands before another: by switch, then by number
unfoldable pub ascends : Rec → Rec → Bool
ascends q r = ltb (at q 1) (at r 1) || (eqb (at q 1) (at r 1) && ltb (at q 2) (at r 2))

-- the last group
unfoldable pub last_group : Net → Rec
last_group net = let groups = of_kind 9 net in get_or groups (length groups - 1) []

-- there is a group before, and the last one does not stand before r
unfoldable pub out_of_order : Net → Rec → Bool
out_of_order before r = ltb 0 (length (of_kind 9 before)) && not (ascends (last_group before) r)

-- row 16: group fields faulty, in place of 5 (a bucket's group that is not lower among them), or out of order, a 17th group, or a rule, miss or bucket
-- naming a group that no record of its switch has
unfoldable pub row16 : Net → Rec → Net → Bool
row16 before r after =
    (eqb (kind r) 9 && (not (fields_good (widths_of before) r) || out_of_order before r || leb most_groups (length (of_kind 9 before))))
    || not (groups_there (before ++ (r ∷ after)) r)

-- the work that a verdict needs: a plane for each node of the longest policy, and two more
unfoldable pub work_needed : Net → ℕ
work_needed net = (longest net + 2) * plane_bytes (widths_of net)

-- row 11: work too short
unfoldable pub row11 : Net → ℕ → Bool
row11 net work = ltb work (work_needed net)

-- row 12: not 24 bytes, kind not 6–8, or field fault as in 5
unfoldable pub row12 : Net → Rec → Bool
row12 net c = not (eqb (length c) 24) || ltb (kind c) 6 || ltb 8 (kind c) || not (command_good (widths_of net) c)

-- row 16 of a command: it names a group that no record of its switch has
unfoldable pub row16_command : Net → Rec → Bool
row16_command net c = not (actions_there net c)

-- row 13: add of a new rule with 256 present; in 1.0 a modify of a new rule acts as one
unfoldable pub row13 : Net → Rec → Bool
row13 net c = is_add (acting (version_of net) c net) && not (present c net) && leb most_rules (length (of_kind 4 net))
