-- What rows 3 to 10 and 16 leave of the records of a clean network, by their places.
use Rattle.std.specs.Prelude.{◌≡◌, true, List, [], ◌⊎◌, ℕ, suc, ◌-◌, ◌≤◌, ◌<◌, length, get_or, take, drop}
use Rattle.std.proofs.Common.{sym, ap, ◌∙◌, arith, length-drop, take_all, length-take-le}
use Rattle.std.proofs.Math.Decide.{dec_lt}
use Rattle.format.specs.Record.{Rec, Net, at, kind, records, of_kind, most_nodes}
use Rattle.format.specs.Policy.{nodes_of, policy_count}
use Rattle.refusals.specs.Rows.{operands_good}
use Rattle.format.specs.Fields.{fields_good}
use Rattle.widths.specs.declared.Widths.{Widths}
use Rattle.scan.specs.declared.Layout.{Layout}
use Rattle.format.specs.Laws.Records.{length_records}
use Rattle.format.specs.Laws.Parts.{part, kind_at}
use Rattle.refusals.specs.Laws.Passing.{clean_at, ordered, node_operands, node_follows, node_room}
use Rattle.refusals.specs.Laws.Good.{clean_good}
use Rattle.scan.specs.Stored.{Stored, CleanStore}

-- what rows 9 and 10 leave of a policy node after the records before it
pub record NodeRows (before : Net) (r : Rec) : Type 0 where
  pub operands : operands_good (at r 2) (at r 3) (at r 4) (length (nodes_of (at r 1) before)) ≡ true
  pub follows : (suc (at r 1) ≡ policy_count before) ⊎ (at r 1 ≡ policy_count before)
  pub few : length (nodes_of (at r 1) before) < most_nodes

-- the nodes stand before the groups, and those before the end
pub parts_within : (end : ℕ) (l : Layout) (store : List ℕ) → Stored end l store → (l.nodes ≤ l.groups) × (l.groups ≤ end)
parts_within end l store S = (S.laid.within.0, omega (arith, S.laid.within, length_records end store))

module _ (end : ℕ) (l : Layout) (store : List ℕ) (C : CleanStore end l store) where
  abbrev net : Net
  net = records end store

  size : length net ≡ end
  size = length_records end store

  -- the nodes stand before the groups, and those before the end
  pub up_to_lem : (l.nodes ≤ l.groups) × (l.groups ≤ end)
  up_to_lem = (C.laid.within.0, omega (arith, C.laid.within, size))

  pub some_first : 1 ≤ l.nodes
  some_first = omega (arith, C.laid.some_widths, C.laid.switches, C.laid.few_rules)

  pub fields : (i : ℕ) → 1 ≤ i → i < end → fields_good l.widths (get_or net i []) ≡ true
  fields i h k = ap (λ (w : Widths). fields_good w (get_or net i [])) C.laid.widths ∙ clean_good net C.passes i h (omega (arith, size))

  pub stored : Stored end l store
  stored = record { room = C.room; laid = C.laid; fields = fields }

  pub node_kind_lem : (i : ℕ) → l.nodes ≤ i → i < l.groups → kind (get_or net i []) ≡ 5
  node_kind_lem i h k = kind_at 5 net l.nodes l.groups i C.laid.nodes C.laid.within.1 h k

  groups_part : of_kind 9 net ≡ part net l.groups end
  groups_part = C.laid.groups ∙ sym (take_all (end - l.groups) (drop l.groups net) (omega (arith, length-drop l.groups net, size)))

  -- nor behind the last
  pub group_kind : (i : ℕ) → l.groups ≤ i → i < end → kind (get_or net i []) ≡ 5 → ⊥
  group_kind i h k e = omega (arith, e, kind_at 9 net l.groups end i groups_part (omega (arith, size)) h k)

  -- no policy node stands before the first
  pub other_kind : (i : ℕ) → i < l.nodes → kind (get_or net i []) ≡ 5 → ⊥
  other_kind i h e = go (dec_lt i 1) (dec_lt i l.misses) (dec_lt i l.rules)
    where
      go : Dec (i < 1) → Dec (i < l.misses) → Dec (i < l.rules) → ⊥
      go (yes a) d f =
          let p = clean_at net i C.passes (omega (arith, size, up_to_lem)) in
          let none : length (take i net) ≡ 0 = length-take-le i net (omega (arith, size, up_to_lem)) ∙ omega arith in
          omega (arith, e, (ordered (take i net) (get_or net i []) p.not3).first none)
      go (no a) (yes b) f = omega (arith, e, kind_at 2 net 1 l.misses i C.laid.links (omega (arith, C.laid.switches, C.laid.few_rules, C.laid.within)) (omega arith) b)
      go (no a) (no b) (yes c) = omega (arith, e, kind_at 3 net l.misses l.rules i C.laid.misses (omega (arith, C.laid.few_rules, C.laid.within)) (omega arith) c)
      go (no a) (no b) (no c) = omega (arith, e, kind_at 4 net l.rules l.nodes i C.laid.rules (omega (arith, C.laid.within)) (omega arith) h)

  -- rows 9 and 10 of a policy node
  pub node_rows : (i : ℕ) → l.nodes ≤ i → i < l.groups → NodeRows (take i net) (get_or net i [])
  node_rows i h k =
      let p = clean_at net i C.passes (omega (arith, C.laid.within)) in
      let q = node_kind_lem i h k in
      record {
        operands = node_operands _ _ _ p q;
        follows = node_follows _ _ _ p q;
        few = (node_room _ _ _ p q).1;
      }
