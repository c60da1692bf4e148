-- The table of the groups that are there, and the last group, record by record.
use Rattle.std.proofs.Common.{eq-eqb, eqb-true, ne_eqb, sym, ap₂, ◌∙◌, arith}
use Rattle.std.specs.Prelude.{◌≡◌, Bool, false, not, ◌&&◌, ◌||◌, ℕ, ◌+◌, ◌-◌, ◌<◌, eqb, ltb, replicate}
use Rattle.std.proofs.Math.Path.{ap}
use Rattle.std.proofs.Math.Bool.{and-false, or_comm}
use mathlib.Core.List.{List, [], ◌∷◌, ◌++◌}
use Rattle.std.proofs.Math.ListN.{length, get_or, length-append}
use Rattle.std.proofs.Math.Seq.{get_or_at}
use Rattle.planes.specs.Plane.{bit}
use Rattle.planes.specs.Lines.{BitSet}
use Rattle.planes.specs.Laws.Lines.{no_bit, set_bit}
use Rattle.basics.specs.Laws.Tests.{same_test, and_both, both}
use Rattle.basics.specs.Lists.{keep, any}
use Rattle.format.specs.Record.{Rec, Net, at, kind, records, of_kind}
use Rattle.format.specs.Search.{record_at}
use Rattle.format.specs.Group.{is_group, has_group}
use Rattle.basics.specs.Laws.Lists.{keep_in, keep_out}
use Rattle.format.specs.Laws.Groups.{has_more}
use Rattle.format.specs.Laws.Kinds.{is_group_record, kind_count}
use Rattle.format.specs.Laws.Records.{records_more}
use Rattle.refusals.specs.Rows.{ascends, last_group, out_of_order}
use Rattle.rows.specs.Groups.{There, Noted, GroupsOf}
use Rattle.rows.specs.Table.{table_bit}
use Rattle.rows.specs.declared.groups.Groups.{Groups}

-- a record that is no group below 16 leaves the table
module _ (r : Rec) (table : List ℕ) where
  noted_none : ((sw g : ℕ) → sw < 16 → g < 16 → (is_group_record r && is_group sw g r) ≡ false) → Noted r table table
  noted_none f = record { is = λ sw g hs hg. rw (f sw g hs hg) }

  pub noted_other : (kind r ≡ 9 → ⊥) → Noted r table table
  noted_other n = noted_none (λ sw g hs hg. rw (ne_eqb (kind r) 9 n))

  pub noted_switch : 15 < at r 1 → Noted r table table
  unfolding is_group
  noted_switch h = noted_none (λ sw g hs hg. rw (ne_eqb (at r 1) sw (λ e. omega (arith, e)), and-false))

  pub noted_number : 15 < at r 2 → Noted r table table
  unfolding is_group
  noted_number h = noted_none (λ sw g hs hg. rw (ne_eqb (at r 2) g (λ e. omega (arith, e)), and-false, and-false))

-- no two numbers below 16 at switches have one bit
pub one_bit : (sw g a b : ℕ) → g < 16 → b < 16 → eqb (table_bit sw g) (table_bit a b) ≡ (eqb a sw && eqb b g)
one_bit sw g a b lg lb =
    same_test _ _
    (λ e. let q = eqb-true (table_bit sw g) (table_bit a b) e in and_both _ _ (eq-eqb a sw (omega (arith, q))) (eq-eqb b g (omega (arith, q))))
    (λ e. let q = both (eqb a sw) (eqb b g) e in eq-eqb _ _ (sym (ap₂ table_bit (eqb-true a sw q.0) (eqb-true b g q.1))))

-- one that is a group sets its bit
pub noted_group : (r : Rec) (a b : List ℕ) → kind r ≡ 9 → at r 1 < 16 → at r 2 < 16 → BitSet (table_bit (at r 1) (at r 2)) a b → Noted r a b
unfolding is_group
noted_group r a b k hs hg S = record {
  is = λ sw g ls lg.
      set_bit (table_bit (at r 1) (at r 2)) (table_bit sw g) a b S
      ∙ ap (λ (x : Bool). x || bit a (table_bit sw g)) (one_bit sw g (at r 1) (at r 2) lg hg ∙ sym (named sw g));
}
  where
    named : (sw g : ℕ) → (eqb (kind r) 9 && (eqb (at r 1) sw && eqb (at r 2) g)) ≡ (eqb (at r 1) sw && eqb (at r 2) g)
    named sw g = rw k

-- the table of the first records of a store: of none, and of one more
pub there_none : (s : List ℕ) → There (records 0 s) (replicate 32 0)
unfolding records has_group of_kind keep any
there_none s = record { is = λ sw g hs hg. no_bit 32 (table_bit sw g) }

pub there_more : (s : List ℕ) (i : ℕ) (a b : List ℕ) → There (records i s) a → Noted (record_at s i) a b → There (records (i + 1) s) b
there_more s i a b T N = record {
  is = λ sw g hs hg.
      let r = record_at s i in
      N.is sw g hs hg
      ∙ or_comm (is_group_record r && is_group sw g r) (bit a (table_bit sw g))
      ∙ ap (λ (x : Bool). x || (is_group_record r && is_group sw g r)) (T.is sw g hs hg)
      ∙ sym (has_more (records i s) r sw g)
      ∙ ap (λ (net : Net). has_group net sw g) (sym (records_more s i));
}

-- the last group, with one record more
module _ (net : Net) (r : Rec) where
  pub last_group_lem : kind r ≡ 9 → last_group (net ++ (r ∷ [])) ≡ r
  unfolding last_group of_kind
  last_group_lem k =
      let e = keep_in is_group_record net r (eq-eqb (kind r) 9 k) in
      let n : length (keep is_group_record net) ≡ length (keep is_group_record net ++ (r ∷ [])) - 1 = omega (arith, length-append (keep is_group_record net) (r ∷ [])) in
      ap (λ (groups : Net). get_or groups (length groups - 1) []) e ∙ get_or_at (keep is_group_record net) r [] [] (length (keep is_group_record net ++ (r ∷ [])) - 1) n

  pub last_same : (kind r ≡ 9 → ⊥) → last_group (net ++ (r ∷ [])) ≡ last_group net
  unfolding last_group of_kind
  last_same n = ap (λ (groups : Net). get_or groups (length groups - 1) []) (keep_out is_group_record net r (ne_eqb (kind r) 9 n))

-- the order by what is known of the groups before
pub order_by : (before : Net) (s : Groups) (r : Rec) → GroupsOf before s
    → out_of_order before r ≡ (ltb 0 s.count && not (ltb s.switch (at r 1) || (eqb s.switch (at r 1) && ltb s.number (at r 2))))
unfolding out_of_order ascends
order_by before s r G = rw (G.count, G.switch, G.number)

-- another record leaves what is known of the groups
pub groups_other : (before : Net) (s : Groups) → GroupsOf before s → (r : Rec) → (kind r ≡ 9 → ⊥) → GroupsOf (before ++ (r ∷ [])) s
groups_other before s G r n =
    let last = last_same before r n in
    record {
      count = G.count ∙ sym (kind_count 9 before r ∙ rw (ne_eqb (kind r) 9 n) (omega arith));
      switch = G.switch ∙ ap (λ (q : Rec). at q 1) (sym last);
      number = G.number ∙ ap (λ (q : Rec). at q 2) (sym last);
    }
