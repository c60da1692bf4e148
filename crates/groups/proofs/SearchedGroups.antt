-- The search for the record of a group: it is the first from place i on.
use borrow.Author.Tests.{eqb-true}
use mathlib.Core.Path.{◌≡◌, sym, ap, ◌∙◌}
use mathlib.Core.Bool.{Bool, true, false}
use mathlib.Core.List.{List, [], ◌∷◌}
use Prim.Native.Nat.{ℕ, ◌+◌, ◌<◌, ◌≤◌}
use native.Mathlib.Numerals.{add-one}
use native.Mathlib.Omega.{arith}
use lib.Dec.{eqb}
use lib.ListN.{length, get_or, drop, drop_of_length-le}
use lib.Seq.{drop-cons}
use Rattle.basics.specs.Laws.Tests.{and_right}
use Rattle.format.specs.Record.{Rec, Net, at, records}
use Rattle.format.specs.Group.{is_group}
use Rattle.format.specs.Search.{first_at, record_at}
use Rattle.format.specs.Laws.Records.{length_records, record_at_lem}
use Rattle.scan.specs.declared.Layout.{Layout}
use Rattle.scan.specs.Stored.{Stored}
use Rattle.choice.specs.Laws.GoodRecords.{groups_at}
use Rattle.onestep.specs.Groups.{group_record}
use Rattle.groups.specs.ByPlace.{GroupAt}

-- the first of some records that is group g of a switch
abbrev first_of : Net → ℕ → ℕ → Rec
first_of rs sw g = get_or rs (first_at (is_group sw g) rs) []

-- the record of group g is the first that is it from place i on
pub record Sought (n : ℕ) (s : List ℕ) (sw g i : ℕ) : Type 0 where
  pub first : group_record (records n s) sw g ≡ first_of (drop i (records n s)) sw g

module _ (n : ℕ) (s : List ℕ) (sw g : ℕ) where
  abbrev net : Net
  net = records n s

  pub sought_all : (l : Layout) → Stored n l s → Sought n s sw g l.groups
  unfolding group_record
  sought_all l st = record { first = ap (λ (rs : Net). first_of rs sw g) (groups_at n l s st) }

  pub sought_none : (i : ℕ) → n ≤ i → Sought n s sw g i → group_record (records n s) sw g ≡ []
  sought_none i h S =
      let m : length (records n s) ≤ i = omega (arith, length_records n s) in
      S.first ∙ ap (λ (rs : Net). first_of rs sw g) (drop_of_length-le net m)

  -- a test of record i, a part of the store
  module _ (i : ℕ) (h : i < n) (S : Sought n s sw g i) (r : Rec) (is : r ≡ record_at s i) (t : Bool) (e : t ≡ is_group sw g r) where
    tested : (b : Bool) → t ≡ b → is_group sw g (get_or net i []) ≡ b
    tested b q = ap (is_group sw g) (record_at_lem n s i h ∙ sym is) ∙ sym e ∙ q

    left : group_record (records n s) sw g ≡ first_of (get_or net i [] ∷ drop (i + 1) net) sw g
    left = S.first ∙ ap (λ (rs : Net). first_of rs sw g) (drop-cons net i [] (omega (arith, length_records n s)) ∙ ap (λ (k : ℕ). get_or net i [] ∷ drop k net) (sym (add-one i)))

    pub sought_here : (l : Layout) → l.groups ≤ i → t ≡ true → GroupAt (records n s) l sw g i
    unfolding first_at is_group
    sought_here l low q = record {
      is = left ∙ rw (tested true q);
      number = eqb-true (at (get_or net i []) 2) g (and_right (eqb (at (get_or net i []) 1) sw) (eqb (at (get_or net i []) 2) g) (tested true q));
      low = low;
      high = omega (arith, length_records n s);
    }

    pub sought_next : t ≡ false → Sought n s sw g (i + 1)
    unfolding first_at
    sought_next q = record { first = left ∙ rw (tested false q) }
