-- A record of a kind, with those of its kind before and after it, and where each kind may stand.
use borrow.Author.Tests.{eq-eqb, lt-leb}
use Rattle.std.specs.Prelude.{◌≡◌, Bool, true, false, cond, ℕ, ◌<◌, ◌≤◌, eqb, length}
use Rattle.std.proofs.Math.Path.{refl}
use Rattle.std.proofs.Common.{sym, ap, subst, subst₂, ◌∙◌, arith}
use Rattle.std.proofs.Math.Bool.{and-false}
use mathlib.Core.List.{[], ◌∷◌, ◌++◌, append-nil, append_assoc, nil≢cons, head-eq_of_cons-eq, tail-eq_of_cons-eq}
use Rattle.std.proofs.Math.Option.{none}
use Rattle.basics.specs.Lists.{keep}
use Rattle.basics.specs.Laws.Lists.{keep_in, keep_out}
use Rattle.format.specs.Record.{Rec, Net, at, kind, most_groups, of_kind, widths_of}
use Rattle.format.specs.Group.{groups_there}
use Rattle.format.specs.Fields.{fields_good}
use Rattle.format.specs.Laws.Groups.{link_there, node_there}
use Rattle.format.specs.Laws.Kinds.{last_kind}
use Rattle.refusals.specs.Rows.{row4, row5, row6, row7, row8, row9, row10, row16, misses_incomplete, out_of_order}
use Rattle.refusals.specs.Refusal.{file_row}
use Rattle.refusals.specs.Laws.Passing.{Passes, ordered_later, file_step}

-- a record of a kind, with those of its kind before and after it
pub record Among (k : ℕ) (net xs : Net) (x : Rec) (ys : Net) : Type 0 where
  pub before : Net
  pub after : Net
  pub passes : Passes before x after
  pub later : file_row (before ++ (x ∷ [])) after ≡ none
  pub parts : net ≡ before ++ (x ∷ after)
  pub front : of_kind k before ≡ xs
  pub behind : of_kind k after ≡ ys

module _ (k : ℕ) (x : Rec) (ys : Net) where
  among_from : (rest before xs : Net) → file_row before rest ≡ none → of_kind k rest ≡ xs ++ (x ∷ ys) → Among k (before ++ rest) (of_kind k before ++ xs) x ys
  unfolding of_kind keep
  among_from [] before [] e q = absurd (nil≢cons q)
  among_from [] before (z ∷ xs) e q = absurd (nil≢cons q)
  among_from (y ∷ rest) before xs e q = go (eqb (kind y) k) refl xs q (λ zs u v. among_from rest (before ++ (y ∷ [])) zs u v)
    where
      t : Passes before y rest × (file_row (before ++ (y ∷ [])) rest ≡ none)
      t = file_step before y rest e

      whole : (before ++ (y ∷ [])) ++ rest ≡ before ++ (y ∷ rest)
      whole = append_assoc before (y ∷ []) rest

      go : (b : Bool) → eqb (kind y) k ≡ b → (xs : Net) → ◌≡◌ {A = Net} (cond b (y ∷ of_kind k rest) (of_kind k rest)) (xs ++ (x ∷ ys))
          → ((zs : Net) → file_row (before ++ (y ∷ [])) rest ≡ none → of_kind k rest ≡ zs ++ (x ∷ ys) → Among k ((before ++ (y ∷ [])) ++ rest) (of_kind k (before ++ (y ∷ [])) ++ zs) x ys)
          → Among k (before ++ (y ∷ rest)) (of_kind k before ++ xs) x ys
      go true b [] q ih =
          let here : y ≡ x = head-eq_of_cons-eq q in
          record {
            before = before;
            after = rest;
            passes = subst (λ (r : Rec). Passes before r rest) here t.0;
            later = subst (λ (r : Rec). file_row (before ++ (r ∷ [])) rest ≡ none) here t.1;
            parts = ap (λ (r : Rec). before ++ (r ∷ rest)) here;
            front = sym (append-nil (of_kind k before));
            behind = tail-eq_of_cons-eq q;
          }
      go true b (z ∷ zs) q ih =
          subst₂ (λ (n l : Net). Among k n l x ys) whole
          (ap (λ (l : Net). l ++ zs) (keep_in (λ r. eqb (kind r) k) before y b) ∙ append_assoc (of_kind k before) (y ∷ []) zs ∙ ap (λ (r : Rec). of_kind k before ++ (r ∷ zs)) (head-eq_of_cons-eq q))
          (ih zs t.1 (tail-eq_of_cons-eq q))
      go false b zs q ih =
          subst₂ (λ (n l : Net). Among k n l x ys) whole (ap (λ (l : Net). l ++ zs) (keep_out (λ r. eqb (kind r) k) before y b)) (ih zs t.1 q)

  pub among : (net xs : Net) → file_row [] net ≡ none → xs ++ (x ∷ ys) ≡ of_kind k net → Among k net xs x ys
  unfolding of_kind keep
  among net xs e q = among_from net [] xs e (sym q)

-- a record of each kind where it may stand
module _ (before : Net) (r : Rec) (after : Net) (some : 0 < length before) where
  pub link_passes : last_kind before ≤ 2 → kind r ≡ 2 → fields_good (widths_of before) r ≡ true → row6 before r ≡ false → Passes before r after
  unfolding row4 row5 row7 row8 row9 row10 row16
  link_passes l k good six = record {
    not3 = ordered_later before r some (omega arith) (λ g. absurd (omega arith)) (omega arith);
    not4 = rw k;
    not5 = rw (good, and-false);
    not6 = six;
    not7 = rw k;
    not8 = rw k;
    not9 = rw k;
    not10 = rw k;
    not16 = rw (link_there (before ++ (r ∷ after)) r k, k);
  }

  pub miss_passes : last_kind before ≤ 3 → kind r ≡ 3 → fields_good (widths_of before) r ≡ true → at r 1 ≡ length (of_kind 3 before) → groups_there (before ++ (r ∷ after)) r ≡ true → Passes before r after
  unfolding row4 row5 row6 row7 row8 row9 row10 row16
  miss_passes l k good next there = record {
    not3 = ordered_later before r some (omega arith) (λ g. absurd (omega arith)) (omega arith);
    not4 = rw k;
    not5 = rw (good, and-false);
    not6 = rw k;
    not7 = rw (k, eq-eqb (at r 1) (length (of_kind 3 before)) next);
    not8 = rw k;
    not9 = rw k;
    not10 = rw k;
    not16 = rw (there, k);
  }

  pub node_passes : last_kind before ≤ 5 → kind r ≡ 5 → fields_good (widths_of before) r ≡ true → misses_incomplete before ≡ false → row9 before r after ≡ false → row10 before r ≡ false → Passes before r after
  unfolding row4 row5 row6 row7 row8 row16
  node_passes l k good misses nine ten = record {
    not3 = ordered_later before r some (omega arith) (λ g. absurd (omega arith)) (omega arith);
    not4 = rw k;
    not5 = rw (good, and-false);
    not6 = rw k;
    not7 = rw (k, misses);
    not8 = rw k;
    not9 = nine;
    not10 = ten;
    not16 = rw (node_there (before ++ (r ∷ after)) r k, k);
  }

  pub group_passes : last_kind before ≤ 9 → kind r ≡ 9 → fields_good (widths_of before) r ≡ true → misses_incomplete before ≡ false → out_of_order before r ≡ false → length (of_kind 9 before) < most_groups
      → groups_there (before ++ (r ∷ after)) r ≡ true → Passes before r after
  unfolding row4 row5 row6 row7 row8 row9 row10 row16
  group_passes l k good misses order room there = record {
    not3 = ordered_later before r some (omega arith) (λ g. k) (omega arith);
    not4 = rw k;
    not5 = rw (good, and-false);
    not6 = rw k;
    not7 = rw (k, misses);
    not8 = rw k;
    not9 = rw k;
    not10 = rw k;
    not16 = rw (there, good, order, lt-leb most_groups (length (of_kind 9 before)) room, and-false);
  }
