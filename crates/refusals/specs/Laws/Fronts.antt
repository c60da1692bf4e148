-- Records that no row refuses are refused by none after a front that reads alike.
use Rattle.std.specs.Prelude.{◌≡◌, Bool, ◌&&◌, ◌||◌, [], ◌∷◌, ◌++◌, ℕ, ◌<◌, ◌≤◌, length, get_or}
use Rattle.std.proofs.Math.Path.{refl, sym, ap, subst⁻¹}
use Rattle.std.proofs.Common.{subst, subst₂, ◌∙◌, append_assoc, append-nil, arith, length-append}
use Rattle.std.proofs.Math.Bool.{true, false}
use Rattle.std.proofs.Math.Option.{none}
use borrow.Author.Tests.{leb-false, lt-leb}
use Rattle.std.proofs.Math.Dec.{leb}
use Rattle.std.proofs.Math.ListN.{get_or-append}
use Rattle.basics.specs.Laws.Tests.{or_none, or_left, or_right}
use Rattle.basics.specs.Lists.{any, all}
use Rattle.format.specs.Record.{Rec, Net, at, kind, of_kind, present, linked, most_rules, most_policies, most_nodes, widths_of}
use Rattle.format.specs.Policy.{nodes_of}
use Rattle.refusals.specs.Rows.{row5, row6, row7, row8, row9, row10, row16, misses_incomplete, free_at, last_group, out_of_order}
use Rattle.refusals.specs.Refusal.{file_row}
use Rattle.format.specs.Laws.Groups.{there_alike}
use Rattle.format.specs.Laws.Kinds.{is_rule, is_node, last_kind, kinds-append, kind_count, rules_only, nodes_alike, policies_alike, present-append, widths_first, last_kind_lem}
use Rattle.refusals.specs.Laws.Passing.{Passes, ordered, ordered_later, file_step, step_file, file_end, end_file}

-- two fronts that differ in rules alone
pub record Alike (p p' : Net) : Type 0 where
  pub some : 0 < length p
  pub some' : 0 < length p'
  pub first : get_or p' 0 [] ≡ get_or p 0 []
  pub same : (k : ℕ) → (k ≡ 4 → ⊥) → of_kind k p' ≡ of_kind k p

-- the second has no rule that the first has not, and not more of them
pub record Fewer (p p' : Net) : Type 0 where
  pub count : length (of_kind 4 p') ≤ length (of_kind 4 p)
  pub absent : (q : Rec) → present q p ≡ false → present q p' ≡ false

widths_kept : (p p' : Net) → Alike p p' → widths_of p' ≡ widths_of p
widths_kept p p' a = widths_first p' p a.first

misses_kept : (p p' : Net) → Alike p p' → misses_incomplete p' ≡ misses_incomplete p
unfolding misses_incomplete
misses_kept p p' a = rw (widths_kept p p' a, a.same 3 (λ q. omega arith))

-- a record after an alike front
module _ (p p' : Net) (r : Rec) (after : Net) (a : Alike p p') where
  kept_6 : row6 p' r ≡ row6 p r
  unfolding row6 linked
  kept_6 = rw (widths_kept p p' a, a.same 2 (λ q. omega arith))

  kept_7 : row7 p' r ≡ row7 p r
  unfolding row7
  kept_7 = rw (misses_kept p p' a, a.same 3 (λ q. omega arith))

  kept_9 : row9 p' r after ≡ row9 p r after
  unfolding row9 free_at
  kept_9 = let same = a.same 5 (λ q. omega arith) in rw (policies_alike p' p same, nodes_alike p' p same (at r 1))

  kept_16 : row16 p' r after ≡ row16 p r after
  unfolding row16 out_of_order last_group
  kept_16 =
      let same = a.same 9 (λ q. omega arith) in
      rw (
        widths_kept p p' a,
        same,
        there_alike (p' ++ (r ∷ after)) (p ++ (r ∷ after))
            (kinds-append 9 p' (r ∷ after) ∙ ap (λ (l : Net). l ++ of_kind 9 (r ∷ after)) same ∙ sym (kinds-append 9 p (r ∷ after))) r,
      )

  kept_8 : (is_rule r ≡ true → Fewer p p') → row8 p r ≡ false → row8 p' r ≡ false
  unfolding row8
  kept_8 f e = go (is_rule r) f e
    where
      go : (b : Bool) → (b ≡ true → Fewer p p') → (b && present r p) ≡ false → (b && present r p') ≡ false
      go true f e = (f refl).absent r e
      go false f e = refl

  kept_10 : (is_rule r ≡ true → Fewer p p') → row10 p r ≡ false → row10 p' r ≡ false
  unfolding row10
  kept_10 f e =
      let nodes = is_node r && (leb most_policies (at r 1) || leb most_nodes (length (nodes_of (at r 1) p))) in
      let t = or_none (is_rule r && leb most_rules (length (of_kind 4 p))) nodes e in
      rw (go (is_rule r) f t.0, nodes_alike p' p (a.same 5 (λ q. omega arith)) (at r 1)) t.1
    where
      go : (b : Bool) → (b ≡ true → Fewer p p') → (b && leb most_rules (length (of_kind 4 p))) ≡ false → (b && leb most_rules (length (of_kind 4 p'))) ≡ false
      go true f e = lt-leb most_rules (length (of_kind 4 p')) (omega (arith, (f refl).count, leb-false most_rules (length (of_kind 4 p)) e))
      go false f e = refl

  kept : last_kind p' ≤ kind r → (is_rule r ≡ true → Fewer p p') → Passes p r after → Passes p' r after
  unfolding row5
  kept order f s =
      let t = ordered p r s.not3 in
      let one : (kind r ≡ 1 → ⊥) = t.later a.some in
      record {
        not3 = ordered_later p' r a.some' (omega (arith, t.low, one)) t.group order;
        not4 = s.not4;
        not5 = rw (widths_kept p p' a) s.not5;
        not6 = kept_6 ∙ s.not6;
        not7 = kept_7 ∙ s.not7;
        not8 = kept_8 f s.not8;
        not9 = kept_9 ∙ s.not9;
        not10 = kept_10 f s.not10;
        not16 = kept_16 ∙ s.not16;
      }

-- fronts stay alike with the same records more
alike_more : (p p' more : Net) → Alike p p' → Alike (p ++ more) (p' ++ more)
alike_more p p' more a = record {
  some = omega (arith, length-append p more, a.some);
  some' = omega (arith, length-append p' more, a.some');
  first = get_or-append p' more [] 0 a.some' ∙ a.first ∙ sym (get_or-append p more [] 0 a.some);
  same = λ k h. kinds-append k p' more ∙ ap (λ (l : Net). l ++ of_kind k more) (a.same k h) ∙ sym (kinds-append k p more);
}

fewer_more : (p p' : Net) (r : Rec) → Fewer p p' → Fewer (p ++ (r ∷ [])) (p' ++ (r ∷ []))
fewer_more p p' r f = record {
  count = omega (arith, kind_count 4 p r, kind_count 4 p' r, f.count);
  absent = λ q e.
      let t = or_none (present q p) (present q (r ∷ [])) (sym (present-append q p (r ∷ [])) ∙ e) in
      present-append q p' (r ∷ []) ∙ rw (f.absent q t.0) t.1;
}

-- the first of some records is of no kind below k
abbrev pub From : ℕ → Net → Type 0
From k [] = Unit {0}
From k (r ∷ rest) = k ≤ kind r

pub from_last : (p rest : Net) → file_row p rest ≡ none → From (last_kind p) rest
from_last p [] e = tt
from_last p (r ∷ rest) e = (ordered p r (file_step p r rest e).0.not3).ascends

-- all that follows
pub rest_kept : (rest p p' : Net) → Alike p p' → From (last_kind p') rest → (any is_rule rest ≡ true → Fewer p p') → file_row p rest ≡ none → file_row p' rest ≡ none
unfolding any
rest_kept [] p p' a l f e = end_file p' (misses_kept p p' a ∙ file_end p e)
rest_kept (r ∷ rest) p p' a l f e =
    let t = file_step p r rest e in
    let last : last_kind (p ++ (r ∷ [])) ≡ last_kind (p' ++ (r ∷ [])) = last_kind_lem p r ∙ sym (last_kind_lem p' r) in
    step_file p' r rest (kept p p' r rest a l (λ q. f (or_left (is_rule r) (any is_rule rest) q)) t.0)
    (rest_kept rest (p ++ (r ∷ [])) (p' ++ (r ∷ [])) (alike_more p p' (r ∷ []) a)
    (subst (λ (k : ℕ). From k rest) last (from_last (p ++ (r ∷ [])) rest t.1))
    (λ q. fewer_more p p' r (f (or_right (is_rule r) (any is_rule rest) q))) t.1)

-- networks that differ in what follows have the same groups if that has
pub same_behind : (xs rest' rest : Net) → of_kind 9 rest' ≡ of_kind 9 rest → of_kind 9 (xs ++ rest') ≡ of_kind 9 (xs ++ rest)
same_behind xs rest' rest same = kinds-append 9 xs rest' ∙ ap (λ (l : Net). of_kind 9 xs ++ l) same ∙ sym (kinds-append 9 xs rest)

-- of what follows, only row 9, which is of nodes, looks at more than the groups
other_after : (p : Net) (r : Rec) (after after' : Net) → is_node r ≡ false → of_kind 9 after' ≡ of_kind 9 after → Passes p r after → Passes p r after'
unfolding row9 row16
other_after p r after after' n same s = record {
  not3 = s.not3;
  not4 = s.not4;
  not5 = s.not5;
  not6 = s.not6;
  not7 = s.not7;
  not8 = s.not8;
  not9 = rw n;
  not10 = s.not10;
  not16 = rw (there_alike (p ++ (r ∷ after')) (p ++ (r ∷ after)) (same_behind p (r ∷ after') (r ∷ after) (same_behind (r ∷ []) after' after same)) r) s.not16;
}

-- a front without nodes passes whatever follows with the same groups, if that does
pub front_kept : (xs p rest rest' : Net) → any is_node xs ≡ false → of_kind 9 rest' ≡ of_kind 9 rest → file_row p (xs ++ rest) ≡ none → file_row (p ++ xs) rest' ≡ none
    → file_row p (xs ++ rest') ≡ none
unfolding any
front_kept [] p rest rest' n same e f = subst (λ (l : Net). file_row l rest' ≡ none) (append-nil p) f
front_kept (x ∷ xs) p rest rest' n same e f =
    let t = file_step p x (xs ++ rest) e in
    let m = or_none (is_node x) (any is_node xs) n in
    step_file p x (xs ++ rest') (other_after p x (xs ++ rest) (xs ++ rest') m.0 (same_behind xs rest' rest same) t.0)
    (front_kept xs (p ++ (x ∷ [])) rest rest' m.1 same t.1 (subst⁻¹ (λ (l : Net). file_row l rest' ≡ none) (append_assoc p (x ∷ []) xs) f))

-- what follows a front passes after it
pub after_front : (xs p rest : Net) → file_row p (xs ++ rest) ≡ none → file_row (p ++ xs) rest ≡ none
after_front [] p rest e = subst⁻¹ (λ (l : Net). file_row l rest ≡ none) (append-nil p) e
after_front (x ∷ xs) p rest e =
    subst (λ (l : Net). file_row l rest ≡ none) (append_assoc p (x ∷ []) xs) (after_front xs (p ++ (x ∷ [])) rest (file_step p x (xs ++ rest) e).1)

-- rules behind a front do not change how it reads
pub alike_rules : (xs old new : Net) → 0 < length xs → all is_rule old ≡ true → all is_rule new ≡ true → Alike (xs ++ old) (xs ++ new)
alike_rules xs old new h o n = record {
  some = omega (arith, length-append xs old);
  some' = omega (arith, length-append xs new);
  first = get_or-append xs new [] 0 h ∙ sym (get_or-append xs old [] 0 h);
  same = λ k q. kinds-append k xs new ∙ ap (λ (l : Net). of_kind k xs ++ l) (rules_only k q new n ∙ sym (rules_only k q old o)) ∙ sym (kinds-append k xs old);
}

-- nor, between a front and a back, how the whole reads
pub alike_between : (xs old new back : Net) → 0 < length xs → all is_rule old ≡ true → all is_rule new ≡ true → Alike (xs ++ (old ++ back)) (xs ++ (new ++ back))
alike_between xs old new back h o n =
    subst₂ Alike (append_assoc xs old back) (append_assoc xs new back) (alike_more (xs ++ old) (xs ++ new) back (alike_rules xs old new h o n))
