-- A network that rows 3 to 10 and 16 pass is passed again with a rule replaced, removed or inserted.
use Rattle.std.specs.Prelude.{◌≡◌, Bool, true, false, cond, not, ◌&&◌, ◌||◌, ℕ, ◌+◌, ◌<◌, ◌≤◌, eqb, length, take, drop}
use Rattle.std.proofs.Math.Path.{refl, subst⁻¹}
use Rattle.std.proofs.Common.{sym, ap, subst, ◌∙◌, arith, ne_eqb}
use Rattle.std.proofs.Math.Bool.{and-false}
use mathlib.Core.List.{List, [], ◌∷◌, ◌++◌, append_assoc, append-nil}
use Rattle.std.proofs.Math.Option.{none}
use Rattle.std.proofs.lemmas.Bool.{lt-leb}
use Rattle.basics.specs.Laws.Tests.{not_both, or_none}
use Rattle.basics.specs.Lists.{keep, any, all, same_numbers}
use Rattle.format.specs.Record.{Rec, Net, kind, of_kind, same_rule, present, most_rules, widths_of}
use Rattle.format.specs.Group.{groups_there}
use Rattle.refusals.specs.Rows.{row4, row5, row6, row7, row8, row9, row10, row16, misses_incomplete}
use Rattle.format.specs.Fields.{fields_good}
use Rattle.refusals.specs.Refusal.{file_row}
use Rattle.format.specs.Laws.Records.{Whole, whole_join, whole_parts}
use Rattle.format.specs.Laws.Groups.{there_alike}
use Rattle.format.specs.Laws.Kinds.{is_rule, is_node, last_kind, kinds-append, kind_count, rules_only, present-append, last_kind_lem}
use Rattle.refusals.specs.Laws.Passing.{Passes, ordered, ordered_later, fields_good_lem, misses_before, rule_new, rule_room, file_step, step_file, file_end, not_empty, no_node_before, no_rule_after}
use Rattle.refusals.specs.Laws.Fronts.{Alike, From, from_last, rest_kept, same_behind, front_kept, after_front, alike_rules, alike_between}

-- what makes two rules the same rule: bytes 1 to 7
abbrev pub match_of : Rec → List ℕ
match_of r = take 7 (drop 1 r)

pub present_match : (q r : Rec) (net : Net) → match_of q ≡ match_of r → present q net ≡ present r net
unfolding present same_rule
present_match q r net e = ap (λ (m : List ℕ). any (λ x. eqb (kind x) 4 && same_numbers m (match_of x)) net) e

present_one : (q r r' : Rec) → kind r ≡ kind r' → match_of r ≡ match_of r' → present q (r ∷ []) ≡ present q (r' ∷ [])
unfolding present same_rule any
present_one q r r' k e = rw (k, e)

from_lower : (j k : ℕ) (rest : Net) → j ≤ k → From k rest → From j rest
from_lower j k [] h f = tt
from_lower j k (r ∷ rest) h f = omega arith

-- a rule where a rule may stand
module _ (front : Net) (r : Rec) (back : Net) where
  pub rule_passes : 0 < length front → last_kind front ≤ 4 → kind r ≡ 4 → fields_good (widths_of front) r ≡ true → misses_incomplete front ≡ false
      → present r front ≡ false → length (of_kind 4 front) < most_rules → groups_there (front ++ (r ∷ back)) r ≡ true → Passes front r back
  unfolding row4 row5 row6 row7 row8 row9 row10 row16
  rule_passes h l q good misses absent room there = record {
    not3 = ordered_later front r h (omega arith) (λ g. absurd (omega arith)) (omega arith);
    not4 = rw q;
    not5 = rw (good, and-false);
    not6 = rw q;
    not7 = rw (misses, q);
    not8 = rw (absent, q);
    not9 = rw q;
    not10 = rw (lt-leb most_rules (length (of_kind 4 front)) room, q);
    not16 = rw (there, q);
  }

  -- what is known of one that stands
  pub record Rule : Type 0 where
    pub some : 0 < length front
    pub last : last_kind front ≤ 4
    pub good : fields_good (widths_of front) r ≡ true
    pub misses : misses_incomplete front ≡ false
    pub absent : present r front ≡ false
    pub room : length (of_kind 4 front) < most_rules

  pub rule_stands : kind r ≡ 4 → Passes front r back → Rule
  rule_stands q s =
      let t = ordered front r s.not3 in
      record {
        some = let z : (length front ≡ 0 → ⊥) = λ z. omega (arith, t.first z) in omega (arith, z);
        last = omega (arith, t.ascends);
        good = fields_good_lem front r back s;
        misses = misses_before front r back s (omega arith);
        absent = rule_new front r back s q;
        room = rule_room front r back s q;
      }

-- a network and what it becomes: it passes again, reads alike but for its rules, and has whole records
pub record PassesStill (net net' : Net) : Type 0 where
  pub passes : file_row [] net' ≡ none
  pub alike : Alike net net'
  pub whole : Whole net'

one_rule : (r : Rec) → kind r ≡ 4 → all is_rule (r ∷ []) ≡ true
unfolding all
one_rule r k = rw k

no_rules : all is_rule [] ≡ true
unfolding all
no_rules = refl

-- rules before them add no group to some records
groups_after : (rules back : Net) → all is_rule rules ≡ true → of_kind 9 (rules ++ back) ≡ of_kind 9 back
groups_after rules back e = kinds-append 9 rules back ∙ ap (λ (l : Net). l ++ of_kind 9 back) (rules_only 9 (λ q. omega arith) rules e)

one_more : (front : Net) (r : Rec) → kind r ≡ 4 → length (of_kind 4 (front ++ (r ∷ []))) ≡ length (of_kind 4 front) + 1
one_more front r k = kind_count 4 front r ∙ rw k

-- a rule of a network replaced by one with the same match, or removed
module _ (front : Net) (r : Rec) (back : Net) (q : kind r ≡ 4) (whole : Whole (front ++ (r ∷ back))) (e : file_row [] (front ++ (r ∷ back)) ≡ none) where
  here : Passes front r back × (file_row (front ++ (r ∷ [])) back ≡ none)
  here = file_step front r back (after_front front [] (r ∷ back) e)

  pub stands : Rule front r back
  stands = rule_stands front r back q here.0

  no_node : any is_node front ≡ false
  no_node = no_node_before front [] r back q e

  replaced_passes : (r' : Rec) → kind r' ≡ 4 → match_of r' ≡ match_of r → fields_good (widths_of front) r' ≡ true → groups_there (front ++ (r ∷ back)) r' ≡ true
      → file_row [] (front ++ (r' ∷ back)) ≡ none
  replaced_passes r' k m good there =
      let old = stands in
      let same : of_kind 9 (r' ∷ back) ≡ of_kind 9 (r ∷ back) = groups_after (r' ∷ []) back (one_rule r' k) ∙ sym (groups_after (r ∷ []) back (one_rule r q)) in
      let last : last_kind (front ++ (r ∷ [])) ≡ last_kind (front ++ (r' ∷ [])) = last_kind_lem front r ∙ q ∙ sym k ∙ sym (last_kind_lem front r') in
      front_kept front [] (r ∷ back) (r' ∷ back) no_node same e
      (step_file front r' back
      (rule_passes front r' back old.some old.last k good old.misses (present_match r' r front m ∙ old.absent) old.room
      (there_alike (front ++ (r' ∷ back)) (front ++ (r ∷ back)) (same_behind front (r' ∷ back) (r ∷ back) same) r' ∙ there))
      (rest_kept back (front ++ (r ∷ [])) (front ++ (r' ∷ [])) (alike_rules front (r ∷ []) (r' ∷ []) old.some (one_rule r q) (one_rule r' k))
      (subst (λ (n : ℕ). From n back) last (from_last (front ++ (r ∷ [])) back here.1)) (λ _. record {
        count = omega (arith, one_more front r q, one_more front r' k);
        absent = λ s a.
            present-append s front (r' ∷ []) ∙ ap (λ (b : Bool). present s front || b) (present_one s r' r (k ∙ sym q) m) ∙ sym (present-append s front (r ∷ [])) ∙ a;
      }) here.1))

  pub rule_replaced : (r' : Rec) → kind r' ≡ 4 → length r' ≡ 24 → match_of r' ≡ match_of r → fields_good (widths_of front) r' ≡ true
      → groups_there (front ++ (r ∷ back)) r' ≡ true → PassesStill (front ++ (r ∷ back)) (front ++ (r' ∷ back))
  rule_replaced r' k l m good there =
      let t = whole_parts front (r ∷ back) whole in
      record {
        passes = replaced_passes r' k m good there;
        alike = alike_between front (r ∷ []) (r' ∷ []) back stands.some (one_rule r q) (one_rule r' k);
        whole = whole_join front (r' ∷ back) t.0 (l, t.1.1);
      }

  removed_passes : file_row [] (front ++ back) ≡ none
  removed_passes =
      let old = stands in
      front_kept front [] (r ∷ back) back no_node (sym (groups_after (r ∷ []) back (one_rule r q))) e
      (rest_kept back (front ++ (r ∷ [])) front
      (subst (Alike (front ++ (r ∷ []))) (append-nil front) (alike_rules front (r ∷ []) [] old.some (one_rule r q) no_rules))
      (from_lower (last_kind front) (last_kind (front ++ (r ∷ []))) back (omega (arith, old.last, q, last_kind_lem front r)) (from_last (front ++ (r ∷ [])) back here.1))
      (λ _. record {
        count = omega (arith, one_more front r q);
        absent = λ s a. (or_none (present s front) (present s (r ∷ [])) (sym (present-append s front (r ∷ [])) ∙ a)).0;
      }) here.1)

  pub rule_removed : PassesStill (front ++ (r ∷ back)) (front ++ back)
  rule_removed =
      let t = whole_parts front (r ∷ back) whole in
      record {
        passes = removed_passes;
        alike = alike_between front (r ∷ []) [] back stands.some (one_rule r q) no_rules;
        whole = whole_join front back t.0 t.1.1;
      }

-- a new rule where no node stands before it, and none but nodes and groups after it
module _ (front back : Net) (no_node : any is_node front ≡ false) (last : last_kind front ≤ 4) (nodes : From 5 back) (whole : Whole (front ++ back))
    (e : file_row [] (front ++ back) ≡ none) where
  after : file_row front back ≡ none
  after = after_front front [] back e

  first_there : (xs rest : Net) → From 5 rest → file_row [] (xs ++ rest) ≡ none → 0 < length xs
  first_there [] [] f e = absurd (omega (arith, not_empty [] e))
  first_there [] (n ∷ rest) f e = absurd (omega (arith, (ordered [] n (file_step [] n rest e).0.not3).first refl))
  first_there (x ∷ xs) rest f e = omega arith

  complete : (rest : Net) → From 5 rest → file_row front rest ≡ none → misses_incomplete front ≡ false
  complete [] f e = file_end front e
  complete (n ∷ rest) f e = misses_before front n rest (file_step front n rest e).0 (omega arith)

  no_rule : (rest : Net) → From 5 rest → file_row front rest ≡ none → any is_rule rest ≡ false
  unfolding any
  no_rule [] f e = refl
  no_rule (n ∷ rest) f e =
      rw (ne_eqb (kind n) 4 (λ q. omega arith)) (no_rule_after rest (front ++ (n ∷ [])) (omega (arith, last_kind_lem front n)) (file_step front n rest e).1)

  pub some_front : 0 < length front
  some_front = first_there front back nodes e

  inserted_passes : (r : Rec) → kind r ≡ 4 → fields_good (widths_of front) r ≡ true → present r front ≡ false → length (of_kind 4 front) < most_rules
      → groups_there (front ++ back) r ≡ true → file_row [] (front ++ (r ∷ back)) ≡ none
  inserted_passes r k good absent room there =
      let same : of_kind 9 (r ∷ back) ≡ of_kind 9 back = groups_after (r ∷ []) back (one_rule r k) in
      front_kept front [] back (r ∷ back) no_node same e
      (step_file front r back (rule_passes front r back some_front last k good (complete back nodes after) absent room
      (there_alike (front ++ (r ∷ back)) (front ++ back) (same_behind front (r ∷ back) back same) r ∙ there))
      (rest_kept back front (front ++ (r ∷ []))
      (subst (λ (l : Net). Alike l (front ++ (r ∷ []))) (append-nil front) (alike_rules front [] (r ∷ []) some_front no_rules (one_rule r k)))
      (from_lower (last_kind (front ++ (r ∷ []))) 5 back (omega (arith, k, last_kind_lem front r)) nodes)
      (λ t. not_both t (no_rule back nodes after)) after))

  pub rule_inserted : (r : Rec) → kind r ≡ 4 → length r ≡ 24 → fields_good (widths_of front) r ≡ true → present r front ≡ false → length (of_kind 4 front) < most_rules
      → groups_there (front ++ back) r ≡ true → PassesStill (front ++ back) (front ++ (r ∷ back))
  rule_inserted r k l good absent room there =
      let t = whole_parts front back whole in
      record {
        passes = inserted_passes r k good absent room there;
        alike = alike_between front [] (r ∷ []) back some_front no_rules (one_rule r k);
        whole = whole_join front (r ∷ back) t.0 (l, t.1);
      }

-- rules that pass a test are removed, and nothing else
module _ (dead : Rec → Bool) (rules_only : (r : Rec) → dead r ≡ true → kind r ≡ 4) where
  abbrev left : Rec → Bool
  left r = not (dead r)

  -- one after the other
  pub removed_from : (rest front : Net) → Whole (front ++ rest) → file_row [] (front ++ rest) ≡ none → PassesStill (front ++ rest) (front ++ keep left rest)
  unfolding keep
  removed_from [] front w e = record {
    passes = e;
    alike = record { some = not_empty (front ++ []) e; some' = not_empty (front ++ []) e; first = refl; same = λ k h. refl };
    whole = w;
  }
  removed_from (r ∷ rest) front w e = go (dead r) refl
      (λ u v. removed_from rest (front ++ (r ∷ [])) u v) (λ u v. removed_from rest front u v)
    where
      snoc : (l : Net) → (front ++ (r ∷ [])) ++ l ≡ front ++ (r ∷ l)
      snoc l = append_assoc front (r ∷ []) l

      go : (b : Bool) → dead r ≡ b
          → (Whole ((front ++ (r ∷ [])) ++ rest) → file_row [] ((front ++ (r ∷ [])) ++ rest) ≡ none → PassesStill ((front ++ (r ∷ [])) ++ rest) ((front ++ (r ∷ [])) ++ keep left rest))
          → (Whole (front ++ rest) → file_row [] (front ++ rest) ≡ none → PassesStill (front ++ rest) (front ++ keep left rest))
          → PassesStill (front ++ (r ∷ rest)) (front ++ cond (not b) (r ∷ keep left rest) (keep left rest))
      go true k stays goes =
          let one = rule_removed front r rest (rules_only r k) w e in
          let more = goes one.whole one.passes in
          record {
            passes = more.passes;
            alike = record {
              some = one.alike.some;
              some' = more.alike.some';
              first = more.alike.first ∙ one.alike.first;
              same = λ k h. more.alike.same k h ∙ one.alike.same k h;
            };
            whole = more.whole;
          }
      go false k stays goes =
          subst (PassesStill (front ++ (r ∷ rest))) (snoc (keep left rest))
          (subst (λ (l : Net). PassesStill l ((front ++ (r ∷ [])) ++ keep left rest)) (snoc rest)
          (stays (subst⁻¹ Whole (snoc rest) w) (subst⁻¹ (λ (l : Net). file_row [] l ≡ none) (snoc rest) e)))
