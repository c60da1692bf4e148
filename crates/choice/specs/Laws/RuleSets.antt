-- Matching by what a rule's patterns match.
use Rattle.std.specs.Prelude.{◌≡◌, Bool, ◌&&◌, List, [], ℕ, ◌+◌, ◌<◌, length, get_or, set}
use Rattle.std.proofs.Common.{sym, subst₂, arith, below_more, get_or-set_same, get_or-set_other}
use Rattle.std.proofs.Math.Path.{ap₂, subst⁻¹}
use Rattle.std.proofs.Math.Dec.{eqb}
use Rattle.basics.specs.Bit.{bit_of}
use Rattle.format.specs.Record.{Rec, Net, at, of_kind}
use Rattle.patterns.specs.Matched.{MatchedSet}
use Rattle.widths.specs.declared.Widths.{Widths}
use Rattle.onestep.specs.Chosen.{rule_matches}
use Rattle.onestep.specs.ByBytes.{arrival, FrameWithin}
use Rattle.onestep.specs.Laws.Bodies.{SameTo}
use Rattle.choice.specs.declared.RuleSet.{RuleSet}
use Rattle.choice.specs.RuleSets.{RuleSets, PatternsOf, PatternsBefore, PatternSets, no_rule}

module _ (w : Widths) (r : Rec) (rule : RuleSet) (S : PatternsOf w r rule) where
  -- it matches an arrival exactly if its record's switch is there, and port and header are in its sets
  pub match_by_patterns : (sw p h : ℕ) → FrameWithin w p h → rule_matches w (arrival sw p h) r ≡ (eqb (at r 1) sw && bit_of rule.ports p && bit_of rule.headers h)
  unfolding rule_matches
  match_by_patterns sw p h W = ap₂ (λ (x y : Bool). eqb (at r 1) sw && x && y) (sym (S.port.numbers p W.port)) (sym (S.header.numbers h W.header))

  -- a record with the same bytes has the same sets
  pub patterns_same : (q : Rec) → SameTo 20 q r → PatternsOf w q rule
  patterns_same q same = record {
    port = subst₂ (λ (v c : ℕ). MatchedSet w.p v c rule.ports) (sym (same 4 (omega arith) (omega arith))) (sym (same 5 (omega arith) (omega arith))) S.port;
    header = subst₂ (λ (v c : ℕ). MatchedSet w.h v c rule.headers) (sym (same 6 (omega arith) (omega arith))) (sym (same 7 (omega arith) (omega arith))) S.header;
  }

-- all that is worked out of the rules has what their patterns match
pub pattern_sets : (net : Net) (w : Widths) (sets : List RuleSet) → RuleSets net w sets → PatternSets net w sets
pattern_sets net w sets R j h = let S = R j h in record { port = S.port; header = S.header }

-- the sets of one rule more
module _ (net : Net) (w : Widths) (j : ℕ) (sets : List RuleSet) (before : PatternsBefore j net w sets) where
  pub patterns_more : (rule : RuleSet) → j < length sets → PatternsOf w (get_or (of_kind 4 net) j []) rule → PatternsBefore (j + 1) net w (set sets j rule)
  patterns_more rule low S =
      below_more (λ (k : ℕ). PatternsOf w (get_or (of_kind 4 net) k []) (get_or (set sets j rule) k no_rule)) j
      (λ k h. subst⁻¹ (PatternsOf w (get_or (of_kind 4 net) k [])) (get_or-set_other sets j k rule no_rule (λ e. omega arith)) (before k h))
      (subst⁻¹ (PatternsOf w (get_or (of_kind 4 net) j [])) (get_or-set_same sets j rule no_rule low) S)
