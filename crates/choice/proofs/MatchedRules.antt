-- Matching by what is worked out of a rule's record.
use mathlib.Core.Path.{◌≡◌, refl, subst⁻¹}
use mathlib.Core.Bool.{cond, ◌&&◌}
use mathlib.Core.List.{List, []}
use Prim.Native.Nat.{ℕ, ◌+◌, ◌^◌, ◌<◌}
use native.Mathlib.Omega.{arith}
use lib.Dec.{eqb}
use lib.ListN.{length, get_or, set}
use lib.Seq.{get_or-set_same, get_or-set_other}
use Rattle.std.proofs.Common.{below_more}
use Rattle.basics.specs.Bit.{bit_of}
use Rattle.format.specs.Record.{Rec, Net, of_kind}
use Rattle.widths.specs.declared.Widths.{Widths}
use Rattle.onestep.specs.Chosen.{rule_matches}
use Rattle.onestep.specs.ByBytes.{arrival, rank_of}
use Rattle.choice.specs.declared.RuleSet.{RuleSet}
use Rattle.choice.specs.RuleSets.{SetsOf, SetsBefore, no_rule}

module _ (w : Widths) (r : Rec) (rule : RuleSet) (S : SetsOf w r rule) (sw p h : ℕ) (hp : p < 2 ^ w.p) (hh : h < 2 ^ w.h) where
  -- it matches an arrival exactly if its switch is there, and port and header are in its sets
  pub match_by_sets : rule_matches w (arrival sw p h) r ≡ (eqb rule.switch sw && bit_of rule.ports p && bit_of rule.headers h)
  unfolding rule_matches
  match_by_sets = rw (S.switch, S.port.numbers p hp, S.header.numbers h hh) refl

  pub rank_by_sets : rank_of w (arrival sw p h) r ≡ cond (eqb rule.switch sw && bit_of rule.ports p && bit_of rule.headers h) rule.rank 0
  unfolding rank_of
  rank_by_sets = rw (match_by_sets, S.rank) refl

-- one rule more
module _ (net : Net) (w : Widths) (j : ℕ) (sets : List RuleSet) (before : SetsBefore j net w sets) where
  pub sets_more : (rule : RuleSet) → j < length sets → SetsOf w (get_or (of_kind 4 net) j []) rule → SetsBefore (j + 1) net w (set sets j rule)
  sets_more rule low S =
      below_more (λ (k : ℕ). SetsOf w (get_or (of_kind 4 net) k []) (get_or (set sets j rule) k no_rule)) j
      (λ k h. subst⁻¹ (SetsOf w (get_or (of_kind 4 net) k [])) (get_or-set_other sets j k rule no_rule (λ e. omega arith)) (before k h))
      (subst⁻¹ (SetsOf w (get_or (of_kind 4 net) j [])) (get_or-set_same sets j rule no_rule low) S)
