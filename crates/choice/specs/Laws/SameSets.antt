-- What is worked out of a rule goes by bytes 1 to 20 of its record.
use Rattle.std.specs.Prelude.{ℕ, suc}
use Rattle.std.proofs.Common.{sym, ap, subst₂, ◌∙◌, arith}
use Rattle.format.specs.Record.{Rec}
use Rattle.patterns.specs.Matched.{MatchedSet}
use Rattle.widths.specs.declared.Widths.{Widths}
use Rattle.onestep.specs.Laws.Bodies.{SameTo, priority_same}
use Rattle.choice.specs.declared.RuleSet.{RuleSet}
use Rattle.choice.specs.RuleSets.{SetsOf}

-- a record with the same bytes has the same sets
pub sets_same : (w : Widths) (r q : Rec) (rule : RuleSet) → SetsOf w r rule → SameTo 20 q r → SetsOf w q rule
sets_same w r q rule S same = record {
  switch = S.switch ∙ sym (same 1 (omega arith) (omega arith));
  rank = S.rank ∙ sym (ap suc (priority_same w q r same));
  port = subst₂ (λ (v c : ℕ). MatchedSet w.p v c rule.ports) (sym (same 4 (omega arith) (omega arith))) (sym (same 5 (omega arith) (omega arith))) S.port;
  header = subst₂ (λ (v c : ℕ). MatchedSet w.h v c rule.headers) (sym (same 6 (omega arith) (omega arith))) (sym (same 7 (omega arith) (omega arith))) S.header;
}
