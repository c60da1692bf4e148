use mathlib.Core.Path.{sym, subst⁻¹, ◌∙◌}
use native.Mathlib.Omega.{arith}
use lib.ListN.{length-set}
use Rattle.format.specs.Record.{Rec, records}
use Rattle.choice.specs.RuleSets.{SetsOf}
use Rattle.choice.specs.Laws.GoodRecords.{in_store_lem, rules_count, rule_record}
use Rattle.choice.proofs.MatchedRules.{sets_more}
use Rattle.choice.proofs.rule_sets.Goals as goal

pub record-requires : goal.record-requires
record-requires c = let net = c.args.net.now in omega (arith, in_store_lem _ _ _ net.stored, c.loop-j-test.true)

pub loop-j-preserved : goal.loop-j-preserved
loop-j-preserved c =
    let net = c.args.net.now in
    let o = c.loop-j in
    let st = net.stored in (
      length-set o.sets o.j c.of_record.result ∙ o.invariant.0,
      sets_more (records net.n net.store.now) net.layout.widths o.j o.sets o.invariant.1 c.of_record.result
          (omega (arith, o.invariant.0, st.laid.few_rules, c.loop-j-test.true))
          (subst⁻¹ (λ (r : Rec). SetsOf net.layout.widths r c.of_record.result) (rule_record _ _ _ st o.j c.loop-j-test.true ∙ sym c.record.ensures) c.of_record.ensures),
    )

pub returns : goal.returns
returns c =
    let net = c.args.net.now in
    λ j h. c.loop-j.invariant.1 j (omega (arith, c.loop-j-test.false, rules_count _ _ _ net.stored))
