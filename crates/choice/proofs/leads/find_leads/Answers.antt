use mathlib.Core.Path.{◌≡◌, sym, ap, subst, ◌∙◌}
use mathlib.Core.List.{List, []}
use Prim.Native.Nat.{ℕ, ◌+◌, ◌-◌, ◌<◌}
use native.Mathlib.Omega.{arith}
use lib.ListN.{length, get_or, take, drop}
use Rattle.format.specs.Record.{Rec, at, records, of_kind}
use Rattle.format.specs.Search.{record_at}
use Rattle.format.specs.Laws.Fields.{body_at}
use Rattle.onestep.specs.ByBytes.{of_body}
use Rattle.onestep.specs.Laws.Bodies.{SameTo}
use Rattle.scan.specs.declared.network.Network.{Network}
use Rattle.choice.specs.declared.RuleSet.{RuleSet}
use Rattle.choice.specs.RuleSets.{SetsOf, PatternsOf, PatternSets, no_rule}
use Rattle.choice.specs.Laws.GoodRecords.{in_store_lem, rules_count, rule_record, rule_switch}
use Rattle.choice.specs.Laws.RuleSets.{patterns_same}
use Rattle.choice.specs.Laws.SameSets.{sets_same}
use Rattle.choice.proofs.LedRules.{LedBy, led_by_none, led_by_more, led_by_all}
use Rattle.choice.proofs.leads.find_leads.Goals as goal

pub loop-j-init : goal.loop-j-init
loop-j-init c =
    let net = c.args.net.now in
    led_by_none (records net.n net.store.now) net.layout.widths _ c.clear.ensures

pub record-requires : goal.record-requires
record-requires c = let net = c.args.net.now in omega (arith, in_store_lem _ _ _ net.stored, c.loop-j-test.true)

-- what is known of rule j with the switch and the rank of its body b
next : (net : Network) (sets : List RuleSet) → PatternSets (records net.n net.store.now) net.layout.widths sets → (j : ℕ) → j < net.layout.nodes - net.layout.rules
    → (r b : List ℕ) → r ≡ record_at net.store.now (net.layout.rules + j) → b ≡ take 20 (drop 1 r) → (rule : RuleSet)
    → (PatternsOf net.layout.widths (of_body b) (get_or sets j no_rule) → SetsOf net.layout.widths (of_body b) rule)
    → SetsOf net.layout.widths (get_or (of_kind 4 (records net.n net.store.now)) j []) rule
next net sets P j h r b is_r is_b rule ranked =
    let w = net.layout.widths in
    let q : Rec = get_or (of_kind 4 (records net.n net.store.now)) j [] in
    let e : b ≡ take 20 (drop 1 q) = is_b ∙ ap (λ (x : Rec). take 20 (drop 1 x)) (is_r ∙ sym (rule_record _ _ _ net.stored j h)) in
    let same : SameTo 20 (of_body b) q = λ k l u. ap (λ (x : List ℕ). at (of_body x) k) e ∙ body_at q k l u in
    sets_same w (of_body b) q rule
    (ranked (patterns_same w q (get_or sets j no_rule) (P j (omega (arith, rules_count _ _ _ net.stored))) (of_body b) same))
    (λ k l u. sym (same k l u))

pub raise_rule-requires : goal.raise_rule-requires
raise_rule-requires c =
    let net = c.args.net.now in
    let o = c.loop-j in
    let S = next net c.args.sets.now c.requires o.j c.loop-j-test.true _ _ c.record.ensures c.body.ensures _ (c.ranked-rule.ensures net.layout.widths) in
    (net.stored.laid.limits, omega (arith, S.switch, rule_switch _ _ _ net.stored o.j c.loop-j-test.true))

pub loop-j-preserved : goal.loop-j-preserved
loop-j-preserved c =
    let net = c.args.net.now in
    let o = c.loop-j in
    led_by_more (records net.n net.store.now) net.layout.widths o.j _ _ _ o.invariant
    (next net c.args.sets.now c.requires o.j c.loop-j-test.true _ _ c.record.ensures c.body.ensures _ (c.ranked-rule.ensures net.layout.widths)) c.raise_rule.ensures

pub returns : goal.returns
returns c =
    let net = c.args.net.now in
    let e : c.loop-j.j ≡ length (of_kind 4 (records net.n net.store.now)) = omega (arith, c.loop-j-test.false, c.loop-j.auto.j-end, rules_count _ _ _ net.stored) in
    led_by_all (records net.n net.store.now) net.layout.widths net.stored.laid.widths c.loop-j.leads (subst (λ (k : ℕ). LedBy (records net.n net.store.now) net.layout.widths k c.loop-j.leads) e c.loop-j.invariant)
