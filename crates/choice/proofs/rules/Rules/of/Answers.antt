use Rattle.format.specs.Record.{records}
use Rattle.choice.specs.Laws.RuleSets.{pattern_sets}
use Rattle.choice.proofs.rules.Rules.of.Goals as goal

pub find_leads-requires : goal.find_leads-requires
find_leads-requires c =
    let net = c.args.net.now in
    pattern_sets (records net.n net.store.now) net.layout.widths _ c.rule_sets.ensures
