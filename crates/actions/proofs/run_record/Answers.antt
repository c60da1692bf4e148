use mathlib.Core.Path.{sym, ap, ◌∙◌}
use Rattle.format.specs.Fields.{actions_good}
use Rattle.format.specs.Laws.Records.{record_at_lem}
use Rattle.choice.specs.Laws.GoodRecords.{record_in, actions_good_lem}
use Rattle.groups.specs.Laws.Running.{net_stored}
use Rattle.actions.proofs.run_record.Goals as goal

pub record-requires : goal.record-requires
record-requires c =
    let net = c.args.relay.now.groups.now.net in
    record_in net.n net.layout net.store.now (net_stored net) c.args.i c.requires.1

pub run-requires : goal.run-requires
run-requires c =
    let net = c.args.relay.now.groups.now.net in
    let i = c.args.i in
    let h = record_in net.n net.layout net.store.now (net_stored net) i c.requires.1 in
    ap (actions_good net.layout.widths) (c.record.ensures ∙ sym (record_at_lem net.n net.store.now i h))
    ∙ actions_good_lem net.n net.layout net.store.now (net_stored net) i c.requires.0 c.requires.1

pub returns : goal.returns
returns c =
    let net = c.args.relay.now.groups.now.net in
    let i = c.args.i in
    let h = record_in net.n net.layout net.store.now (net_stored net) i c.requires.1 in
    rw (record_at_lem net.n net.store.now i h, ← c.record.ensures) c.run.ensures
