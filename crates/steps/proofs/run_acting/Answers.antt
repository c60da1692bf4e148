use mathlib.Core.Path.{◌≡◌, sym, ap, subst, ◌∙◌}
use mathlib.Core.List.{List, [], ◌∷◌}
use Prim.Native.Nat.{ℕ, ◌+◌, ◌^◌, ◌<◌}
use lib.ListN.{get_or}
use Rattle.format.specs.Record.{Rec, records}
use Rattle.scan.specs.declared.network.Network.{Network}
use Rattle.onestep.specs.Actions.{sent}
use Rattle.choice.specs.Laws.GoodRecords.{miss_at}
use Rattle.groups.specs.declared.relay.Relay.{Relay}
use Rattle.groups.specs.Relayed.{Ran}
use Rattle.groups.specs.Laws.Running.{net_stored, ran_none}
use Rattle.steps.specs.Arrivals.{arrives}
use Rattle.steps.proofs.NextStates.{dropped, all_act, one_acts}
use Rattle.steps.proofs.run_acting.Goals as goal

-- the switch has a miss
switch_lt : (net : Network) (x : Relay) → x.groups.now.net ≡ net → x.frame.switch < 2 ^ net.layout.widths.w
switch_lt net x e = subst (λ (n : Network). x.frame.switch < 2 ^ n.layout.widths.w) e x.fits.switch

pub returns-then-relay-eq0 : goal.returns-then-relay-eq0
returns-then-relay-eq0 c =
    let x = c.args.relay.now in
    let net = c.args.rules.now.net in
    rw (dropped (records net.n net.store.now) net.layout.widths (arrives x.frame) c.if-relay-eq0.true) (ran_none x)

pub returns-then-lead-eq0 : goal.returns-then-lead-eq0
returns-then-lead-eq0 c =
    let x = c.args.relay.now in
    let net = c.args.rules.now.net in
    let rs = records net.n net.store.now in
    let w = net.layout.widths in
    let v = arrives x.frame in
    let S = net_stored net in
    let i = net.layout.misses + c.from.result in
    let e = ap (λ (n : Network). sent (records n.n n.store.now) n.layout.widths v (get_or (records n.n n.store.now) i [])) c.requires in
    rw (
      all_act rs w v c.if-relay-eq0.false,
      one_acts rs w v (get_or rs i []) (c.lead-lead.ensures.leads.miss c.if-lead-eq0.true ∙ ap (λ (r : Rec). r ∷ []) (miss_at net.n net.layout net.store.now S x.frame.switch (switch_lt net x c.requires) ∙ ap (λ (k : ℕ). get_or rs (net.layout.misses + k) []) (sym c.from.ensures))),
    )
    (subst (λ (l : List ℕ). Ran l x c.run_record.new.relay) e c.run_record.ensures)

pub returns-else-lead-eq0 : goal.returns-else-lead-eq0
returns-else-lead-eq0 c =
    let x = c.args.relay.now in
    let net = c.args.rules.now.net in
    rw (all_act (records net.n net.store.now) net.layout.widths (arrives x.frame) c.if-relay-eq0.false) c.run_leaders.ensures
