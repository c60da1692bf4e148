use mathlib.Core.Path.{◌≡◌, refl, sym, ◌∙◌}
use Prim.Native.Nat.{ℕ, ◌+◌, ◌*◌}
use native.Mathlib.Omega.{arith}
use Rattle.format.specs.Record.{Rec, at, records, action_kind}
use Rattle.format.specs.declared.kinds.ActionKind.{ActionKind}
use Rattle.format.specs.declared.kinds.ActionKind.TheVariants.{Output as k_output, Set as k_set, InPort as k_in_port, RunGroup as k_run_group, Unknown as k_no_action}
use Rattle.groups.specs.declared.relay.Relay.{Relay}
use Rattle.groups.specs.Relayed.{Ran}
use Rattle.groups.specs.Laws.Running.{ran_none}
use Rattle.onestep.specs.Actions.{sent_as, header_by}
use Rattle.onestep.specs.Laws.CopiesInOrder.{sent_as_lem, header_as}
use Rattle.onestep.specs.Laws.GoodActions.{output_pattern, group_number}
use Rattle.actions.specs.Acted.{Acted}
use Rattle.actions.proofs.act.Goals as goal

-- action i was run, by its kind
acted : (x : Relay) (r : Rec) (i h : ℕ) (k : ActionKind) → action_kind (at r (9 + 3 * i)) ≡ k → (y : Relay) (result : ℕ)
    → result ≡ header_by k x.groups.now.net.layout.widths (at r (10 + 3 * i)) (at r (11 + 3 * i)) h
    → Ran (sent_as k (records x.groups.now.net.n x.groups.now.net.store.now) x.groups.now.net.layout.widths x.frame.switch x.frame.port h (at r (10 + 3 * i)) (at r (11 + 3 * i))) x y
    → Acted r i h x y result
acted x r i h k e y result q R =
    let net = x.groups.now.net in
    let w = net.layout.widths in
    record {
      ran = rw (sent_as_lem w r h i (records net.n net.store.now) x.frame.switch x.frame.port k e) R;
      header = q ∙ sym (header_as w r h i k e);
    }

pub output-requires-clause-care_value : goal.output-requires-clause-care_value
output-requires-clause-care_value c =
    output_pattern c.args.relay.now.groups.now.net.layout.widths c.args.r.now c.args.i c.requires.used (sym c.from.ensures ∙ c.in-Output.is)

pub run_group-requires : goal.run_group-requires
run_group-requires c =
    let a = c.args in
    (c.requires.header_fits, omega (arith, group_number a.relay.now.groups.now.net.layout.widths a.r.now a.i c.requires.used (sym c.from.ensures ∙ c.in-RunGroup.is)))

pub returns-in-Output : goal.returns-in-Output
returns-in-Output c = acted c.args.relay.now c.args.r.now c.args.i c.args.header k_output (sym c.from.ensures ∙ c.in-Output.is) _ _ refl c.output.ensures

pub returns-in-Set : goal.returns-in-Set
returns-in-Set c = acted c.args.relay.now c.args.r.now c.args.i c.args.header k_set (sym c.from.ensures ∙ c.in-Set.is) _ _ c.put.ensures (ran_none _)

pub returns-in-InPort : goal.returns-in-InPort
returns-in-InPort c = acted c.args.relay.now c.args.r.now c.args.i c.args.header k_in_port (sym c.from.ensures ∙ c.in-InPort.is) _ _ refl c.send.ensures

pub returns-in-RunGroup : goal.returns-in-RunGroup
returns-in-RunGroup c = acted c.args.relay.now c.args.r.now c.args.i c.args.header k_run_group (sym c.from.ensures ∙ c.in-RunGroup.is) _ _ refl c.run_group.ensures

pub returns-in-Unknown : goal.returns-in-Unknown
returns-in-Unknown c = acted c.args.relay.now c.args.r.now c.args.i c.args.header k_no_action (sym c.from.ensures ∙ c.in-Unknown.is) _ _ refl (ran_none _)
