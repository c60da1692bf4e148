use mathlib.Core.Path.{◌≡◌, sym, ap, ap₂, subst, subst⁻¹, ◌∙◌}
use mathlib.Core.List.{List, ◌++◌}
use Prim.Native.Nat.{ℕ, suc, ◌+◌, ◌-◌, ◌^◌, ◌<◌}
use native.Mathlib.Numerals.{add-one}
use native.Mathlib.Omega.{arith}
use Rattle.format.specs.Record.{Rec, Net, at, records}
use Rattle.widths.specs.declared.Widths.{Widths}
use Rattle.states.specs.declared.Frame.{Frame}
use Rattle.onestep.specs.Chosen.{Arrival}
use Rattle.onestep.specs.ByBytes.{arrival}
use Rattle.onestep.specs.Flooding.{UsedAction}
use Rattle.onestep.specs.Actions.{sent_by, header_after, sent, copies}
use Rattle.onestep.specs.Laws.CopiesInOrder.{copies-cons, header_after-lt}
use Rattle.onestep.specs.Laws.GoodActions.{used_action}
use Rattle.groups.specs.declared.buckets.Groups.{Groups}
use Rattle.groups.specs.Relayed.{Ran}
use Rattle.groups.specs.Laws.Running.{Toward, toward_all, toward_more, toward_end}
use Rattle.actions.specs.Acted.{record_sends}
use Rattle.actions.proofs.run.Goals as goal

-- what the actions of n from number i on send
copies_from : (net : Net) (w : Widths) (a : Arrival) (r : Rec) (h n i : ℕ) → i < n
    → copies net w a r h i (n - i) ≡ sent_by net w a.switch a.port r h i ++ copies net w a r (header_after w r h i) (i + 1) (n - (i + 1))
copies_from net w a r h n i l =
    let e : n - i ≡ suc (n - (i + 1)) = omega arith in
    ap (copies net w a r h i) e
    ∙ copies-cons net w a r h i (n - (i + 1))
    ∙ ap (λ (m : ℕ). sent_by net w a.switch a.port r h i ++ copies net w a r (header_after w r h i) m (n - (i + 1))) (sym (add-one i))

pub loop-i-init : goal.loop-i-init
unfolding sent
loop-i-init c =
    let x = c.args.relay.now in
    let r = c.args.r.now in
    let net = x.groups.now.net in
    let v = arrival x.frame.switch x.frame.port x.frame.header in
    let e : at r 8 ≡ at r 8 - 0 = omega arith in (
      x.fits.header,
      subst (λ (k : ℕ). Toward (record_sends x r) (copies (records net.n net.store.now) net.layout.widths v r x.frame.header 0 k) x x) e (toward_all (record_sends x r) x),
    )

pub act-header-requires-clause-used : goal.act-header-requires-clause-used
act-header-requires-clause-used c =
    let o = c.loop-i in
    let r = c.args.r.now in
    subst⁻¹ (λ (y : Groups). UsedAction y.net.layout.widths r o.i) o.invariant.1.groups (used_action c.args.relay.now.groups.now.net.layout.widths r c.requires o.i (omega arith))

pub loop-i-preserved : goal.loop-i-preserved
loop-i-preserved c =
    let o = c.loop-i in
    let x = c.args.relay.now in
    let r = c.args.r.now in
    let net = x.groups.now.net in
    let rs = records net.n net.store.now in
    let w = net.layout.widths in
    let v = arrival x.frame.switch x.frame.port x.frame.header in
    let n = at r 8 in
    let T = o.invariant.1 in
    let A = c.act-header.ensures in
    -- the header after the action, and what it sent
    let e : c.act-header.result ≡ header_after w r o.header o.i = A.header ∙ ap (λ (y : Groups). header_after y.net.layout.widths r o.header o.i) T.groups in
    let f = ap₂ (λ (y : Groups) (f : Frame). sent_by (records y.net.n y.net.store.now) y.net.layout.widths f.switch f.port r o.header o.i) T.groups T.frame in (
      subst⁻¹ (λ (k : ℕ). k < 2 ^ w.h) e (header_after-lt w r o.header o.i o.invariant.0),
      toward_more _ _ _ _ x o.relay _
          (copies_from rs w v r o.header n o.i (omega arith) ∙ ap (λ (k : ℕ). sent_by rs w v.switch v.port r o.header o.i ++ copies rs w v r k (o.i + 1) (n - (o.i + 1))) (sym e))
          T (subst (λ (l : List ℕ). Ran l o.relay c.act-header.new.relay) f A.ran),
    )

pub returns : goal.returns
unfolding copies
returns c =
    let o = c.loop-i in
    let x = c.args.relay.now in
    let r = c.args.r.now in
    let net = x.groups.now.net in
    let v = arrival x.frame.switch x.frame.port x.frame.header in
    let e : at r 8 - o.i ≡ 0 = omega arith in
    toward_end (record_sends x r) x o.relay
    (subst (λ (k : ℕ). Toward (record_sends x r) (copies (records net.n net.store.now) net.layout.widths v r o.header o.i k) x o.relay) e o.invariant.1)
