use mathlib.Core.Path.{◌≡◌, sym, ap, ap₂, ◌∙◌}
use mathlib.Core.Bool.{Bool, true, false, ◌&&◌}
use native.Mathlib.Omega.{arith}
use Rattle.format.specs.State.{ordinary}
use Rattle.format.specs.Pattern.{matches}
use Rattle.widths.specs.Laws.Limits.{limits}
use Rattle.patterns.specs.Laws.Matched.{below_64}
use Rattle.onestep.specs.Departing.{departing}
use Rattle.groups.specs.Laws.Running.{ran_none}
use Rattle.actions.specs.Laws.Flooded.{port_passed, port_offered}
use Rattle.actions.proofs.offer.Goals as goal
use Rattle.actions.proofs.offer.Goals.{else-is_ordinary-via-then-is_ordinary+else-in_set, else-is_ordinary-via-else-is_ordinary}

pub in_set-requires : goal.in_set-requires
in_set-requires c =
    let net = c.args.relay.now.groups.now.net in
    let w = net.layout.widths in
    below_64 w.p c.args.q (omega (arith, (limits w net.stored.laid.limits).high_p)) c.requires.1

pub returns-then-in_set : goal.returns-then-in_set
returns-then-in_set c value care S =
    let x = c.args.relay.now in
    let w = x.groups.now.net.layout.widths in
    let q = c.args.q in
    let o : ordinary w q ≡ true = sym c.is_ordinary.ensures ∙ c.if-is_ordinary.true in
    let m : matches w.p value care q ≡ true = sym (S.numbers q c.requires.1) ∙ sym c.in_set.ensures ∙ c.if-in_set.true in
    rw (port_offered w x.frame.port value care q (ap₂ ◌&&◌ o m)) c.send_on.ensures

pub returns-else-is_ordinary : goal.returns-else-is_ordinary
unfolding departing
returns-else-is_ordinary c value care S =
    let x = c.args.relay.now in
    let w = x.groups.now.net.layout.widths in
    let q = c.args.q in
    elim c.else-is_ordinary.branch [
      | else-is_ordinary-via-then-is_ordinary+else-in_set b ↦
          let o : ordinary w q ≡ true = sym c.is_ordinary.ensures ∙ b.if-is_ordinary.true in
          let m : matches w.p value care q ≡ false = sym (S.numbers q c.requires.1) ∙ sym b.in_set.ensures ∙ b.if-in_set.false in
          rw (port_passed w x.frame.port value care q (ap₂ ◌&&◌ o m)) (ran_none x)
      | else-is_ordinary-via-else-is_ordinary b ↦
          let o : ordinary w q ≡ false = sym c.is_ordinary.ensures ∙ b.if-is_ordinary.false in
          rw (port_passed w x.frame.port value care q (ap (λ (t : Bool). t && matches w.p value care q) o)) (ran_none x)
    ]
