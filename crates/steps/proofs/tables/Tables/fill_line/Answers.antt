use mathlib.Core.Path.{◌≡◌, sym, ap, subst, ◌∙◌}
use mathlib.Core.Bool.{Bool, ◌||◌, or-false}
use mathlib.Core.List.{List}
use Prim.Native.Nat.{ℕ, ◌+◌, ◌*◌, ◌/◌, ◌<◌}
use native.Mathlib.Omega.{arith}
use lib.ListN.{replicate}
use Rattle.basics.specs.Lists.{any, member}
use Rattle.format.specs.Record.{records}
use Rattle.format.specs.Laws.States.{few_states}
use Rattle.planes.specs.Plane.{bit}
use Rattle.planes.specs.Lines.{Cleared, Put}
use Rattle.planes.specs.Adds.{Added}
use Rattle.planes.specs.Laws.Lines.{no_bit, put_bit, cleared_bit}
use Rattle.widths.specs.Widths.{line_bytes}
use Rattle.widths.specs.declared.Widths.{Widths}
use Rattle.groups.specs.declared.buckets.Groups.{Groups}
use Rattle.scan.specs.declared.network.Network.{Network}
use Rattle.onestep.specs.Relayed.{relays}
use Rattle.steps.specs.Arrivals.{frame_sends}
use Rattle.steps.proofs.NextStates.{relays_arriving, relays_departing}
use Rattle.steps.proofs.tables.Tables.fill_line.Goals as goal

-- a line that was clear has what was sent
line_sent : (n : ℕ) (l a b : List ℕ) → a ≡ replicate 128 0 → Added l 0 n a b → (t : ℕ) → t < n * 8 → bit b t ≡ member t l
line_sent n l a b q A t h =
    let e : t ≡ 0 * 8 + t = omega arith in
    ap (bit b) e ∙ A.bits t h
    ∙ ap (λ (x : Bool). member t l || x) (ap (λ (k : List ℕ). bit k (0 * 8 + t)) q ∙ no_bit 128 (0 * 8 + t))
    ∙ or-false (member t l)

pub returns-then-direction-ne0 : goal.returns-then-direction-ne0
unfolding member any
returns-then-direction-ne0 c =
    let a = c.args in
    let net = a.self.now.rules.net in
    let w = net.layout.widths in
    let C = subst (λ (n : ℕ). Cleared a.at n a.work.now c.clear.new.p) (ap (λ (n : ℕ). n / 8) c.states-bytes.ensures) c.clear.ensures in
    rw (relays_departing (records net.n net.store.now) w net.stored.laid.widths a.s (λ e. c.if-direction-ne0.true (c.direction.ensures ∙ e)))
    record { len = C.len; bits = λ t h. cleared_bit a.at (line_bytes w) a.work.now c.clear.new.p C t h; under = C.under; over = C.over }

pub put_line-requires : goal.put_line-requires
put_line-requires c =
    let net = c.args.self.now.rules.net in
    (omega (arith, c.states-bytes.ensures, c.requires), omega (arith, few_states net.layout.widths net.stored.laid.limits, c.states-bytes.ensures))

pub returns : goal.returns
returns c =
    let a = c.args in
    let net = a.self.now.rules.net in
    let rs = records net.n net.store.now in
    let w = net.layout.widths in
    let x = c.of-relay.result in
    let y = c.run_acting.new.relay in
    let P = subst (λ (n : ℕ). Put y.line a.at n a.work.now c.put_line.new.p) (ap (λ (n : ℕ). n / 8) c.states-bytes.ensures) c.put_line.ensures in
    -- what was sent is what the state steps to
    let e : frame_sends net x.frame ≡ relays rs w a.s =
    ap (frame_sends net) (c.of-relay.ensures.1 ∙ c.of_state.ensures.is) ∙ sym (relays_arriving rs w net.stored.laid.widths a.s (sym c.direction.ensures ∙ c.if-direction-ne0.false)) in
    let widths : x.groups.now.net.layout.widths ≡ w = ap (λ (g : Groups). g.net.layout.widths) c.of-relay.ensures.0 ∙ ap (λ (n : Network). n.layout.widths) a.self.now.same in
    let A = subst (λ (v : Widths). Added (frame_sends net x.frame) 0 (line_bytes v) x.line y.line) widths c.run_acting.ensures.copies in
    record {
      len = P.len;
      bits = λ t h. put_bit y.line a.at (line_bytes w) a.work.now c.put_line.new.p P t h
          ∙ line_sent (line_bytes w) (frame_sends net x.frame) x.line y.line c.of-relay.ensures.2 A t h
          ∙ ap (member t) e;
      under = P.under;
      over = P.over;
    }
