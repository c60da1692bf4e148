use mathlib.Core.Path.{ap, ap₂, subst, ◌∙◌}
use mathlib.Core.Bool.{Bool, ◌||◌}
use mathlib.Core.List.{List}
use Prim.Native.Nat.{ℕ}
use Rattle.planes.specs.Lines.{Made}
use Rattle.basics.specs.Lists.{member}
use Rattle.format.specs.Record.{records, of_kind}
use Rattle.widths.specs.Widths.{states, line_bytes}
use Rattle.widths.specs.declared.Widths.{Widths}
use Rattle.scan.specs.declared.network.Network.{Network}
use Rattle.onestep.specs.Step.{across, next}
use Rattle.onestep.specs.Relayed.{relays}
use Rattle.links.specs.Carried.{crosses}
use Rattle.links.specs.Laws.PairBits.{pair_first, pair_second}
use Rattle.links.specs.Laws.PlaneOfPairs.{pairs_added}
use Rattle.steps.proofs.NextStates.{either_step}
use Rattle.steps.proofs.fill_steps.Goals as goal

pub returns : goal.returns
returns c =
    let a = c.args in
    let net = a.net.now in
    let w = net.layout.widths in
    let rs = records net.n net.store.now in
    let ends : ℕ → ℕ → List (ℕ × ℕ) = λ sw p. across sw p (of_kind 2 rs) in
    let M = subst (λ (n : Network). Made (λ x t. member t (relays (records n.n n.store.now) n.layout.widths x)) (line_bytes n.layout.widths) a.base (states n.layout.widths) a.work.now c.fill_arriving.new.work) c.of.ensures c.fill_arriving.ensures in
    subst (λ (v : Widths). Made (λ x t. member t (next rs x)) (line_bytes v) a.base (states v) a.work.now c.cross.new.work) net.stored.laid.widths
    (pairs_added w net.stored.laid.limits a.base (λ x t. member t (relays rs w x)) (λ x t. member t (next rs x)) _ _ _ _ M c.cross.ensures
    (λ x t hx ht.
    ap (λ (b : Bool). b || member t (relays rs w x)) (ap₂ (crosses w ends) (pair_first w x t ht) (pair_second w x t ht))
    ∙ either_step rs w net.stored.laid.widths x t))
