use borrow.Author.Tests.{lt-ltb}
use mathlib.Core.Path.{◌≡◌, sym, ap, ◌∙◌}
use mathlib.Core.Bool.{Bool, true, false, not, ◌&&◌}
use Prim.Native.Nat.{ℕ}
use Rattle.basics.specs.Laws.Tests.{and_both}
use Rattle.format.specs.Record.{Net, linked, widths_of}
use Rattle.format.specs.Fields.{point_good}
use Rattle.format.specs.Laws.States.{port_lt, switch_lt}
use Rattle.format.specs.State.{port_of, switch_of, ordinary}
use Rattle.planes.specs.Plane.{bit}
use Rattle.widths.specs.declared.Widths.{Widths}
use Rattle.states.specs.declared.Frame.{Frame}
use Rattle.onestep.specs.Step.{external}
use Rattle.links.specs.Carried.{point}
use Rattle.steps.proofs.is_external.Goals as goal

-- by the widths of the network
by_widths : (net : Net) (w : Widths) (s : ℕ) → w ≡ widths_of net → external net s ≡ (ordinary w (port_of w s) && not (linked net (switch_of w s) (port_of w s)))
unfolding external
by_widths net w s e = ap (λ (v : Widths). ordinary v (port_of v s) && not (linked net (switch_of v s) (port_of v s))) (sym e)

pub contains-requires : goal.contains-requires
unfolding point_good
contains-requires c =
    let F = c.of_state-frame.ensures.fits in
    (c.requires, and_both _ _ (lt-ltb _ _ F.switch) (lt-ltb _ _ F.port))

pub returns-then-is_ordinary : goal.returns-then-is_ordinary
returns-then-is_ordinary c net e L =
    let a = c.args in
    let w = a.w in
    let q = c.of_state-frame.ensures.is in
    let o : ordinary w (port_of w a.s) ≡ true = ap (λ (f : Frame). ordinary w f.port) (sym q) ∙ sym c.is_ordinary.ensures ∙ c.if-is_ordinary.true in
    ap not (c.contains.ensures ∙ ap (λ (f : Frame). bit a.points.now.bits (point w f.switch f.port)) q ∙ L.is (switch_of w a.s) (port_of w a.s) (switch_lt w a.s) (port_lt w a.s))
    ∙ sym (by_widths net w a.s e ∙ ap (λ (t : Bool). t && not (linked net (switch_of w a.s) (port_of w a.s))) o)

pub returns-else-is_ordinary : goal.returns-else-is_ordinary
returns-else-is_ordinary c net e L =
    let a = c.args in
    let w = a.w in
    let o : ordinary w (port_of w a.s) ≡ false = ap (λ (f : Frame). ordinary w f.port) (sym c.of_state-frame.ensures.is) ∙ sym c.is_ordinary.ensures ∙ c.if-is_ordinary.false in
    c.if-is_ordinary.false ∙ sym (by_widths net w a.s e ∙ ap (λ (t : Bool). t && not (linked net (switch_of w a.s) (port_of w a.s))) o)
