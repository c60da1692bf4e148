use mathlib.Core.Path.{◌≡◌, subst}
use Prim.Native.Nat.{◌+◌, ◌*◌}
use native.Mathlib.Omega.{arith}
use Rattle.words.specs.Words.{Spent, StateOf}
use Rattle.words.specs.Laws.Seeking.{spent_more, open_found}
use Rattle.words.proofs.next_open.Goals as goal

pub returns-then-open-ne0 : goal.returns-then-open-ne0
returns-then-open-ne0 c =
    let a = c.args in
    let i = c.loop-i.i in
    let e : i * 8 * 8 + c.lowest.result ≡ i * 64 + c.lowest.result = omega arith in
    subst (StateOf a.line.now a.pitch) e (open_found _ _ _ _ _ _ _ c.eight.ensures c.eight-in-loop-i.ensures c.eight-in-loop-i-2.ensures _ _ (omega arith) c.lowest.ensures)

pub loop-i-preserved : goal.loop-i-preserved
loop-i-preserved c =
    let a = c.args in
    let i = c.loop-i.i in
    let S = Spent a.line.now a.done.now a.among.now in
    let e : i * 64 ≡ i * 8 * 8 = omega arith in
    let f : (i * 8 + 8) * 8 ≡ (i + 1) * 64 = omega arith in
    subst S f (spent_more _ _ _ _ _ _ _ c.eight.ensures c.eight-in-loop-i.ensures c.eight-in-loop-i-2.ensures c.if-open-ne0.false (subst S e c.loop-i.invariant))
