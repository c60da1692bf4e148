use mathlib.Core.Path.{sym}
use native.Mathlib.Omega.{arith}
use Rattle.trace.proofs.Reading.{count, short, writing_more, some_nearer, at_state, written_all, still_writable, writing_start, with_first}
use Rattle.trace.proofs.write_route.Goals as goal

pub loop-i-init : goal.loop-i-init
loop-i-init c = let W = c.requires in (still_writable _ _ _ _ _ _ W, writing_start _ _ _ _ _ _ W)

pub nearer-requires : goal.nearer-requires
nearer-requires c =
    let I = c.loop-i.invariant in
    at_state _ _ _ _ _ _ I.0 _ _ _ I.1

pub unwrap-x-requires : goal.unwrap-x-requires
unwrap-x-requires c =
    let I = c.loop-i.invariant in
    some_nearer _ _ _ _ _ _ I.0 _ _ _ I.1 (rw c.from-last.ensures at c.loop-i-test.true) _ (rw c.from-last.ensures at c.nearer.ensures)

pub bounds-list-i : goal.bounds-list-i
bounds-list-i c =
    let I = c.loop-i.invariant in
    omega (arith, I.1.bound, short _ _ _ _ _ _ I.0, I.0.room, I.1.written.len)

pub loop-i-preserved : goal.loop-i-preserved
loop-i-preserved c =
    let I = c.loop-i.invariant in
    (I.0, writing_more _ _ _ _ _ _ I.0 _ _ _ _ I.1 (rw c.from-last.ensures at c.loop-i-test.true) (rw (c.unwrap-x.ensures, c.from-last.ensures) at c.nearer.ensures))

pub bounds-list-last : goal.bounds-list-last
bounds-list-last c =
    let I = c.loop-i.invariant in
    omega (arith, short _ _ _ _ _ _ I.0, I.0.to, I.0.room, I.1.written.len)

pub returns : goal.returns
returns c =
    let I = c.loop-i.invariant in
    let W = c.requires in
    rw c.from-last.ensures (record {
      counted = sym (count _ _ _ _ _ _ W);
      written = with_first _ _ _ _ _ _ W _ _ (written_all _ _ _ _ _ _ I.0 _ _ _ I.1 (rw c.from-last.ensures at c.loop-i-test.false));
    })
