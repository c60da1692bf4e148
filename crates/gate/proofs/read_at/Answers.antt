use borrow.Rule.Slice.PartMut.{mid_len, take_put}
use Prim.Native.Nat.{◌-◌, ◌≤◌}
use native.Mathlib.Omega.{arith}
use lib.ListN.{length}
use Rattle.gate.proofs.Moving.{moved}
use borrow.Author.Rules.{rules}
use Rattle.gate.proofs.read_at.Goals as goal

pub returns-in-Ok : goal.returns-in-Ok
returns-in-Ok c =
    let read = c.read-got in
    let buffer = c.args.buffer.now in
    let room = mid_len c.args.done (length buffer - c.args.done) buffer (omega arith) in
    let k : c.in-Ok.k ≤ length buffer - c.args.done = omega (arith, c.in-Ok.ensures.bound.0, read.auto.buf, room) in
    record {
      in_room = rw c.read_said.ensures (moved _ _ k);
      len = search rules;
      kept = take_put c.args.done (length buffer - c.args.done) buffer read.new.buf (omega (arith, read.auto.buf, room));
    }
