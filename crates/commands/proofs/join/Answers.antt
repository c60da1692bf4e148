use Rattle.std.proofs.Common.{◌≡◌, ◌*◌, sym, ap, ◌∙◌, arith, length, take, length-take-le}
use Rattle.std.proofs.lemmas.Slice.{take-put_mid}
use Rattle.commands.proofs.RecordBytes.{length_joined, joined_bytes}
use Rattle.commands.proofs.join.Goals as goal

pub returns : goal.returns
returns c =
    let a = c.args in
    let store = a.before.store.now in
    let n = a.before.n in
    let copied = c.copy.new.to in
    let e : copied ≡ take (a.i * 24) store = c.copy.ensures.after in
    let l : length copied ≡ a.i * 24 = ap length e ∙ length-take-le (a.i * 24) store (omega (arith, a.before.within)) in
    let front = take-put_mid 0 _ a.next.now copied (a.i * 24) (omega (arith, l)) (omega arith) ∙ e in
    record {
      count_is = sym (length_joined store n a.i a.j (omega arith));
      bytes_are = joined_bytes store _ n a.i a.j c.requires.i_le_j front c.finish.new.next c.finish.ensures;
    }
