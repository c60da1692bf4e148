use Rattle.std.proofs.Common.{◌≡◌, ◌*◌, ◌+◌, rules, sym, ap, ◌∙◌, arith, length, take, length-take-le}
use Rattle.std.proofs.lemmas.Slice.{take-put_mid}
use Rattle.commands.proofs.RecordBytes.{length_spliced, spliced_bytes}
use Rattle.commands.proofs.splice.Goals as goal

pub returns : goal.returns
returns c =
    let a = c.args in
    let store = a.before.store.now in
    let n = a.before.n in
    let rule = a.rule.now in
    let copied = c.copy.new.to in
    let e : copied ≡ take (a.i * 24) store = c.copy.ensures.after in
    let l : length copied ≡ a.i * 24 = ap length e ∙ length-take-le (a.i * 24) store (omega (arith, a.before.within)) in
    let front = take-put_mid 0 _ a.next.now copied (a.i * 24) (omega (arith, l)) (omega arith) ∙ e in
    let put = c.copy_from_slice.new.self in
    let q : put ≡ rule = c.copy_from_slice.ensures.after in
    let v = take-put_mid (a.i * 24) _ _ put (a.i * 24 + 24) (omega (arith, ap length q)) (search rules) in
    record {
      count_is = sym (length_spliced store n a.i a.j rule (omega arith));
      bytes_are = spliced_bytes store _ n a.i a.j c.requires.i_le_j front rule put _ c.finish.new.next q v c.finish.ensures;
    }
