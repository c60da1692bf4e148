use Rattle.std.proofs.Common.{◌≡◌, ◌+◌, ◌-◌, ◌*◌, ◌++◌, List, ℕ, sym, ap, ◌∙◌, arith, rules, length, take, drop, replicate}
use Rattle.format.specs.Record.{store_bytes}
use Rattle.commands.specs.Effect.{padded}
use Rattle.commands.proofs.RecordBytes.{part_length, flat_drop, finished}
use borrow.Rule.Slice.PartMut.{same_len_mid}
use Rattle.commands.proofs.finish.Goals as goal

pub returns : goal.returns
returns c =
    let a = c.args in
    let next = a.next.now in
    let store = a.before.store.now in
    let n = a.before.n in
    let end = a.at + (n * 24 - a.j * 24) in
    let l = part_length store n a.j (omega arith) a.before.within in
    let copied = c.copy.new.to in
    let e : copied ≡ take (n * 24 - a.j * 24) (drop (a.j * 24) store) = c.copy.ensures.after in
    let z : c.fill.new.self ≡ replicate (store_bytes - end) 0 = search rules in
    finished next copied c.fill.new.self a.at end _ _ (search rules) (omega (arith, l, ap length e)) (omega arith) z (search rules) (same_len_mid _ _ _ _ c.fill.ensures.len ∙ same_len_mid _ _ _ _ c.copy.ensures.len ∙ search rules)
    ∙ ap (λ (x : List ℕ). padded (take a.at next ++ x)) (e ∙ sym (flat_drop store n a.j (omega arith)))
