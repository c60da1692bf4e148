use mathlib.Core.Path.{sym, ap, ◌∙◌}
use Prim.Native.Nat.{ℕ, ◌+◌}
use Rattle.format.specs.Record.{Rec, at}
use Rattle.format.specs.Laws.Kinds.{kind_count}
use Rattle.rows.specs.Laws.Groups.{last_group_lem}
use Rattle.rows.proofs.groups.Groups.with_group.Goals as goal

pub returns : goal.returns
returns c before G =
    let r = c.args.r.now in
    let last = last_group_lem before r c.requires.0 in
    record {
      count = ap (λ (n : ℕ). n + 1) G.count ∙ sym (kind_count 9 before r ∙ rw c.requires.0);
      switch = c.from.ensures ∙ ap (λ (q : Rec). at q 1) (sym last);
      number = c.from-2.ensures ∙ ap (λ (q : Rec). at q 2) (sym last);
    }
