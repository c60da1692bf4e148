use mathlib.Core.Path.{sym, ◌∙◌}
use Rattle.rows.specs.Laws.Noted.{new_rule, keys_rule, keys_set}
use Rattle.rows.proofs.rules.is_repeated.Goals as goal

pub returns-then-get_bit : goal.returns-then-get_bit
returns-then-get_bit c =
    let p = c.requires in
    let key = c.key_bit-k.ensures.0 in
    (c.is_present.ensures, keys_rule _ _ _ p.1 _ (λ m h. h) (rw (← key) (sym c.get_bit.ensures ∙ c.if-get_bit.true)))

pub returns : goal.returns
returns c =
    let p = c.requires in
    let key = c.key_bit-k.ensures.0 in
    (new_rule _ _ _ p.1 (rw (← key) (sym c.get_bit.ensures ∙ c.if-get_bit.false)), keys_set _ _ _ p.1 _ _ key c.set_bit.ensures)
