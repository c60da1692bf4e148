use native.Mathlib.Omega.{arith}
use mathlib.Core.Path.{sym, ◌∙◌}
use Rattle.std.proofs.lemmas.List.{length-take-le, get_or-take}
use Rattle.words.specs.Laws.Digits.{full_bits}
use Rattle.meeting.proofs.all_of.Goals as goal

pub returns : goal.returns
returns c = λ t.
    let len = length-take-le c.args.pitch c.args.r.now (omega (arith, c.told-r)) in
    full_bits _ _ (λ i h. sym (get_or-take c.args.pitch c.args.r.now i 0 h) ∙ c.are_full.ensures t i 0 (omega (arith, len)))
