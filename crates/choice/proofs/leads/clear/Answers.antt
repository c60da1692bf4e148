use Rattle.std.proofs.Common.{◌≡◌, ℕ, ◌≤◌, ◌/◌, length, replicate, sym, ap, ◌∙◌, arith}
use Rattle.widths.specs.Widths.{states}
use Rattle.format.specs.Laws.States.{few_states}
use Rattle.choice.specs.Leads.{no_lead}
use Rattle.choice.proofs.LedRules.{none_lead}
use Rattle.choice.proofs.leads.clear.Goals as goal

pub returns : goal.returns
returns c =
    let k : ℕ = length c.fill.new.self in
    let e : c.fill.new.self ≡ replicate k no_lead = c.fill.ensures.after (λ y h. h) ∙ ap (λ (m : ℕ). replicate m no_lead) (sym c.fill.ensures.len) in
    let half : states c.args.w / 2 ≤ k = omega (arith, c.fill.ensures.len, c.states.ensures, few_states c.args.w c.requires) in
    rw e (none_lead c.args.w k _ half)
