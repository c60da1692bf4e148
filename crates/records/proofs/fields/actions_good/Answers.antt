use Rattle.std.proofs.Common.{◌≡◌, ◌∷◌, ◌<◌, ℕ, true, rules, get_or}
use Rattle.std.proofs.iter.runs.Sources.{ranges}
use Rattle.basics.specs.Laws.Tests.{same_test}
use Rattle.format.specs.Fields.{action_good}
use Rattle.format.specs.Laws.Fields.{action_each, actions_pass}
use Rattle.records.proofs.fields.actions_good.Goals as goal

pub returns-then-contains : goal.returns-then-contains
returns-then-contains c =
    let w = c.args.w in
    let r = 0 ∷ c.args.body.now in
    let there : c.all.result ≡ true → (i : ℕ) → i < 4 → action_good w r (get_or r 8 0) i ≡ true = search (rules, ranges) in
    let back : ((i : ℕ) → i < 4 → action_good w r (get_or r 8 0) i ≡ true) → c.all.result ≡ true = search (rules, ranges) in
    same_test _ _ (λ e. actions_pass w r (search rules) (search rules) (there e)) (λ e. back (action_each w r e))
