use Rattle.std.proofs.Common.{◌≡◌, ◌<◌, ℕ, true, rules}
use Rattle.std.proofs.iter.runs.Sources.{ranges}
use Rattle.basics.specs.Laws.Tests.{same_test, true_of, not_both}
use Rattle.format.specs.Group.{runs_there}
use Rattle.format.specs.Laws.Groups.{action_absent, actions_there_lem}
use Rattle.rows.proofs.groups.actions_there.Goals as goal

pub returns : goal.returns
returns c net T =
    let r = c.args.r.now in
    let there : c.all.result ≡ true → (i : ℕ) → i < 4 → runs_there net r i ≡ true = search (rules, ranges) in
    let back : ((i : ℕ) → i < 4 → runs_there net r i ≡ true) → c.all.result ≡ true = search (rules, ranges) in
    same_test _ _ (λ e. actions_there_lem net r (there e)) (λ e. back (λ i h. true_of _ (λ q. not_both e (action_absent net r i h q))))
