use Rattle.std.proofs.Common.{◌≡◌, ◌<◌, ℕ, true, rules}
use Rattle.std.proofs.iter.runs.Sources.{ranges}
use Rattle.basics.specs.Laws.Tests.{same_test, true_of, not_both}
use Rattle.format.specs.Group.{goes_there}
use Rattle.format.specs.Laws.Groups.{bucket_absent, buckets_there_lem}
use Rattle.rows.proofs.groups.buckets_there.Goals as goal

pub returns : goal.returns
returns c net T =
    let r = c.args.r.now in
    let there : c.all.result ≡ true → (j : ℕ) → j < 3 → goes_there net r j ≡ true = search (rules, ranges) in
    let back : ((j : ℕ) → j < 3 → goes_there net r j ≡ true) → c.all.result ≡ true = search (rules, ranges) in
    same_test _ _ (λ e. buckets_there_lem net r (there e)) (λ e. back (λ j h. true_of _ (λ q. not_both e (bucket_absent net r j h q))))
