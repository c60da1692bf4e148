use Rattle.std.proofs.Common.{◌≡◌, ◌<◌, ℕ, true, rules, get_or}
use Rattle.std.proofs.iter.runs.Sources.{ranges}
use Rattle.basics.specs.Laws.Tests.{same_test}
use Rattle.format.specs.Fields.{bucket_good}
use Rattle.format.specs.Laws.Fields.{bucket_each, buckets_pass}
use Rattle.records.proofs.groups.buckets_good.Goals as goal

pub returns-then-contains : goal.returns-then-contains
returns-then-contains c =
    let w = c.args.w in
    let r = c.args.r.now in
    let there : c.all.result ≡ true → (j : ℕ) → j < 3 → bucket_good w r (get_or r 8 0) j ≡ true = search (rules, ranges) in
    let back : ((j : ℕ) → j < 3 → bucket_good w r (get_or r 8 0) j ≡ true) → c.all.result ≡ true = search (rules, ranges) in
    same_test _ _ (λ e. buckets_pass w r (search rules) (search rules) (there e)) (λ e. back (bucket_each w r e))
