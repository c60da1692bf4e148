use mathlib.Core.Path.{◌≡◌}
use lib.ListN.{length}
use Rattle.format.specs.Record.{records}
use Rattle.groups.specs.BucketHeaders.{most_entries, HeadersBefore}
use Rattle.groups.proofs.buckets.bucket_headers.Given as goal

-- the entries before entry x are worked out
abbrev pub invariant-loop-x : goal.invariant-loop-x
invariant-loop-x l = (length l.headers ≡ most_entries) × HeadersBefore l.x (records l.net.n l.net.store.now) l.net.layout l.headers
