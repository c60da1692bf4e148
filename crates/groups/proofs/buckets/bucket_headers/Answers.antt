use mathlib.Core.Path.{sym, ap, ◌∙◌}
use Prim.Native.Nat.{◌+◌, ◌/◌, ◌%◌, ◌≤◌, ◌<◌}
use native.Mathlib.Omega.{arith}
use lib.ListN.{length-set}
use Rattle.format.specs.Record.{Rec, records}
use Rattle.format.specs.Laws.Records.{length_records, record_at_lem}
use Rattle.onestep.specs.Groups.{bucket_header}
use Rattle.scan.specs.declared.network.Network.{Network}
use Rattle.scan.specs.Laws.PassedRecords.{parts_within}
use Rattle.groups.specs.Laws.BucketHeaders.{headers_more}
use Rattle.groups.proofs.buckets.bucket_headers.Goals as goal

-- the groups of a network, at most 16
few : (net : Network) → (net.layout.groups ≤ net.n) × (net.n ≤ net.layout.groups + 16)
few net = ((parts_within net.n net.layout net.store.now net.stored).1, omega (arith, net.stored.laid.few_groups, length_records net.n net.store.now))

pub overflow_sub-x-end : goal.overflow_sub-x-end
overflow_sub-x-end c = (few c.args.net.now).0

pub overflow_mul-x-end : goal.overflow_mul-x-end
overflow_mul-x-end c = omega (arith, few c.args.net.now)

pub bounds-headers-x : goal.bounds-headers-x
bounds-headers-x c = omega (arith, few c.args.net.now)

pub loop-x-preserved : goal.loop-x-preserved
loop-x-preserved c =
    let o = c.loop-x in
    let net = c.args.net.now in
    let rs = records net.n net.store.now in
    let v = c.header_set.result in
    let i = net.layout.groups + o.x / 192 in
    let h : o.x < 3072 = omega (arith, few net) in (
      length-set o.headers o.x v ∙ o.invariant.0,
      headers_more rs net.layout o.x o.headers o.invariant.1 v (omega (arith, o.invariant.0))
          (c.header_set.ensures ∙ ap (λ (r : Rec). bucket_header net.layout.widths r (o.x / 64 % 3) (o.x % 64)) (c.record-r.ensures ∙ sym (record_at_lem net.n net.store.now i (omega (arith, few net))))),
    )

pub returns : goal.returns
returns c i j h low lj lh lt =
    let net = c.args.net.now in
    c.loop-x.invariant.1 i j h low lj lh (omega (arith, length_records net.n net.store.now))
