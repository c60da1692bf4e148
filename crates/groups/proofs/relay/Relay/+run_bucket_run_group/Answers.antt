use mathlib.Core.Path.{◌≡◌, sym, subst, subst⁻¹, ◌∙◌}
use mathlib.Core.List.{List}
use Prim.Native.Nat.{ℕ, ◌/◌, ◌^◌, ◌<◌, ◌≤◌}
use native.Mathlib.Omega.{arith}
use lib.ListN.{length}
use Rattle.format.specs.Record.{Rec, at, records}
use Rattle.format.specs.Search.{record_at}
use Rattle.format.specs.Group.{target_kind}
use Rattle.format.specs.Fields.{target_fields}
use Rattle.planes.specs.Lines.{BitSet}
use Rattle.groups.specs.declared.buckets.Groups.{Groups}
use mathlib.Core.Bool.{true}
use Rattle.format.specs.declared.kinds.TargetKind.TheVariants.{LowerGroup as k_lower_group}
use Rattle.scan.specs.declared.network.Network.{Network}
use Rattle.widths.specs.Widths.{line_bytes}
use Rattle.onestep.specs.Laws.GoodGroups.{group_lower, few_buckets, target_as}
use Rattle.groups.specs.ByPlace.{GroupAt}
use Rattle.groups.specs.Marks.{mark}
use Rattle.groups.specs.Sent.{sends_at}
use Rattle.groups.specs.Laws.GroupCopies.{lower_is}
use Rattle.groups.specs.Laws.Marking.{done_marked}
use Rattle.groups.specs.Laws.Running.{few_headers, group_in, group_read, header_read, header_lt, bucket_ran, group_absent, group_marked, buckets_start, buckets_next, group_ran, group_within}
use Rattle.groups.proofs.relay.Relay.+run_bucket_run_group.Goals as goal

pub run_bucket-returns-in-LowerGroup : goal.run_bucket-returns-in-LowerGroup
run_bucket-returns-in-LowerGroup t c =
    let a = c.args in
    let x = a.self.now in
    let net = x.groups.now.net in
    let w = net.layout.widths in
    let e = sym c.from.ensures ∙ c.in-LowerGroup.is in
    bucket_ran x a.g a.b a.header k_lower_group e _
    (rw (lower_is (records net.n net.store.now) w x.frame.switch x.frame.port a.g a.b.target a.header (group_lower w a.g a.b.kind a.b.target c.requires.g_bound.1 e)) c.run_group.ensures)

-- a group has at most three buckets
few : (net : Network) (sw g i : ℕ) (r : Rec) → GroupAt (records net.n net.store.now) net.layout sw g i → r ≡ record_at net.store.now i → at r 8 ≤ 3
few net sw g i r G e = few_buckets net.layout.widths r (group_read net sw g i r G e).good

-- the mark has its bit
marked : (n g h : ℕ) (marks : List ℕ) → n ≡ mark g h → g < 16 → h < 64 → length marks ≡ 128 → n / 8 < length marks
marked n g h marks e lg lh l = omega arith

pub run_group-get_bit-requires : goal.run_group-get_bit-requires
run_group-get_bit-requires t c =
    let a = c.args in
    let x = a.self.now in
    marked _ a.g a.header x.marks c.mark_of-m.ensures c.requires.1 (few_headers x.groups.now.net a.header c.requires.0) x.marks_len

pub run_group-returns-then-get_bit : goal.run_group-returns-then-get_bit
run_group-returns-then-get_bit t c =
    let a = c.args in
    let x = a.self.now in
    group_marked x a.g a.header _ c.mark_of-m.ensures (few_headers x.groups.now.net a.header c.requires.0) (sym c.get_bit.ensures ∙ c.if-get_bit.true)

pub run_group-returns-in_default : goal.run_group-returns-in_default
run_group-returns-in_default t c = group_absent c.args.self.now c.args.g c.args.header c.in_default.ensures

pub run_group-record-r-requires : goal.run_group-record-r-requires
run_group-record-r-requires t c = group_in c.args.self.now.groups.now.net c.args.self.now.frame.switch c.args.g _ c.in-Some.ensures

pub run_group-loop-j-init : goal.run_group-loop-j-init
run_group-loop-j-init t c = buckets_start c.args.self.now c.args.g c.args.header c.record-r.result.now

pub run_group-bucket_at-b-requires : goal.run_group-bucket_at-b-requires
run_group-bucket_at-b-requires t c = omega (arith, few c.args.self.now.groups.now.net _ _ _ _ c.in-Some.ensures c.record-r.ensures)

pub run_group-header_by-requires : goal.run_group-header_by-requires
run_group-header_by-requires t c =
    let net = c.args.self.now.groups.now.net in
    let G = c.in-Some.ensures in (
      omega (arith, G.low, G.high, net.stored.laid.few_groups),
      omega (arith, few net _ _ _ _ G c.record-r.ensures),
      few_headers net c.args.header c.requires.0,
    )

pub run_group-run_bucket-requires : goal.run_group-run_bucket-requires
run_group-run_bucket-requires t c =
    let a = c.args in
    let o = c.loop-j in
    let x = a.self.now in
    let net = x.groups.now.net in
    let G = c.in-Some.ensures in
    let R = group_read net x.frame.switch a.g _ _ G c.record-r.ensures in
    -- the header that the bucket sets
    let e = header_read net x.groups.now.headers.now x.groups.now.worked_out c.in-Some.i o.j a.header _ _ G.low (group_in net x.frame.switch a.g _ G) c.record-r.ensures
    (omega (arith, few_buckets _ _ R.good)) (few_headers net a.header c.requires.0) c.header_by.ensures in (
      omega arith,
      (
        subst⁻¹ (λ (y : Groups). c.header_by.result < 2 ^ y.net.layout.widths.h) o.invariant.groups (header_lt net.layout.widths _ o.j a.header _ e),
        (
          c.requires.1,
          subst⁻¹ (λ (y : Groups). target_fields (target_kind c.bucket_at-b.result.kind) y.net.layout.widths a.g c.bucket_at-b.result.target ≡ true) o.invariant.groups
              (target_as _ _ R.good o.j (omega arith) a.g _ R.number c.bucket_at-b.ensures),
        ),
      ),
    )

pub run_group-loop-j-preserved : goal.run_group-loop-j-preserved
run_group-loop-j-preserved t c =
    let a = c.args in
    let o = c.loop-j in
    let x = a.self.now in
    let net = x.groups.now.net in
    let G = c.in-Some.ensures in
    -- the header that the bucket sets
    let e = header_read net x.groups.now.headers.now x.groups.now.worked_out c.in-Some.i o.j a.header _ _ G.low (group_in net x.frame.switch a.g _ G) c.record-r.ensures
    (omega (arith, few net _ _ _ _ G c.record-r.ensures)) (few_headers net a.header c.requires.0) c.header_by.ensures in
    buckets_next x a.g a.header _ o.j _ _ o.self _ c.bucket_at-b.ensures e o.invariant c.run_bucket.ensures

pub run_group-set_bit-requires : goal.run_group-set_bit-requires
run_group-set_bit-requires t c =
    let a = c.args in
    marked _ a.g a.header c.loop-j.self.marks c.mark_of-m.ensures c.requires.1 (few_headers a.self.now.groups.now.net a.header c.requires.0) c.loop-j.self.marks_len

pub run_group-invariant_of-self : goal.run_group-invariant_of-self
run_group-invariant_of-self t c =
    let a = c.args in
    let o = c.loop-j in
    let x = a.self.now in
    let net = x.groups.now.net in
    let y = o.self in
    let R = group_read net x.frame.switch a.g _ _ c.in-Some.ensures c.record-r.ensures in
    record {
      line_len = y.line_len;
      marks_len = c.set_bit.ensures.len ∙ y.marks_len;
      fits = y.fits;
      done =
          done_marked (sends_at y.groups.now.net y.frame) (line_bytes y.groups.now.net.layout.widths) a.g a.header y.line y.marks _
          (few_headers net a.header c.requires.0) (group_within x a.g a.header y (group_ran x a.g a.header _ o.j y R.is (omega arith) o.invariant)) y.done
          (subst (λ (k : ℕ). BitSet k y.marks c.set_bit.new.p) c.mark_of-m.ensures c.set_bit.ensures);
    }

pub run_group-returns : goal.run_group-returns
run_group-returns t c =
    let a = c.args in
    let o = c.loop-j in
    let x = a.self.now in
    let G = group_read x.groups.now.net x.frame.switch a.g _ _ c.in-Some.ensures c.record-r.ensures in
    let R = group_ran x a.g a.header _ o.j o.self G.is (omega arith) o.invariant in
    record { groups = R.groups; frame = R.frame; copies = R.copies }
