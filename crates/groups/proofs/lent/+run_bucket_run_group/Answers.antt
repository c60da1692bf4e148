use mathlib.Core.Path.{◌≡◌, sym, ◌∙◌}
use mathlib.Core.List.{List}
use Prim.Native.Nat.{ℕ, ◌/◌, ◌<◌, ◌≤◌}
use native.Mathlib.Omega.{arith}
use lib.ListN.{length}
use Rattle.format.specs.Record.{Rec, at, records}
use Rattle.format.specs.Search.{record_at}
use Rattle.format.specs.declared.kinds.TargetKind.TheVariants.{Port as k_port, LowerGroup as k_lower_group, Unknown as k_no_target}
use Rattle.scan.specs.declared.network.Network.{Network}
use Rattle.onestep.specs.Laws.GoodGroups.{port_within, group_lower, few_buckets, target_as}
use Rattle.groups.specs.ByPlace.{GroupAt}
use Rattle.groups.specs.Marks.{mark}
use Rattle.groups.specs.Laws.GroupCopies.{lower_is}
use Rattle.groups.specs.Laws.MarkedRuns.{ran_sent, ran_none}
use Rattle.groups.specs.Laws.Running.{group_in, group_read, header_read, header_lt}
use Rattle.groups.specs.Laws.LentRuns.{ready_with, ready_on, few_headers, bucket_ran, group_absent, group_marked, buckets_start, buckets_next, group_ran}
use Rattle.groups.proofs.lent.+run_bucket_run_group.Goals as goal

pub run_bucket-send_on-requires : goal.run_bucket-send_on-requires
run_bucket-send_on-requires t c =
    let a = c.args in
    (c.requires.ready.sends, port_within a.groups.now.net.layout.widths a.g a.b.kind a.b.target c.requires.g_bound.1 (sym c.from.ensures ∙ c.in-Port.is))

pub run_bucket-run_group-requires : goal.run_bucket-run_group-requires
run_bucket-run_group-requires t c =
    let a = c.args in
    let lt = group_lower a.groups.now.net.layout.widths a.g a.b.kind a.b.target c.requires.g_bound.1 (sym c.from.ensures ∙ c.in-LowerGroup.is) in
    (omega arith, (c.requires.ready, omega arith))

pub run_bucket-returns-in-Port : goal.run_bucket-returns-in-Port
run_bucket-returns-in-Port t c =
    let a = c.args in
    bucket_ran _ _ _ _ _ a.g a.b.kind a.b.target a.header k_port (sym c.from.ensures ∙ c.in-Port.is) _ _ _ _
    (ran_sent _ _ _ _ _ _ _ c.send_on.ensures c.requires.ready.done)

pub run_bucket-returns-in-LowerGroup : goal.run_bucket-returns-in-LowerGroup
run_bucket-returns-in-LowerGroup t c =
    let a = c.args in
    let net = a.groups.now.net in
    let w = net.layout.widths in
    let e = sym c.from.ensures ∙ c.in-LowerGroup.is in
    bucket_ran _ _ _ _ _ a.g a.b.kind a.b.target a.header k_lower_group e _ _ _ _
    (rw (lower_is (records net.n net.store.now) w a.frame.switch a.frame.port a.g a.b.target a.header (group_lower w a.g a.b.kind a.b.target c.requires.g_bound.1 e)) c.run_group.ensures)

pub run_bucket-returns-in-Unknown : goal.run_bucket-returns-in-Unknown
run_bucket-returns-in-Unknown t c =
    let a = c.args in
    bucket_ran _ _ _ _ _ a.g a.b.kind a.b.target a.header k_no_target (sym c.from.ensures ∙ c.in-Unknown.is) _ _ _ _ (ran_none _ _ _ _ _ c.requires.ready.done)

-- a group has at most three buckets
few : (net : Network) (sw g i : ℕ) (r : Rec) → GroupAt (records net.n net.store.now) net.layout sw g i → r ≡ record_at net.store.now i → at r 8 ≤ 3
few net sw g i r G e = few_buckets net.layout.widths r (group_read net sw g i r G e).good

-- the mark has its bit
marked : (n g h : ℕ) (marks : List ℕ) → n ≡ mark g h → g < 16 → h < 64 → 128 ≤ length marks → n / 8 < length marks
marked n g h marks e lg lh l = omega arith

pub run_group-get_bit-requires : goal.run_group-get_bit-requires
run_group-get_bit-requires t c =
    let Q = c.requires.ready in
    marked _ c.args.g c.args.h c.args.marks.now c.mark_of-m.ensures c.requires.g_bound (few_headers _ _ _ _ _ _ _ _ Q) Q.room

pub run_group-returns-then-get_bit : goal.run_group-returns-then-get_bit
run_group-returns-then-get_bit t c =
    group_marked _ _ _ _ _ c.args.g c.args.h _ c.mark_of-m.ensures _ _ c.requires.ready (sym c.get_bit.ensures ∙ c.if-get_bit.true)

pub run_group-returns-in_default : goal.run_group-returns-in_default
run_group-returns-in_default t c =
    group_absent _ _ _ _ _ c.args.g c.args.h _ _ c.in_default.ensures c.requires.ready.done

pub run_group-record-r-requires : goal.run_group-record-r-requires
run_group-record-r-requires t c = group_in c.args.groups.now.net c.args.frame.switch c.args.g _ c.in-Some.ensures

pub run_group-loop-j-init : goal.run_group-loop-j-init
run_group-loop-j-init t c = buckets_start _ _ _ _ _ c.args.g c.args.h _ _ _ c.requires.ready.done

pub run_group-bucket_at-b-requires : goal.run_group-bucket_at-b-requires
run_group-bucket_at-b-requires t c = omega (arith, few c.args.groups.now.net _ _ _ _ c.in-Some.ensures c.record-r.ensures)

pub run_group-header_by-header-requires : goal.run_group-header_by-header-requires
run_group-header_by-header-requires t c =
    let net = c.args.groups.now.net in
    let G = c.in-Some.ensures in (
      omega (arith, G.low, G.high, net.stored.laid.few_groups),
      omega (arith, few net _ _ _ _ G c.record-r.ensures),
      few_headers _ _ _ _ _ _ _ _ c.requires.ready,
    )

pub run_group-run_bucket-requires : goal.run_group-run_bucket-requires
run_group-run_bucket-requires t c =
    let a = c.args in
    let o = c.loop-j in
    let groups = a.groups.now in
    let net = groups.net in
    let w = net.layout.widths in
    let G = c.in-Some.ensures in
    let R = group_read net a.frame.switch a.g _ _ G c.record-r.ensures in
    -- the header that the bucket sets
    let e = header_read net groups.headers.now groups.worked_out c.in-Some.i o.j a.h _ _ G.low (group_in net a.frame.switch a.g _ G) c.record-r.ensures
    (omega (arith, few_buckets _ _ R.good)) (few_headers _ _ _ _ _ _ _ _ c.requires.ready) c.header_by-header.ensures in (
      omega arith,
      (
        ready_with _ _ _ _ _ a.h _ _ _ (header_lt w _ o.j a.h _ e) (ready_on _ _ _ _ _ a.h _ _ _ _ _ c.requires.ready o.invariant),
        (c.requires.g_bound, target_as _ _ R.good o.j (omega arith) a.g _ R.number c.bucket_at-b.ensures),
      ),
    )

pub run_group-loop-j-preserved : goal.run_group-loop-j-preserved
run_group-loop-j-preserved t c =
    let a = c.args in
    let o = c.loop-j in
    let groups = a.groups.now in
    let net = groups.net in
    let G = c.in-Some.ensures in
    -- the header that the bucket sets
    let e = header_read net groups.headers.now groups.worked_out c.in-Some.i o.j a.h _ _ G.low (group_in net a.frame.switch a.g _ G) c.record-r.ensures
    (omega (arith, few net _ _ _ _ G c.record-r.ensures)) (few_headers _ _ _ _ _ _ _ _ c.requires.ready) c.header_by-header.ensures in
    buckets_next _ _ _ _ _ a.g a.h _ o.j _ _ _ _ _ _ _ _ c.bucket_at-b.ensures e o.invariant c.run_bucket.ensures

pub run_group-set_bit-requires : goal.run_group-set_bit-requires
run_group-set_bit-requires t c =
    let o = c.loop-j in
    let Q = c.requires.ready in
    marked _ c.args.g c.args.h o.marks c.mark_of-m.ensures c.requires.g_bound (few_headers _ _ _ _ _ _ _ _ Q) (omega (arith, Q.room, o.invariant.marks_len))

pub run_group-returns : goal.run_group-returns
run_group-returns t c =
    let o = c.loop-j in
    let a = c.args in
    let R = group_read a.groups.now.net a.frame.switch a.g _ _ c.in-Some.ensures c.record-r.ensures in
    group_ran _ _ _ _ _ a.g a.h _ _ o.j _ _ _ _ _ c.mark_of-m.ensures (few_headers _ _ _ _ _ _ _ _ c.requires.ready) R.is
    (omega arith) o.invariant c.set_bit.ensures
