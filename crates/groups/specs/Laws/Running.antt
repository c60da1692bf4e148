-- The buckets of a group run one after the other, as they were read from its record.
use Rattle.std.specs.Prelude.{◌≡◌, refl, true, List, [], ◌++◌, ℕ, ◌+◌, ◌-◌, ◌*◌, ◌^◌, ◌<◌, ◌≤◌, length, get_or, take, drop}
use Rattle.std.proofs.Common.{sym, ap, ap₂, subst, ◌∙◌, arith}
use Rattle.std.proofs.Math.Path.{subst⁻¹}
use Rattle.planes.specs.Plane.{bit}
use Rattle.format.specs.Record.{Rec, Net, at, records}
use Rattle.format.specs.Search.{record_at}
use Rattle.format.specs.Group.{bucket_value, bucket_care, target_kind, IsBucket}
use Rattle.format.specs.declared.kinds.TargetKind.{TargetKind}
use Rattle.format.specs.Fields.{buckets_good}
use Rattle.widths.specs.Laws.Limits.{limits}
use Rattle.patterns.specs.Laws.Matched.{below_64}
use Rattle.format.specs.Laws.Patterns.{put_lt}
use Rattle.format.specs.Laws.Records.{length_records, record_at_lem, part_is, record_length}
use Rattle.widths.specs.declared.Widths.{Widths}
use Rattle.format.specs.declared.Bucket.{Bucket}
use Rattle.scan.specs.declared.Layout.{Layout}
use Rattle.scan.specs.declared.network.Network.{Network}
use Rattle.scan.specs.Stored.{Stored}
use Rattle.states.specs.declared.Frame.{Frame}
use Rattle.choice.specs.Laws.GoodRecords.{buckets_good_lem}
use Rattle.onestep.specs.Groups.{group_record, bucket_header, sent_to, buckets_sent, lower_sent}
use Rattle.groups.specs.ByPlace.{GroupAt}
use Rattle.groups.specs.BucketHeaders.{entry, BucketHeaders}
use Rattle.groups.specs.declared.buckets.Groups.{Groups}
use Rattle.groups.specs.declared.relay.Relay.{Relay}
use Rattle.widths.specs.Widths.{line_bytes}
use Rattle.planes.specs.Adds.{Added, Within}
use Rattle.planes.specs.Laws.AddedBits.{added_none, added_both, added_there}
use Rattle.groups.specs.Marks.{mark}
use Rattle.groups.specs.Sent.{sends_at}
use Rattle.groups.specs.Relayed.{Ran, group_sends, target_sends}
use Rattle.groups.specs.Laws.GroupCopies.{no_buckets, more_buckets, all_buckets, no_group}
use Rattle.groups.specs.Laws.Marking.{added_marked}

-- record i of a store is the part that is read for it
pub record_read : (n : ℕ) (s : List ℕ) (i : ℕ) → i < n → get_or (records n s) i [] ≡ take (i * 24 + 24 - i * 24) (drop (i * 24) s)
record_read n s i h = record_at_lem n s i h ∙ sym (part_is s i)

-- what bucket j of the group at place i makes of a header, as it was read from the table of any store
pub header_read_at : (n : ℕ) (l : Layout) (s buckets : List ℕ) → BucketHeaders (records n s) l buckets → (i j h header : ℕ) → l.groups ≤ i → i < n → j < 3 → h < 64
    → header ≡ get_or buckets (entry (i - l.groups) j h) 0 → header ≡ bucket_header l.widths (take (i * 24 + 24 - i * 24) (drop (i * 24) s)) j h
header_read_at n l s buckets T i j h header low hi lj lh e =
    e ∙ T i j h low lj lh (omega (arith, length_records n s)) ∙ ap (λ (r : Rec). bucket_header l.widths r j h) (record_read n s i hi)

-- the record of group g, as it was read from a store
pub record GroupRead (net : Net) (w : Widths) (sw g : ℕ) (r : Rec) : Type 0 where
  pub is : group_record net sw g ≡ r
  pub number : at r 2 ≡ g
  pub good : buckets_good w r ≡ true
  pub whole : length r ≡ 24

-- the header that a bucket sends on
pub header_lt : (w : Widths) (r : Rec) (j h header : ℕ) → header ≡ bucket_header w r j h → header < 2 ^ w.h
header_lt w r j h header e = subst⁻¹ (λ (x : ℕ). x < 2 ^ w.h) e (put_lt (bucket_value r j) (bucket_care r j) h w.h)

module _ (net : Network) where
  abbrev rs : Net
  rs = records net.n net.store.now

  pub net_stored : Stored net.n net.layout net.store.now
  net_stored = net.stored

  pub few_headers : (h : ℕ) → h < 2 ^ net.layout.widths.h → h < 64
  few_headers h l = below_64 net.layout.widths.h h (limits net.layout.widths net.stored.laid.limits).high_h l

  pub group_in : (sw g i : ℕ) → GroupAt rs net.layout sw g i → i < net.n
  group_in sw g i G = omega (arith, G.high, length_records net.n net.store.now)

  pub group_read : (sw g i : ℕ) (r : Rec) → GroupAt rs net.layout sw g i → r ≡ record_at net.store.now i → GroupRead rs net.layout.widths sw g r
  group_read sw g i r G e =
      let h = group_in sw g i G in
      let q : get_or rs i [] ≡ r = record_at_lem net.n net.store.now i h ∙ sym e in
      record {
        is = G.is ∙ q;
        number = ap (λ (r : Rec). at r 2) (sym q) ∙ G.number;
        good = ap (buckets_good net.layout.widths) (sym q) ∙ buckets_good_lem net.n net.layout net.store.now net_stored i G.low h;
        whole = ap length e ∙ record_length net.store.now i (omega (arith, net.stored.room));
      }

  -- what bucket j of the group at place i makes of a header, as it was read from the table
  pub header_read : (headers : List ℕ) → BucketHeaders rs net.layout headers → (i j h header : ℕ) (r : Rec) → net.layout.groups ≤ i → i < net.n → r ≡ record_at net.store.now i → j < 3 → h < 64
      → header ≡ get_or headers (entry (i - net.layout.groups) j h) 0 → header ≡ bucket_header net.layout.widths r j h
  header_read headers T i j h header r low hi er lj lh e =
      e ∙ T i j h low lj lh (omega (arith, length_records net.n net.store.now)) ∙ ap (λ (r : Rec). bucket_header net.layout.widths r j h) (record_at_lem net.n net.store.now i hi ∙ sym er)

-- one after the other
pub ran_none : (a : Relay) → Ran [] a a
ran_none a = record { groups = refl; frame = refl; copies = added_none 0 (line_bytes a.groups.now.net.layout.widths) a.line }

pub ran_both : (l k : List ℕ) (a b c : Relay) → Ran l a b → Ran k b c → Ran (l ++ k) a c
ran_both l k a b c R S = record {
  groups = S.groups ∙ R.groups;
  frame = S.frame ∙ R.frame;
  copies = added_both 0 (line_bytes a.groups.now.net.layout.widths) l k a.line b.line c.line R.copies
      (subst (λ (x : Groups). Added k 0 (line_bytes x.net.layout.widths) b.line c.line) R.groups S.copies);
}

-- b is on the way from a: whatever sends the rest from b on has sent all from a on
pub record Toward (all rest : List ℕ) (a b : Relay) : Type 0 where
  pub groups : b.groups.now ≡ a.groups.now
  pub frame : b.frame ≡ a.frame
  pub rest_sends : (c : Relay) → Ran rest b c → Ran all a c

pub toward_all : (all : List ℕ) (a : Relay) → Toward all all a a
toward_all all a = record { groups = refl; frame = refl; rest_sends = λ c R. R }

pub toward_more : (all left xs rest : List ℕ) (a b c : Relay) → left ≡ xs ++ rest → Toward all left a b → Ran xs b c → Toward all rest a c
toward_more all left xs rest a b c e T R = record {
  groups = R.groups ∙ T.groups;
  frame = R.frame ∙ T.frame;
  rest_sends = λ d S. T.rest_sends d (subst⁻¹ (λ (l : List ℕ). Ran l b d) e (ran_both xs rest b c d R S));
}

pub toward_end : (all : List ℕ) (a b : Relay) → Toward all [] a b → Ran all a b
toward_end all a b T = T.rest_sends b (ran_none b)

module _ (a : Relay) where
  abbrev of : Network
  of = a.groups.now.net

  abbrev w : Widths
  w = a.groups.now.net.layout.widths

  abbrev all : Net
  all = records a.groups.now.net.n a.groups.now.net.store.now

  -- a bucket, by the kind of its target; later it sends the same
  pub bucket_ran : (g : ℕ) (b : Bucket) (h : ℕ) (x : TargetKind) → target_kind b.kind ≡ x → (c : Relay)
      → Ran (sent_to x a.groups.now.net.layout.widths a.frame.switch a.frame.port (lower_sent (records a.groups.now.net.n a.groups.now.net.store.now) a.groups.now.net.layout.widths a.frame.switch a.frame.port g) b.target h) a c
      → Ran (target_sends a g b h) a c
  bucket_ran g b h x e c R = rw e R

  pub target_later : (l : List ℕ) (c : Relay) → Ran l a c → (g : ℕ) (b : Bucket) (h : ℕ) → target_sends c g b h ≡ target_sends a g b h
  target_later l c R g b h =
      ap₂ (λ (x : Groups) (f : Frame). sent_to (target_kind b.kind) x.net.layout.widths f.switch f.port (lower_sent (records x.net.n x.net.store.now) x.net.layout.widths f.switch f.port g) b.target h) R.groups R.frame

  -- group g: its buckets, and its mark
  module _ (g h : ℕ) where
    pub group_absent : group_record (records a.groups.now.net.n a.groups.now.net.store.now) a.frame.switch g ≡ [] → Ran (group_sends a g h) a a
    group_absent e = rw (no_group all w a.frame.switch a.frame.port g h e) (ran_none a)

    pub group_marked : (k : ℕ) → k ≡ mark g h → h < 64 → bit a.marks k ≡ true → Ran (group_sends a g h) a a
    group_marked k ek lh e = record {
      groups = refl;
      frame = refl;
      copies = added_marked (sends_at of a.frame) (line_bytes w) g h a.line a.marks lh (ap (bit a.marks) (sym ek) ∙ e) a.done;
    }

    module _ (r : Rec) where
      -- what its first k buckets send
      abbrev pub first_sent : ℕ → List ℕ
      first_sent k = buckets_sent a.groups.now.net.layout.widths a.frame.switch a.frame.port (lower_sent (records a.groups.now.net.n a.groups.now.net.store.now) a.groups.now.net.layout.widths a.frame.switch a.frame.port g) r h k

      pub buckets_start : Ran (first_sent 0) a a
      buckets_start = rw (no_buckets all w a.frame.switch a.frame.port g h r) (ran_none a)

      pub buckets_next : (j header : ℕ) (b : Bucket) (x y : Relay) → IsBucket r j b → header ≡ bucket_header a.groups.now.net.layout.widths r j h
          → Ran (first_sent j) a x → Ran (target_sends x g b header) x y → Ran (first_sent (j + 1)) a y
      buckets_next j header b x y I e R S =
          rw (more_buckets all w a.frame.switch a.frame.port g h r j header b I e)
          (ran_both (first_sent j) (target_sends a g b header) a x y R (subst (λ (l : List ℕ). Ran l x y) (target_later (first_sent j) x R g b header) S))

      pub group_ran : (j : ℕ) (x : Relay) → group_record (records a.groups.now.net.n a.groups.now.net.store.now) a.frame.switch g ≡ r → j ≡ at r 8 → Ran (first_sent j) a x → Ran (group_sends a g h) a x
      group_ran j x is ej R = subst (λ (l : List ℕ). Ran l a x) (ap first_sent ej ∙ sym (all_buckets all w a.frame.switch a.frame.port g h r is)) R

    -- its copies are in the line then
    pub group_within : (x : Relay) → Ran (group_sends a g h) a x → Within (sends_at x.groups.now.net x.frame g h) 0 (line_bytes x.groups.now.net.layout.widths) x.line
    group_within x R =
        subst⁻¹ (λ (y : Groups). Within (sends_at y.net x.frame g h) 0 (line_bytes y.net.layout.widths) x.line) R.groups
        (subst⁻¹ (λ (f : Frame). Within (sends_at of f g h) 0 (line_bytes w) x.line) R.frame
        (added_there 0 (line_bytes w) (group_sends a g h) a.line x.line R.copies))
