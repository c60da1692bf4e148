-- What a group sends: each bucket takes a copy of the frame as it entered the group, sets the header, and sends it on.
use Rattle.std.specs.Prelude.{true, false, List, [], ◌∷◌, ◌++◌, ℕ, zero, suc, eqb, get_or}
use Rattle.format.specs.Record.{Rec, Net, at, of_kind}
use Rattle.format.specs.Group.{bucket_value, bucket_care, bucket_kind, bucket_target, target_kind, is_group}
use Rattle.format.specs.declared.kinds.TargetKind.{TargetKind}
use Rattle.format.specs.declared.kinds.TargetKind.TheVariants.{Port as k_port, LowerGroup as k_lower_group, Unknown as k_no_target}
use Rattle.format.specs.Search.{first_at}
use Rattle.format.specs.Pattern.{put_bits}
use Rattle.widths.specs.declared.Widths.{Widths}
use Rattle.onestep.specs.Departing.{except, departing}

-- the record of group g of a switch
unfoldable pub group_record : Net → ℕ → ℕ → Rec
group_record net sw g = let groups = of_kind 9 net in get_or groups (first_at (is_group sw g) groups) []

-- what goes to a target of each kind, p being the arrival port and h the header: a copy to a port, which is not the arrival port;
-- or what the lower group sends of it
abbrev pub sent_to : TargetKind → Widths → ℕ → ℕ → (ℕ → ℕ → List ℕ) → ℕ → ℕ → List ℕ
sent_to k_port w sw p lower target h = departing w sw h (except p (target ∷ []))
sent_to k_lower_group w sw p lower target h = lower target h
sent_to k_no_target w sw p lower target h = []

-- what SET by bucket j of a group's record makes of header h
abbrev pub bucket_header : Widths → Rec → ℕ → ℕ → ℕ
bucket_header w r j h = put_bits w.h (bucket_value r j) (bucket_care r j) h

-- what bucket j of a group's record sends of a frame that entered the group with header h
unfoldable pub bucket_sent : Widths → ℕ → ℕ → (ℕ → ℕ → List ℕ) → Rec → ℕ → ℕ → List ℕ
bucket_sent w sw p lower r h j = sent_to (target_kind (bucket_kind r j)) w sw p lower (bucket_target r j) (bucket_header w r j h)

-- what its first k buckets send
unfoldable pub buckets_sent : Widths → ℕ → ℕ → (ℕ → ℕ → List ℕ) → Rec → ℕ → ℕ → List ℕ
buckets_sent w sw p lower r h zero = []
buckets_sent w sw p lower r h (suc k) = buckets_sent w sw p lower r h k ++ bucket_sent w sw p lower r h k

-- what the record of a group sends
abbrev pub record_sent : Widths → ℕ → ℕ → (ℕ → ℕ → List ℕ) → Rec → ℕ → List ℕ
record_sent w sw p lower r h = buckets_sent w sw p lower r h (at r 8)

-- what the groups below k of a switch send, each going on to lower ones only
unfoldable pub lower_sent : Net → Widths → ℕ → ℕ → ℕ → ℕ → ℕ → List ℕ
lower_sent net w sw p zero g h = []
lower_sent net w sw p (suc k) g h =
    elim (eqb g k) [ true ↦ record_sent w sw p (lower_sent net w sw p k) (group_record net sw k) h | false ↦ lower_sent net w sw p k g h ]

-- the copies that group g of a switch sends of a frame that arrived at port p and enters the group with header h
unfoldable pub group_sent : Net → Widths → ℕ → ℕ → ℕ → ℕ → List ℕ
group_sent net w sw p g h = record_sent w sw p (lower_sent net w sw p g) (group_record net sw g) h
