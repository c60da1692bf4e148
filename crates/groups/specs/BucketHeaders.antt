-- What the buckets of groups make of headers, worked out once for each bucket and header.
use Rattle.std.specs.Prelude.{◌≡◌, List, [], ℕ, ◌+◌, ◌-◌, ◌*◌, ◌<◌, ◌≤◌, length, get_or}
use Rattle.format.specs.Record.{Net}
use Rattle.scan.specs.declared.Layout.{Layout}
use Rattle.onestep.specs.Groups.{bucket_header}

-- the table has 64 entries for each of 3 buckets of each of 16 groups
abbrev pub most_entries : ℕ
most_entries = 3072

-- the entry for header h of at most 6 bits, at bucket j of group k of the network
abbrev pub entry : ℕ → ℕ → ℕ → ℕ
entry k j h = (k * 3 + j) * 64 + h

-- the entries before entry x: what SET by bucket j of the group at place i makes of header h
abbrev pub HeadersBefore : ℕ → Net → Layout → List ℕ → Type 0
HeadersBefore x net l buckets =
    (i j h : ℕ) → l.groups ≤ i → j < 3 → h < 64 → entry (i - l.groups) j h < x
    → get_or buckets (entry (i - l.groups) j h) 0 ≡ bucket_header l.widths (get_or net i []) j h

-- those of all groups
abbrev pub BucketHeaders : Net → Layout → List ℕ → Type 0
BucketHeaders net l buckets = HeadersBefore ((length net - l.groups) * 192) net l buckets
