-- The table of what buckets make of headers, one entry more.
use Rattle.std.specs.Prelude.{◌≡◌, refl, List, [], ℕ, ◌+◌, ◌-◌, ◌/◌, ◌%◌, ◌<◌, length, get_or, set}
use Rattle.std.proofs.Common.{ap, ◌∙◌, arith, get_or-set_same, get_or-set_other}
use Rattle.std.proofs.Math.Decide.{ℕ_discrete}
use Rattle.format.specs.Record.{Net}
use Rattle.scan.specs.declared.Layout.{Layout}
use Rattle.onestep.specs.Groups.{bucket_header}
use Rattle.groups.specs.BucketHeaders.{entry, HeadersBefore}

module _ (net : Net) (l : Layout) (x : ℕ) (buckets : List ℕ) (before : HeadersBefore x net l buckets) where
  pub headers_more : (v : ℕ) → x < length buckets → v ≡ bucket_header l.widths (get_or net (l.groups + x / 192) []) (x / 64 % 3) (x % 64)
      → HeadersBefore (x + 1) net l (set buckets x v)
  headers_more v room e i j h low lj lh lt = go (ℕ_discrete (entry (i - l.groups) j h) x)
    where
      go : Dec (entry (i - l.groups) j h ≡ x) → get_or (set buckets x v) (entry (i - l.groups) j h) 0 ≡ bucket_header l.widths (get_or net i []) j h
      go (yes q) =
          let ei : l.groups + x / 192 ≡ i = omega arith in
          let ej : x / 64 % 3 ≡ j = omega arith in
          let eh : x % 64 ≡ h = omega arith in
          ap (λ (y : ℕ). get_or (set buckets x v) y 0) q ∙ get_or-set_same buckets x v 0 room ∙ e ∙ rw (ei, ej, eh) refl
      go (no q) = get_or-set_other buckets x (entry (i - l.groups) j h) v 0 q ∙ before i j h low lj lh (omega (arith, q))
