-- What the scan over a network's records knows of the records before, and what it answers.
use Rattle.std.specs.Prelude.{◌≡◌, true, [], ◌∷◌, ◌++◌, ◌-◌, ◌≤◌, ◌<◌, eqb, length, get_or, Result, MatchResult}
use Rattle.std.proofs.Math.Option.{none, some}
use Rattle.format.specs.Record.{Rec, Net, kind, of_kind, widths_of}
use Rattle.widths.specs.Widths.{within_limits}
use Rattle.refusals.specs.Rows.{row3, row5}
use Rattle.refusals.specs.Numbers.{row_number}
use Rattle.refusals.specs.declared.Row.{Row}
use Rattle.refusals.specs.Refusal.{Refusal, or_else, row, record_row}
use Rattle.recordrow.specs.declared.Seen.{Seen}
use Rattle.recordrow.specs.declared.Notes.{Notes}
use Rattle.noderows.specs.Policies.{PoliciesOf}
use Rattle.rows.specs.Groups.{GroupsOf}
use Rattle.rows.specs.Noted.{KeysNoted, PointsNoted}

-- what is noted of the records before: the keys of their rules, and the points where their links end
pub record NotedOf (before : Net) (notes : Notes) : Type 0 where
  pub keys : KeysNoted before notes.keys
  pub points : PointsNoted before notes.points

-- the widths are within their limits once the widths record was passed
abbrev pub Limited : Seen → Type 0
Limited s = (s.last ≡ 0 → ⊥) → within_limits s.widths ≡ true

-- what is known of the records before
pub record SeenOf (before : Net) (s : Seen) : Type 0 where
  pub last : s.last ≡ kind (get_or before (length before - 1) [])
  pub started : eqb (length before) 0 ≡ eqb s.last 0
  pub widths : s.widths ≡ widths_of before
  pub limits : Limited s
  pub links : s.links ≡ length (of_kind 2 before)
  pub misses : s.misses ≡ length (of_kind 3 before)
  pub rules : s.rules ≡ length (of_kind 4 before)
  pub policies : PoliciesOf before s.policies
  pub groups : GroupsOf before s.groups

-- rows 3 and 5
abbrev pub form_row : Net → Rec → Refusal
form_row before r = or_else (row (row3 before r) 3 (length before)) (row (row5 before r) 5 (length before))

-- what a turn answers: the lowest row that the record meets, or what is known after it
abbrev pub Turned : Net → Rec → Net → Result Seen Row → Type 0
Turned before r after answer =
    MatchResult answer (λ s. (record_row before r after ≡ none) × SeenOf (before ++ (r ∷ [])) s) (λ k. record_row before r after ≡ some (row_number k, length before))

-- a record may have this kind after the widths record
abbrev pub Later : Rec → Type 0
Later r = (2 ≤ kind r) × (5 < kind r → kind r ≡ 9)
