-- What a group sends.
use Rattle.std.specs.Prelude.{◌≡◌, true, List, ℕ, ◌+◌, ◌^◌, ◌<◌, ◌≤◌, length}
use Rattle.format.specs.Record.{Net, records}
use Rattle.format.specs.Group.{target_kind}
use Rattle.scan.specs.declared.network.Network.{Network}
use Rattle.states.specs.declared.Frame.{Frame}
use Rattle.onestep.specs.Groups.{sent_to, lower_sent, group_sent}
use Rattle.widths.specs.declared.Widths.{Widths}
use Rattle.widths.specs.Widths.{line_bytes, within_limits}
use Rattle.groups.specs.Marks.{DoneAt, RanAt}

-- a line starts at byte line, and a state with header h has its bit there
pub record LineRoom (w : Widths) (line h : ℕ) (work : List ℕ) : Type 0 where
  pub limits : within_limits w ≡ true
  pub room : line + line_bytes w ≤ length work
  pub header : h < 2 ^ w.h

-- a copy at a switch with a header has its bit in the line
pub record Sends (w : Widths) (line sw h : ℕ) (work : List ℕ) : Type 0 where
  pub ready : LineRoom w line h work
  pub switch : sw < 2 ^ w.w

-- what group g sends of a frame that arrived where this one did and enters it with header h
abbrev pub sends_at : Network → Frame → ℕ → ℕ → List ℕ
sends_at net frame g h = group_sent (records net.n net.store.now) net.layout.widths frame.switch frame.port g h

-- a frame with header h may run groups: there is room for all marks, and the groups that are marked have their copies in the line
pub record Ready (net : Net) (w : Widths) (line sw p h : ℕ) (work marks : List ℕ) : Type 0 where
  pub sends : Sends w line sw h work
  pub room : 128 ≤ length marks
  pub done : DoneAt (group_sent net w sw p) line (line_bytes w) work marks

-- the copies in l were added to the line, and the groups that are marked then have theirs in it
abbrev pub GroupsRan : Net → Widths → ℕ → ℕ → ℕ → List ℕ → List ℕ → List ℕ → List ℕ → List ℕ → Type 0
GroupsRan net w line sw p l work marks work' marks' = RanAt (group_sent net w sw p) line (line_bytes w) l work marks work' marks'

-- what a bucket of group g sends to its target, with the header that it set
abbrev pub target_sends : Net → Widths → ℕ → ℕ → ℕ → ℕ → ℕ → ℕ → List ℕ
target_sends net w sw p g kind target header = sent_to (target_kind kind) w sw p (lower_sent net w sw p g) target header
