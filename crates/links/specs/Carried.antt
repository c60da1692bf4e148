-- What links carry, and where they end.
use Rattle.std.specs.Prelude.{◌≡◌, Bool, true, cond, not, ◌&&◌, List, [], ◌∷◌, ℕ, ◌+◌, ◌*◌, ◌/◌, ◌%◌, ◌^◌, ◌<◌, ◌≤◌, eqb, length}
use Rattle.planes.specs.Plane.{bit, plane_size}
use Rattle.basics.specs.Lists.{member}
use Rattle.format.specs.Record.{Rec, Net, at, linked}
use Rattle.format.specs.Fields.{point_good}
use Rattle.format.specs.State.{header_of, port_of, switch_of, direction_of}
use Rattle.widths.specs.Widths.{states, within_limits, line_bytes}
use Rattle.widths.specs.declared.Widths.{Widths}
use Rattle.onestep.specs.Relayed.{arriving}
use Rattle.links.specs.declared.Link.{Link}
use Rattle.links.specs.declared.Points.{Points}

-- a plane starts at byte base
pub record PlaneRoom (w : Widths) (base : ℕ) (work : List ℕ) : Type 0 where
  pub limits : within_limits w ≡ true
  pub room : base + plane_size (line_bytes w) ≤ length work

-- where the point (sw, p) is the point (a, b), the point (c, d)
unfoldable pub one_way : ℕ → ℕ → ℕ → ℕ → ℕ → ℕ → List (ℕ × ℕ)
one_way a b c d sw p = cond (eqb a sw && eqb b p) ((c, d) ∷ []) []

-- the ends of a link, by its record
abbrev pub link_of : Rec → Link
link_of l = record { one = record { switch = at l 1; port = at l 2 }; other = record { switch = at l 3; port = at l 4 } }

-- both ends of a link are points
pub record AreEnds (w : Widths) (link : Link) : Type 0 where
  pub one : point_good w link.one.switch link.one.port ≡ true
  pub other : point_good w link.other.switch link.other.port ≡ true

-- the bit of a pair of states in a plane
abbrev pub pair : Widths → ℕ → ℕ → ℕ
pair w s t = s * states w + t

-- the bits of the pairs of a relation
abbrev pub pairs : Widths → (ℕ → ℕ → Bool) → ℕ → Bool
pairs w f n = f (n / states w) (n % states w)

-- s departs, and t arrives with its header at one of the ends across from its point
unfoldable pub crosses : Widths → (ℕ → ℕ → List (ℕ × ℕ)) → ℕ → ℕ → Bool
crosses w ends s t = not (eqb (direction_of w s) 0) && member t (arriving w (header_of w s) (ends (switch_of w s) (port_of w s)))

-- the number of a point
abbrev pub point : Widths → ℕ → ℕ → ℕ
point w sw p = sw * 2 ^ w.p + p

-- just the points where links end are in the set
pub record LinkedPoints (net : Net) (w : Widths) (points : Points) : Type 0 where
  pub is : (sw p : ℕ) → sw < 2 ^ w.w → p < 2 ^ w.p → bit points.bits (point w sw p) ≡ linked net sw p
