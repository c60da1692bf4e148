-- An arrival and its rules by their bytes.
use Rattle.std.specs.Prelude.{◌≡◌, true, cond, List, ◌∷◌, ℕ, suc, ◌^◌, ◌<◌}
use Rattle.format.specs.Record.{Rec, priority}
use Rattle.widths.specs.Widths.{within_limits}
use Rattle.widths.specs.declared.Widths.{Widths}
use Rattle.onestep.specs.Chosen.{Arrival, rule_matches}

-- the arrival at a port of a switch, with a header
abbrev pub arrival : ℕ → ℕ → ℕ → Arrival
arrival sw p h = record { switch = sw; port = p; header = h }

-- its port and its header are within widths that are within their limits
pub record FrameWithin (w : Widths) (p h : ℕ) : Type 0 where
  pub limits : within_limits w ≡ true
  pub port : p < 2 ^ w.p
  pub header : h < 2 ^ w.h

-- a record by its bytes from byte 1 on, where its kind does not matter
abbrev pub of_body : List ℕ → Rec
of_body body = 0 ∷ body

-- the rank of a rule for an arrival: 0 where it does not match, else one above its priority
unfoldable pub rank_of : Widths → Arrival → Rec → ℕ
rank_of w a r = cond (rule_matches w a r) (suc (priority r)) 0
