-- The rule choice: which records act on a frame that arrives.
use Rattle.std.specs.Prelude.{Bool, not, ◌&&◌, [], ◌∷◌, ℕ, eqb, ltb, get_or}
use Rattle.basics.specs.Lists.{keep, any}
use Rattle.format.specs.Record.{Rec, Net, at, of_kind, priority, widths_of}
use Rattle.format.specs.Pattern.{matches}
use Rattle.widths.specs.declared.Widths.{Widths}

-- a frame that arrives at a port of a switch
pub record Arrival : Type 0 where
  pub switch : ℕ
  pub port : ℕ
  pub header : ℕ

-- a rule matches an arrival: its switch, its port pattern and its header pattern
unfoldable pub rule_matches : Widths → Arrival → Rec → Bool
rule_matches w a r =
    eqb (at r 1) a.switch && matches w.p (at r 4) (at r 5) a.port && matches w.h (at r 6) (at r 7) a.header

-- one of the rules has a higher priority than r
unfoldable pub outranked : Rec → Net → Bool
outranked r rules = any (λ s. ltb (priority r) (priority s)) rules

-- of some rules, all that none of them outranks, in the order of the file
unfoldable pub best : Net → Net
best rules = keep (λ r. not (outranked r rules)) rules

-- the rules that act; with no match, the miss record, of which there is one per switch, ascending
unfoldable pub or_miss : Net → Rec → Net
or_miss [] miss = miss ∷ []
or_miss (r ∷ rules) miss = r ∷ rules

-- the records that act on an arrival
unfoldable pub chosen : Net → Arrival → Net
chosen net a = or_miss (best (keep (rule_matches (widths_of net) a) (of_kind 4 net))) (get_or (of_kind 3 net) a.switch [])
