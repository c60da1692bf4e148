-- What the records of rules say, worked out once for each rule.
use Rattle.std.specs.Prelude.{◌≡◌, List, [], ℕ, suc, ◌<◌, length, get_or}
use Rattle.format.specs.Record.{Rec, Net, at, priority, of_kind}
use Rattle.patterns.specs.Matched.{MatchedSet}
use Rattle.widths.specs.declared.Widths.{Widths}
use Rattle.choice.specs.declared.RuleSet.{RuleSet}

-- a rule's switch, its rank where it matches, and the ports and the headers that its two patterns match
pub record SetsOf (w : Widths) (r : Rec) (rule : RuleSet) : Type 0 where
  pub switch : rule.switch ≡ at r 1
  pub rank : rule.rank ≡ suc (priority r)
  pub port : MatchedSet w.p (at r 4) (at r 5) rule.ports
  pub header : MatchedSet w.h (at r 6) (at r 7) rule.headers

-- only the ports and the headers, whatever is there of switch and rank
pub record PatternsOf (w : Widths) (r : Rec) (rule : RuleSet) : Type 0 where
  pub port : MatchedSet w.p (at r 4) (at r 5) rule.ports
  pub header : MatchedSet w.h (at r 6) (at r 7) rule.headers

-- in place of a rule where there is none
abbrev pub no_rule : RuleSet
no_rule = record { switch = 0; rank = 0; ports = 0; headers = 0 }

-- those of the first k rules of a network, each at its number among the rules
abbrev pub SetsBefore : ℕ → Net → Widths → List RuleSet → Type 0
SetsBefore k net w sets = (j : ℕ) → j < k → SetsOf w (get_or (of_kind 4 net) j []) (get_or sets j no_rule)

-- those of all rules
abbrev pub RuleSets : Net → Widths → List RuleSet → Type 0
RuleSets net w sets = SetsBefore (length (of_kind 4 net)) net w sets

-- only the ports and the headers of the first k rules
abbrev pub PatternsBefore : ℕ → Net → Widths → List RuleSet → Type 0
PatternsBefore k net w sets = (j : ℕ) → j < k → PatternsOf w (get_or (of_kind 4 net) j []) (get_or sets j no_rule)

-- of all rules
abbrev pub PatternSets : Net → Widths → List RuleSet → Type 0
PatternSets net w sets = PatternsBefore (length (of_kind 4 net)) net w sets
