-- Where the parts of a network stand that no row refuses, and what the end of its records answers.
use Rattle.std.specs.Prelude.{◌≡◌, true, [], ℕ, ◌+◌, ◌-◌, ◌*◌, ◌^◌, ◌≤◌, ◌<◌, length, take, drop, Result, MatchResult}
use Rattle.std.proofs.Math.Option.{none}
use Rattle.format.specs.Record.{Net, most_rules, most_policies, most_nodes, most_groups, of_kind, widths_of}
use Rattle.widths.specs.Widths.{within_limits}
use Rattle.format.specs.Policy.{policy_count, longest}
use Rattle.refusals.specs.Numbers.{refusal_of}
use Rattle.refusals.specs.Refusal.{file_row}
use Rattle.refusals.specs.declared.Refused.{Refused}
use Rattle.recordrow.specs.declared.Seen.{Seen}
use Rattle.scan.specs.declared.Layout.{Layout}

-- the widths record, the links, the misses of all switches, the rules, the nodes and the groups stand one after the other
pub record LayoutOf (net : Net) (l : Layout) : Type 0 where
  pub widths : l.widths ≡ widths_of net
  pub limits : within_limits l.widths ≡ true
  pub links : of_kind 2 net ≡ take (l.misses - 1) (drop 1 net)
  pub misses : of_kind 3 net ≡ take (l.rules - l.misses) (drop l.misses net)
  pub rules : of_kind 4 net ≡ take (l.nodes - l.rules) (drop l.rules net)
  pub nodes : of_kind 5 net ≡ take (l.groups - l.nodes) (drop l.nodes net)
  pub groups : of_kind 9 net ≡ drop l.groups net
  pub some_widths : 1 ≤ l.misses
  pub switches : l.rules ≡ l.misses + 2 ^ l.widths.w
  pub few_rules : (l.rules ≤ l.nodes) × (l.nodes ≤ l.rules + most_rules)
  pub within : (l.nodes ≤ l.groups) × (l.groups ≤ length net)
  pub few_groups : length net ≤ l.groups + most_groups
  pub policies : l.policies ≡ policy_count net
  pub few_policies : l.policies ≤ most_policies
  pub longest : l.longest ≡ longest net
  pub few_nodes : l.longest ≤ most_nodes

-- the layout by the number of records of each kind
pub record Counted (net : Net) (l : Layout) : Type 0 where
  pub widths : l.widths ≡ widths_of net
  pub misses : l.misses ≡ 1 + length (of_kind 2 net)
  pub rules : l.rules ≡ l.misses + length (of_kind 3 net)
  pub nodes : l.nodes ≡ l.rules + length (of_kind 4 net)
  pub groups : l.groups ≡ length net - length (of_kind 9 net)
  pub policies : l.policies ≡ policy_count net
  pub longest : l.longest ≡ longest net

-- what the end of the records answers: row 7, or the layout by numbers
abbrev pub Ended : Net → Result Layout Refused → Type 0
Ended net answer =
    MatchResult answer (λ l. (file_row net [] ≡ none) × Counted net l) (λ refused. refusal_of refused ≡ file_row net [])

-- the numbers of a scan over n records of a store are small
pub record Bounded (s : Seen) (n : ℕ) : Type 0 where
  pub stored : n * 24 < 2 ^ 64
  pub links : s.links ≤ n
  pub misses : s.misses ≤ n
  pub rules : s.rules ≤ n
  pub groups : s.groups.count ≤ n
  pub switch_width : s.widths.w ≤ 4
