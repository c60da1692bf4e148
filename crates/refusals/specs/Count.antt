-- A network that rows 3 to 10 and 16 pass has at most 657 records: 1 for the widths, 112 links, 16 misses, 256 rules, 256 nodes and 16 groups.
use Rattle.std.specs.Prelude.{◌≡◌, [], ◌∷◌, ◌*◌, ◌≤◌, length}
use Rattle.std.proofs.Math.Option.{none}
use Rattle.std.proofs.Common.{arith}
use Rattle.basics.specs.Lists.{keep}
use Rattle.format.specs.Record.{Net, most_records, most_rules, most_policies, most_nodes, most_groups, of_kind, widths_of}
use Rattle.format.specs.Policy.{policy_count, longest_of, longest}
use Rattle.refusals.specs.Refusal.{file_row}
use Rattle.widths.specs.Laws.Limits.{Limits}
use Rattle.refusals.specs.Laws.Passing.{not_empty}
use Rattle.refusals.specs.Laws.Count.{first_limits, kind_2, kind_3, kind_4, kind_5, kind_9, few_policies, longest_policy, total_bound}

-- at most 112 links, since each takes two of at most 224 ordinary points
pub links_bound : (net : Net) → file_row [] net ≡ none → length (of_kind 2 net) ≤ 112
unfolding of_kind keep
links_bound [] e = omega arith
links_bound (r ∷ rest) e = kind_2 r rest e

-- at most 16 misses, one for each switch
pub misses_bound : (net : Net) → file_row [] net ≡ none → length (of_kind 3 net) ≤ 16
unfolding of_kind keep
misses_bound [] e = omega arith
misses_bound (r ∷ rest) e = kind_3 r rest e

-- at most 256 rules
pub rules_bound : (net : Net) → file_row [] net ≡ none → length (of_kind 4 net) ≤ most_rules
unfolding of_kind keep
rules_bound [] e = omega arith
rules_bound (r ∷ rest) e = kind_4 r rest e

-- at most 256 nodes, 32 for each of 8 policies
pub nodes_bound : (net : Net) → file_row [] net ≡ none → length (of_kind 5 net) ≤ most_policies * most_nodes
unfolding of_kind keep
nodes_bound [] e = omega arith
nodes_bound (r ∷ rest) e = kind_5 r rest e

-- at most 16 groups
pub groups_bound : (net : Net) → file_row [] net ≡ none → length (of_kind 9 net) ≤ most_groups
unfolding of_kind keep
groups_bound [] e = omega arith
groups_bound (r ∷ rest) e = kind_9 r rest e

-- at most 8 policies, the longest of at most 32 nodes
pub policies_bound : (net : Net) → file_row [] net ≡ none → policy_count net ≤ most_policies
unfolding policy_count
policies_bound [] e = omega arith
policies_bound (r ∷ rest) e = few_policies r rest e

pub longest_bound : (net : Net) → file_row [] net ≡ none → longest net ≤ most_nodes
unfolding longest longest_of policy_count
longest_bound [] e = omega arith
longest_bound (r ∷ rest) e = longest_policy r rest e

-- widths within their limits
pub widths_bound : (net : Net) → file_row [] net ≡ none → Limits (widths_of net)
unfolding widths_of
widths_bound [] e = absurd (omega (arith, not_empty [] e))
widths_bound (r ∷ rest) e = first_limits r rest e

-- so at most 657 records
pub count_bound : (net : Net) → file_row [] net ≡ none → length net ≤ most_records
count_bound [] e = omega arith
count_bound (r ∷ rest) e = total_bound r rest e
