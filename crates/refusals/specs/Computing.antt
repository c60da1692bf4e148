-- What theorems by computation open to find the rows that refuse a network or a command.
use Rattle.basics.specs.Bit.{bit_of}
use Rattle.basics.specs.Lists.{keep, any, all, same_numbers, from}
use Rattle.format.specs.Record.{record_kind, command_kind, action_kind, records, of_kind, same_rule, present, ends_at, linked, widths_of}
use Rattle.format.specs.Group.{target_kind, is_group, has_group, runs_there, actions_there, goes_there, buckets_there, groups_there}
use Rattle.widths.specs.Widths.{states, plane_bytes, within_limits}
use Rattle.format.specs.Version.{version_good, version_named, version_of, acting}
use Rattle.format.specs.State.{ordinary}
use Rattle.format.specs.Pattern.{pattern_good}
use Rattle.format.specs.Policy.{node_kind, node_says, first_nodes, formula, nodes_of, policy_count, longest_of, longest, free}
use Rattle.format.specs.Fields.{zeros, point_good, action_bytes_good, action_good, actions_good, match_good, node_good, bucket_good, buckets_good, fields_good, command_good}
use Rattle.refusals.specs.Rows.{row1, row2, row3, row4, row5, row6, row7, row8, row9, row10, row11, row12, row13, row16, row16_command, misses_incomplete, operands_good, ends_policy, free_at, ascends, last_group, out_of_order, work_needed}
use Rattle.refusals.specs.Refusal.{record_row, file_row, arguments_row, network_row, check_refusal, command_row, command_refusal}

-- all that a refusal computes with
unfoldable pub refusing : Unit {0}
unfolding bit_of keep any all same_numbers from record_kind command_kind action_kind records of_kind same_rule present ends_at linked target_kind is_group has_group runs_there actions_there goes_there buckets_there groups_there states plane_bytes within_limits widths_of version_good version_named version_of acting ordinary pattern_good node_kind node_says first_nodes formula nodes_of policy_count longest_of longest free zeros point_good action_bytes_good action_good actions_good match_good node_good bucket_good buckets_good fields_good command_good row1 row2 row3 row4 row5 row6 row7 row8 row9 row10 row11 row12 row13 row16 row16_command misses_incomplete operands_good ends_policy free_at ascends last_group out_of_order work_needed record_row file_row arguments_row network_row check_refusal command_row command_refusal
refusing = tt
