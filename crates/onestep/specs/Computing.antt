-- What theorems by computation open to choose the rules that act and to run their actions.
use Rattle.basics.specs.Bit.{bit_of}
use Rattle.basics.specs.Lists.{keep, any, from}
use Rattle.format.specs.Record.{of_kind, priority, action_kind, widths_of}
use Rattle.format.specs.Group.{target_kind, is_group}
use Rattle.format.specs.Search.{first_at}
use Rattle.format.specs.State.{state, ordinary}
use Rattle.format.specs.Pattern.{ternary, matches, put_bits}
use Rattle.onestep.specs.Chosen.{rule_matches, outranked, best, or_miss, chosen}
use Rattle.onestep.specs.Departing.{except, departing}
use Rattle.onestep.specs.Groups.{group_record, bucket_sent, buckets_sent, lower_sent, group_sent}
use Rattle.onestep.specs.Actions.{named, reached, sent_by, header_after, copies, sent}

-- all that is sent computes with
unfoldable pub sending : Unit {0}
unfolding bit_of keep any from of_kind priority action_kind widths_of state ordinary ternary matches put_bits rule_matches outranked best or_miss chosen except departing target_kind is_group first_at group_record bucket_sent buckets_sent lower_sent group_sent named reached sent_by header_after copies sent
sending = tt
