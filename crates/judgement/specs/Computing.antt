-- What theorems by computation open to find the verdict on a network.
use mathlib.Core.List.{flat_map}
use Rattle.basics.specs.Tabulated.{grid_test, tab, grid}
use Rattle.walks.specs.Computed.{or_line, add_line, round, rounds, closed}
use Rattle.basics.specs.Lists.{member}
use Rattle.format.specs.State.{header_of, port_of, switch_of, direction_of}
use Rattle.format.specs.Policy.{forbidden}
use Rattle.refusals.specs.Computing.{refusing}
use Rattle.onestep.specs.Computing.{sending}
use Rattle.onestep.specs.Step.{across, next_by, next, external}
use Rattle.basics.specs.Below.{any_below, all_below}
use Rattle.truth.specs.Computed.{truth}
use Rattle.judgement.specs.Computed.{table_of, first_from, lowest_state, verdict_from}
use Rattle.judgement.specs.Judgement.{judgement, verdict}

-- all that a refusal and a verdict compute with
unfoldable pub judging : Unit {0}
unfolding flat_map grid_test or_line add_line round rounds tab grid closed member header_of port_of switch_of direction_of forbidden refusing sending across next_by next external table_of any_below all_below truth first_from lowest_state verdict_from judgement verdict
judging = tt
