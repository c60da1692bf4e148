-- A network that was built in a buffer.
use Rattle.std.specs.Prelude.{◌≡◌, List, ℕ, ◌-◌, length, replicate}
use Rattle.std.proofs.Common.{ap₂, ◌∙◌}
use Rattle.format.specs.Record.{Net, store_bytes, records, flat}
use Rattle.format.specs.Laws.Records.{Whole, flat_back}
use Rattle.commands.specs.Effect.{padded, Built}

-- and its records are read back from a buffer that it was made in
pub built_records : {net : Net} {count : ℕ} {next : List ℕ} → Built net count next → Whole net → records count next ≡ net
unfolding padded
built_records {net} m w =
    ap₂ records m.count_is m.bytes_are ∙ flat_back net (replicate (store_bytes - length (flat net)) 0) w
