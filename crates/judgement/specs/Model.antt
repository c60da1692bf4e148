-- The model of the policy logic that a network is.
use Rattle.std.specs.Prelude.{◌≡◌, true}
use Rattle.format.specs.Record.{Net, widths_of}
use Rattle.widths.specs.Widths.{states}
use Rattle.onestep.specs.Step.{Step, external}
use Rattle.truth.specs.Truth.{Model}

-- the model that a network is
abbrev pub model_of : Net → Model
model_of net = record { count = states (widths_of net); Steps = Step net; External = λ s. external net s ≡ true }
