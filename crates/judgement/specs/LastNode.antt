-- The value of Y does not matter at a policy's last node.
use Rattle.std.specs.Prelude.{◌≡◌, [], ◌↔◌, ℕ, ◌<◌}
use Rattle.std.proofs.Math.Option.{none}
use Rattle.format.specs.Record.{Net}
use Rattle.format.specs.Policy.{forbidden, policy_count}
use Rattle.refusals.specs.Refusal.{file_row}
use Rattle.refusals.specs.Laws.Closed.{forbidden_closed}
use Rattle.truth.specs.Truth.{Model, Truth}
use Rattle.truth.specs.Laws.Free.{any_Y}

-- in every network that rows 3 to 10 and 16 pass, the forbidden condition of a policy has the same truth for every Y, in any model
pub last_node_any_Y : (net : Net) → file_row [] net ≡ none → (p : ℕ) → p < policy_count net → (m : Model) (x y y' : ℕ)
    → Truth m (forbidden net p) x y ↔ Truth m (forbidden net p) x y'
last_node_any_Y net passes p h m = any_Y m (forbidden net p) (forbidden_closed net passes p h)
