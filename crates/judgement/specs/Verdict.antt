-- What a verdict on a network means.
use Rattle.std.specs.Prelude.{ℕ, ◌<◌}
use Rattle.format.specs.Record.{Net, widths_of}
use Rattle.widths.specs.Widths.{states}
use Rattle.format.specs.Policy.{forbidden, policy_count}
use Rattle.truth.specs.Truth.{Truth}
use Rattle.judgement.specs.Model.{model_of}

-- it holds, or the lowest broken policy and its lowest offending state are named
pub data Verdict : Type 0 where
  holds : Verdict
  violated : ℕ → ℕ → Verdict

-- the forbidden condition of policy p is true with the state x as X; Y is not free there, so that its value does not matter
abbrev pub Breaks : Net → ℕ → ℕ → Type 0
Breaks net p x = Truth (model_of net) (forbidden net p) x 0

-- no policy's last node is true for any state as X
abbrev pub Holds : Net → Type 0
Holds net = (p : ℕ) → p < policy_count net → (x : ℕ) → x < states (widths_of net) → Breaks net p x → ⊥

-- p is the lowest broken policy, and x the lowest state that breaks it
pub record Lowest (net : Net) (p x : ℕ) : Type 0 where
  pub a_policy : p < policy_count net
  pub a_state : x < states (widths_of net)
  pub broken : Breaks net p x
  pub no_state_below : (z : ℕ) → z < x → Breaks net p z → ⊥
  pub no_policy_below : (q : ℕ) → q < p → (z : ℕ) → z < states (widths_of net) → Breaks net q z → ⊥

-- the verdict that is meant
abbrev pub Is : Net → Verdict → Type 0
Is net holds = Holds net
Is net (violated p x) = Lowest net p x
