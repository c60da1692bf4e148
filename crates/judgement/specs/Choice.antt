-- A choice among equals: each arriving state takes the steps of just one of the records that may act on it.
use Rattle.std.specs.Prelude.{◌≡◌, true, ℕ, ◌<◌}
use mathlib.Core.List.{[], ◌∷◌, Memᴰ}
use Rattle.basics.specs.Lists.{member}
use Rattle.format.specs.Record.{Rec, Net, widths_of}
use Rattle.widths.specs.Widths.{states}
use Rattle.format.specs.State.{direction_of}
use Rattle.format.specs.Policy.{forbidden, policy_count}
use Rattle.onestep.specs.Chosen.{chosen}
use Rattle.onestep.specs.Step.{arrival_of, next_by, external}
use Rattle.truth.specs.Truth.{Model, Truth}
use Rattle.truth.specs.Even.{Even}

-- a choice gives each arriving state one of the records that may act on it
abbrev pub Choice : Net → (ℕ → Rec) → Type 0
Choice net c = (s : ℕ) → s < states (widths_of net) → direction_of (widths_of net) s ≡ 0 → Memᴰ (c s) (chosen net (arrival_of net s))

-- the model that a network is where each state takes the steps of its one record; states, links and external points are as they are
abbrev pub under_choice : Net → (ℕ → Rec) → Model
under_choice net c =
    record { count = states (widths_of net); Steps = λ s t. member t (next_by net (c s ∷ []) s) ≡ true; External = λ s. external net s ≡ true }

-- the forbidden condition of policy p is true there with the state x as X; Y is not free in it, so that its value does not matter
abbrev pub BreaksUnder : Net → (ℕ → Rec) → ℕ → ℕ → Type 0
BreaksUnder net c p x = Truth (under_choice net c) (forbidden net p) x 0

-- policy p holds there: its last node is true for no state as X
abbrev pub HoldsUnder : Net → (ℕ → Rec) → ℕ → Type 0
HoldsUnder net c p = (x : ℕ) → x < states (widths_of net) → BreaksUnder net c p x → ⊥

-- every even policy of a network holds under every choice
abbrev pub EvenPoliciesHold : Net → Type 0
EvenPoliciesHold net = (p : ℕ) → p < policy_count net → Even (forbidden net p) → (c : ℕ → Rec) → Choice net c → HoldsUnder net c p
