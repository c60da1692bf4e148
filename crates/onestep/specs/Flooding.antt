-- What OUTPUT with stars reaches, and which actions are run.
use Rattle.std.specs.Prelude.{◌≡◌, true, ◌&&◌, List, ℕ, ◌<◌}
use Rattle.basics.specs.Lists.{keep}
use Rattle.format.specs.Record.{Rec, at}
use Rattle.format.specs.Fields.{action_good}
use Rattle.format.specs.State.{ordinary}
use Rattle.format.specs.Pattern.{matches}
use Rattle.widths.specs.declared.Widths.{Widths}
use Rattle.onestep.specs.Departing.{except}

-- of some ports those that OUTPUT with stars reaches: ordinary, matching and not the arrival port p
unfoldable pub flooded : Widths → ℕ → ℕ → ℕ → List ℕ → List ℕ
flooded w p value care ports = except p (keep (λ q. ordinary w q && matches w.p value care q) ports)

-- action i of a record is one of those that it uses, and good
pub record UsedAction (w : Widths) (r : Rec) (i : ℕ) : Type 0 where
  pub few : i < 4
  pub used : i < at r 8
  pub good : action_good w r (at r 8) i ≡ true
