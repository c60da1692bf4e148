-- Copies that depart from a switch.
use Rattle.std.specs.Prelude.{not, List, map, ℕ, eqb}
use Rattle.basics.specs.Lists.{keep}
use Rattle.format.specs.State.{state}
use Rattle.widths.specs.declared.Widths.{Widths}

-- some ports without the arrival port p
unfoldable pub except : ℕ → List ℕ → List ℕ
except p ports = keep (λ q. not (eqb q p)) ports

-- the copies with header h that depart from a switch at some ports
unfoldable pub departing : Widths → ℕ → ℕ → List ℕ → List ℕ
departing w sw h ports = map (λ q. state w 1 sw q h) ports
