-- `exchange::Planes::by_bits` meets its contract.
use mathlib.Core.Path.{◌≡◌}
use mathlib.Core.List.{List}
use Prim.Native.Nat.{ℕ}
use lib.ListN.{length}
use Rattle.exchange.specs.Swapped.{Swapped}
use Rattle.exchange.proofs.Planes.by_bits.Given as goal

abbrev pub invariant-loop-x : goal.invariant-loop-x
invariant-loop-x l = (length l.work ≡ length l.initial.work) × ((before : List ℕ) → Swapped l.self.from l.self.to l.self.pitch 0 0 before l.initial.work → Swapped l.self.from l.self.to l.self.pitch l.x 0 before l.work)
