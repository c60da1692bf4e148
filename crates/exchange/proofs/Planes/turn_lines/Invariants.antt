-- `exchange::Planes::turn_lines` meets its contract.
use mathlib.Core.Path.{◌≡◌}
use mathlib.Core.List.{List}
use Prim.Native.Nat.{ℕ}
use lib.ListN.{length}
use Rattle.exchange.specs.Blocks.{Blocked}
use Rattle.exchange.proofs.Planes.turn_lines.Given as goal

abbrev pub invariant-loop-r : goal.invariant-loop-r
invariant-loop-r l = (length l.work ≡ length l.initial.work) × ((before : List ℕ) → Blocked l.self.from l.self.to l.self.pitch l.c 0 before l.initial.work → Blocked l.self.from l.self.to l.self.pitch l.c l.r before l.work)
