use Rattle.streams.specs.Reading.{Holding}
use Prim.Native.Nat.{◌≤◌}
use Rattle.format.specs.Record.{most_records}
use Rattle.gate.proofs.load.Given as goal

abbrev pub invariant-loop-n : goal.invariant-loop-n
invariant-loop-n l = (l.n ≤ most_records) × Holding l.n l.initial.store l.store
