use Rattle.std.proofs.Common.{◌≡◌, []}
use Rattle.format.specs.Record.{records}
use Rattle.refusals.specs.Refusal.{file_row}
use Rattle.recordrow.specs.Scan.{SeenOf, NotedOf}
use Rattle.scan.specs.Laws.File.{file_from}
use Rattle.scan.proofs.scan.Given as goal

abbrev pub invariant-loop-i : goal.invariant-loop-i
invariant-loop-i l = SeenOf (records l.i l.store) l.seen × (file_row [] (records l.n l.store) ≡ file_from l.store l.n l.i) × NotedOf (records l.i l.store) l.notes
