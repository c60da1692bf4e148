-- `verdict::judge::externals` meets its contract. The loop's invariant: the first z bits are made, the others are not set.
use Rattle.format.specs.Record.{records}
use Rattle.onestep.specs.Step.{external}
use Rattle.lines.specs.Laws.LineBits.{Upto}
use Rattle.verdict.proofs.judge.externals.Given as goal

abbrev pub invariant-loop-z : goal.invariant-loop-z
invariant-loop-z l = Upto (external (records l.net.n l.net.store.now)) l.z l.row
