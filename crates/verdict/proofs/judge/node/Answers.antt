use native.Mathlib.Omega.{arith}
use Rattle.scan.specs.Laws.PassedRecords.{parts_within}
use Rattle.verdict.proofs.judge.node.Goals as goal

pub record-requires : goal.record-requires
record-requires c = let net = c.args.net.now in omega (arith, parts_within net.n net.layout net.store.now net.stored)
