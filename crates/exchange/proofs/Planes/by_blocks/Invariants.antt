-- `exchange::Planes::by_blocks` meets its contract.
use Rattle.exchange.specs.Blocks.{Blocked}
use Rattle.exchange.proofs.Planes.by_blocks.Given as goal

abbrev pub invariant-loop-c : goal.invariant-loop-c
invariant-loop-c l = Blocked l.self.from l.self.to l.self.pitch l.c 0 l.initial.work l.work
