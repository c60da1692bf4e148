-- `exchange::block_at` meets its contract.
use Rattle.exchange.proofs.Blocks.{Read}
use Rattle.exchange.proofs.block_at.Given as goal

abbrev pub invariant-loop-i : goal.invariant-loop-i
invariant-loop-i l = Read l.a l.pitch l.p l.i l.v
