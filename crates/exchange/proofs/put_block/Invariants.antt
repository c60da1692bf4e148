-- `exchange::put_block` meets its contract.
use Rattle.exchange.specs.Blocks.{Spread}
use Rattle.exchange.proofs.put_block.Given as goal

abbrev pub invariant-loop-i : goal.invariant-loop-i
invariant-loop-i l = Spread l.a l.pitch l.i l.v l.initial.p l.p
