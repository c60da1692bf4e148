-- `exchange::Planes::turn_block` meets its contract.
use native.Mathlib.Omega.{arith}
use Rattle.exchange.proofs.Exchanging.{parted_apart}
use Rattle.exchange.proofs.Blocks.{line_within, blocked_more}
use Rattle.exchange.proofs.Planes.turn_block.Goals as goal

pub block_at-v-requires : goal.block_at-v-requires
block_at-v-requires c =
    let P = c.requires in
    (omega (arith, line_within _ _ _ 7 P.2 P.1 (omega arith), P.0, c.args.self.first))

pub put_block-requires : goal.put_block-requires
put_block-requires c =
    let P = c.requires in
    (omega (arith, line_within _ _ _ 7 P.1 P.2 (omega arith), P.0, c.args.self.second), omega (arith, P.1))

pub returns : goal.returns
returns c = λ before T.
    let P = c.requires in
    blocked_more _ _ _ (parted_apart _ _ _ c.args.self.parted) _ _ _ _ _ _ _ P.1 P.2 c.block_at-v.ensures c.turned.ensures c.put_block.ensures T
