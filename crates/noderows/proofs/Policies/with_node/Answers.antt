use Rattle.std.proofs.Common.{◌≡◌, cond, ◌^◌, ◌∙◌, arith}
use Rattle.std.specs.Int.Bits.{bit_or}
use Rattle.basics.specs.Laws.Shifts.{shl_one}
use Rattle.noderows.specs.Laws.Entered.{policies_node}
use Rattle.noderows.proofs.Policies.with_node.Goals.{then-y, else-y}
use Rattle.noderows.proofs.Policies.with_node.Goals as goal

pub returns : goal.returns
returns c before x node known e =
    let s = c.args.self in
    let free : c.if-y.result ≡ cond c.args.y (bit_or s.free (2 ^ s.nodes)) s.free =
    elim c.if-y.branch [
      | then-y w ↦ w.result-is ∙ rw (w.if-y.true, shl_one c.args.self.nodes 32 (omega (arith, c.requires)))
      | else-y w ↦ w.result-is ∙ rw w.if-y.false
    ]
    in
    rw (free, c.max.ensures) (policies_node before s x c.args.y node known e)
