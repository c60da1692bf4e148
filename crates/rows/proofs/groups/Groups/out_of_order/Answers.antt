use Rattle.std.proofs.Common.{arith}
use Rattle.std.proofs.lemmas.Grind.{common_steps}
use Rattle.rows.specs.Laws.Groups.{order_by}
use Rattle.rows.proofs.groups.Groups.out_of_order.Goals as goal

pub returns-then-self-ne0 : goal.returns-then-self-ne0
returns-then-self-ne0 c before G = let order = order_by before c.args.self c.args.r.now G in grind (arith, common_steps, order)

pub returns-else-self-ne0 : goal.returns-else-self-ne0
returns-else-self-ne0 c before G = rw (order_by before c.args.self c.args.r.now G, c.if-self-ne0.false)
