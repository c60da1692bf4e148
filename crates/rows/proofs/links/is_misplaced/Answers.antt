use Rattle.std.proofs.Common.{arith}
use Rattle.std.proofs.lemmas.Grind.{common_steps}
use Rattle.format.specs.Record.{at}
use Rattle.rows.proofs.Misplaced.{link_row}
use Rattle.rows.proofs.links.is_misplaced.Goals as goal

pub returns-then-has-2 : goal.returns-then-has-2
returns-then-has-2 c before w P =
    let r = c.args.r.now in
    let ends = c.requires.1 in
    let row = link_row c.args.w before r c.requires.0 w in
    let one = P.is (at r 1) (at r 2) ends.one.0 ends.one.1 in
    let other = P.is (at r 3) (at r 4) ends.other.0 ends.other.1 in
    grind (arith, common_steps, row, one, other)

pub returns-else-has-2 : goal.returns-else-has-2
returns-else-has-2 c before w P =
    let r = c.args.r.now in
    let ends = c.requires.1 in
    let row = link_row c.args.w before r c.requires.0 w in
    let one = P.is (at r 1) (at r 2) ends.one.0 ends.one.1 in
    let other = P.is (at r 3) (at r 4) ends.other.0 ends.other.1 in
    grind (arith, common_steps, row, one, other)
