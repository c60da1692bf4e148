-- `lines::join_of` meets its contract.
use Rattle.lines.proofs.RowJoins.{joins_full, joins_two, joins_full_from, joins_from_full}
use Rattle.lines.proofs.join_of.Goals as goal

pub returns-in-Full-Full : goal.returns-in-Full-Full
returns-in-Full-Full c = rw (c.in-Full-Full.is-0, c.in-Full-Full.is-1) (joins_full _ _ _ _ c.byte.ensures)

pub returns-in-From-From : goal.returns-in-From-From
returns-in-From-From c = rw (c.in-From-From.is-0, c.in-From-From.is-1) (joins_two _ _ _)

pub returns-in-Full-From : goal.returns-in-Full-From
returns-in-Full-From c =
    let J = c.join_full.ensures in
    rw (c.in-Full-From.is-0, c.in-Full-From.is-1)
    (joins_full_from _ _ _ _ _ _ (rw c.in-Full-From.is-0 at c.requires.even.0) c.byte-in-Full-From.ensures c.byte-in-Full-From-2.ensures J.one J.own)

pub returns-in-From-Full : goal.returns-in-From-Full
returns-in-From-Full c =
    let J = c.join_full-in-From-Full.ensures in
    rw (c.in-From-Full.is-0, c.in-From-Full.is-1)
    (joins_from_full _ _ _ _ _ _ (rw c.in-From-Full.is-1 at c.requires.even.1) c.byte-in-From-Full.ensures c.byte-in-From-Full-2.ensures J.one J.own)
