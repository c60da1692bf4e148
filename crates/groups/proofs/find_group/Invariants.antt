use Rattle.groups.proofs.SearchedGroups.{Sought}
use Rattle.groups.proofs.find_group.Given as goal

-- it is none of the groups before place i
abbrev pub invariant-loop-i : goal.invariant-loop-i
invariant-loop-i l = Sought l.net.n l.net.store.now l.sw l.g l.i
