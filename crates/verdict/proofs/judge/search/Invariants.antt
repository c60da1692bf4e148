-- `verdict::judge::search` meets its contract. The loop's invariant: the policies whose nodes stand before `start` are not broken.
use Rattle.verdict.proofs.PolicySearch.{Passed}
use Rattle.verdict.proofs.judge.search.Given as goal

abbrev pub invariant-loop-policy : goal.invariant-loop-policy
invariant-loop-policy l =
    Passed l.net.store.now l.net.layout.nodes l.net.layout.groups l.net.n l.ground.pitch l.start l.policy l.initial.work l.work
