-- `policy::eval`: the node number falls.
use Rattle.policy.proofs.+eval.Given as goal

abbrev pub decreases-eval : goal.decreases-eval
decreases-eval l = l.k
