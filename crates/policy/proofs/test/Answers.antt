-- `policy::test` meets its contract.
use Rattle.policy.specs.Laws.MadeNodes.{ask_last, kept_plane, last_tested}
use Rattle.policy.proofs.test.Goals as goal

pub eval-requires : goal.eval-requires
eval-requires c = ask_last _ _ _ _ _ _ _ c.requires.policy_ready c.requires.count_nonzero

pub lowest_state-requires : goal.lowest_state-requires
lowest_state-requires c =
    let R = c.requires in
    kept_plane _ _ _ _ _ _ _ _ _ _ R.policy_ready R.count_nonzero c.eval.ensures c.in_ok-f.f c.in_ok-f.was

pub returns : goal.returns
returns c =
    let R = c.requires in
    last_tested _ _ _ _ _ _ _ _ _ _ R.policy_ready R.count_nonzero c.eval.ensures c.in_ok-f.f c.in_ok-f.was _ c.lowest_state.ensures
