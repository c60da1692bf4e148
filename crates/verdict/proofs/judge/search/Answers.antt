use native.Mathlib.Omega.{arith}
use Rattle.verdict.proofs.PolicySearch.{passed_none, passed_more, passed_all, found_lowest, goes_on, ready, lens, kept_behind}
use Rattle.verdict.proofs.judge.search.Goals as goal

pub loop-policy-init : goal.loop-policy-init
loop-policy-init c = passed_none _ _ _ _ _ _ _ c.requires

pub policy_end-stop-requires : goal.policy_end-stop-requires
policy_end-stop-requires c = goes_on _ _ _ _ _ _ _ c.requires _ _ _ c.loop-policy.invariant (omega (arith, c.requires.clean.laid.policies))

pub test-requires-clause-policy_ready : goal.test-requires-clause-policy_ready
test-requires-clause-policy_ready c =
    let h = goes_on _ _ _ _ _ _ _ c.requires _ _ _ c.loop-policy.invariant (omega (arith, c.requires.clean.laid.policies)) in
    ready _ _ _ _ _ _ _ c.requires _ _ _ _ c.loop-policy.invariant h c.policy_end-stop.ensures

pub returns-in-Some : goal.returns-in-Some
returns-in-Some c =
    let T = c.requires in
    let P = c.loop-policy.invariant in
    let h = goes_on _ _ _ _ _ _ _ T _ _ _ P (omega (arith, T.clean.laid.policies)) in
    let R = c.policy_end-stop.ensures in
    let D = c.in-Some.ensures in
    record {
      len = lens _ _ _ _ _ _ _ T _ _ _ _ P h R _ _ D;
      meant = found_lowest _ _ _ _ _ _ _ T _ _ _ _ P h R _ _ D;
      behind = kept_behind _ _ _ _ _ _ _ T _ _ _ _ P h R _ _ D;
    }

pub loop-policy-preserved : goal.loop-policy-preserved
loop-policy-preserved c =
    let P = c.loop-policy.invariant in
    let h = goes_on _ _ _ _ _ _ _ c.requires _ _ _ P (omega (arith, c.requires.clean.laid.policies)) in
    passed_more _ _ _ _ _ _ _ c.requires _ _ _ _ P h c.policy_end-stop.ensures _ c.in_default.ensures

pub returns : goal.returns
returns c =
    let P = c.loop-policy.invariant in
    record { len = P.len; meant = passed_all _ _ _ _ _ _ _ c.requires _ _ _ P (omega (arith, c.requires.clean.laid.policies)); behind = P.behind }
