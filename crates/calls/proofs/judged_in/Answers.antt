use mathlib.Core.Path.{◌≡◌, refl}
use Rattle.format.specs.Record.{records}
use Rattle.format.specs.Version.{version_of}
use Rattle.calls.proofs.Promises.{some_record, first_within, few, moved_ready, judged_ready, command_blocked, command_forwarded}
use Rattle.scan.specs.Laws.PassedRecords.{stored}
use Rattle.calls.proofs.judged_in.Goals as goal
use Rattle.calls.proofs.judged_in.Goals.{After-version_of}

-- what was read is the network's version
version_is : (c : After-version_of) → c.version_of.result ≡ version_of (records c.args.net.now.n c.args.net.now.store.now)
version_is c = c.version_of.ensures _ (some_record _ _ _ _ c.requires)

pub version_of-requires : goal.version_of-requires
version_of-requires c = first_within _ _ _ _ c.requires

pub apply_to-count-requires : goal.apply_to-count-requires
apply_to-count-requires c =
    let a = c.args in
    let net = a.net.now in
    record { few = few net.store.now net.n a.work.now a.given.now c.requires _ (version_is (goal.at.apply_to-count-requires c).After-version_of) }

pub moved-requires : goal.moved-requires
moved-requires c =
    let a = c.args in
    let net = a.net.now in
    moved_ready net.store.now net.n a.work.now a.given.now c.requires _ (version_is (goal.at.moved-requires c).After-version_of) _ _ c.apply_to-count.ensures _ net.stored.laid

pub judge-requires : goal.judge-requires
judge-requires c =
    let a = c.args in
    let net = a.net.now in
    judged_ready net.store.now net.n a.work.now a.given.now c.requires _ (version_is (goal.at.judge-requires c).After-version_of) _ _ c.apply_to-count.ensures _ net.stored.laid _ c.moved.ensures

pub invariant_of-left : goal.invariant_of-left
invariant_of-left c =
    let a = c.args in
    let net = a.net.now in
    let ready = judged_ready net.store.now net.n a.work.now a.given.now c.requires _ (version_is (goal.at.invariant_of-left c).After-version_of) _ _ c.apply_to-count.ensures _ net.stored.laid _ c.moved.ensures in
    record { stored = stored _ _ _ ready.clean }

pub returns-in-Some : goal.returns-in-Some
returns-in-Some c =
    let a = c.args in
    let net = a.net.now in
    command_blocked net.store.now net.n a.work.now a.given.now c.requires _ (version_is (goal.at.returns-in-Some c).After-version_of) _ _ c.apply_to-count.ensures _ _ c.in-Some.ensures _ refl

pub returns-in-None : goal.returns-in-None
returns-in-None c =
    let a = c.args in
    let net = a.net.now in
    command_forwarded net.store.now net.n a.work.now a.given.now c.requires _ (version_is (goal.at.returns-in-None c).After-version_of) _ _ c.apply_to-count.ensures _ _ c.in-None.ensures _ refl refl
