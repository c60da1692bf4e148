-- `route::after_check` meets its contract.
use mathlib.Core.Path.{◌≡◌, ap, ◌∙◌}
use native.Mathlib.Omega.{arith}
use lib.ListN.{length}
use Rattle.format.specs.Record.{records, widths_of}
use Rattle.widths.specs.Widths.{states}
use Rattle.widths.specs.Laws.Limits.{limits}
use Rattle.format.specs.Laws.States.{few_states}
use Rattle.book.specs.Laws.Refusals.{checks}
use Rattle.trails.specs.Call.{RouteCall, route_call}
use Rattle.route.proofs.Showing.{route_refused, start_outside, end_outside, list_short, route_shown}
use Rattle.route.proofs.after_check.Goals as goal
use Rattle.route.proofs.after_check.Goals.{Start, After-states-states, then-states-start-via-then-states-start, then-states-start-via-else-states-start+then-states-end}

-- the count of states, as the code found it
count_is : (c : After-states-states) → c.states-states.result ≡ states (widths_of (records c.args.net.now.n c.args.net.now.store.now))
count_is c = c.states-states.ensures ∙ ap states c.args.net.now.stored.laid.widths

-- the call
abbrev asked : (c : Start) → RouteCall
asked c = let a = c.args in route_call a.net.now.store.now a.net.now.n a.work.now a.start a.end a.list.now

pub states-states-requires : goal.states-states-requires
states-states-requires c = (limits _ c.args.net.now.stored.laid.limits).bits

pub returns-then-states-start : goal.returns-then-states-start
returns-then-states-start c =
    let q = asked (goal.at.returns-then-states-start c).Start in
    let e = count_is (goal.at.returns-then-states-start c).After-states-states in
    elim c.then-states-start.branch [
      | then-states-start-via-then-states-start w ↦ route_refused q _ _ (start_outside q c.requires (omega (arith, e, w.if-states-start.true)))
      | then-states-start-via-else-states-start+then-states-end w ↦
          route_refused q _ _ (end_outside q c.requires (omega (arith, e, w.if-states-start.false)) (omega (arith, e, w.if-states-end.true)))
    ]

pub overflow_add-states : goal.overflow_add-states
overflow_add-states c = omega (arith, c.states-states.ensures, few_states _ c.args.net.now.stored.laid.limits)

pub returns-then-list-states : goal.returns-then-list-states
returns-then-list-states c =
    let q = asked (goal.at.returns-then-list-states c).Start in
    let e = count_is (goal.at.returns-then-list-states c).After-states-states in
    route_refused q _ _
    (list_short q c.requires (omega (arith, e, c.if-states-start.false)) (omega (arith, e, c.if-states-end.false)) (omega (arith, e, c.if-list-states.true)))

pub show-requires-clause-judgeable : goal.show-requires-clause-judgeable
show-requires-clause-judgeable c =
    let net = c.args.net.now in
    let passed = checks net.store.now net.n (length c.args.work.now) c.requires in
    record { clean = record { room = net.stored.room; laid = net.stored.laid; passes = passed.file }; room = passed.enough }

pub returns : goal.returns
returns c =
    let q = asked (goal.at.returns c).Start in
    let e = count_is (goal.at.returns c).After-states-states in
    route_shown q c.requires (omega (arith, e, c.if-states-start.false)) (omega (arith, e, c.if-states-end.false)) (omega (arith, e, c.if-list-states.false)) _ _ _ c.show.ensures
