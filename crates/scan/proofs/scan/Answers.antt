use Rattle.std.proofs.Common.{◌≡◌, sym, subst, ◌∙◌, refl, List, ℕ, ◌*◌, ◌≤◌, ◌<◌, length, arith}
use Rattle.std.proofs.lemmas.Result.{err_from_is_err_and}
use Rattle.format.specs.Record.{records}
use Rattle.recordrow.specs.Scan.{SeenOf}
use Rattle.scan.specs.Layout.{Bounded}
use Rattle.recordrow.specs.declared.Seen.{Seen}
use Rattle.format.specs.Laws.Records.{length_records, records_more}
use Rattle.recordrow.specs.Laws.Scan.{few_links, few_misses, few_rules, few_groups, narrow}
use Rattle.scan.specs.Laws.File.{file_start, file_next, file_stop, file_end}
use Rattle.scan.specs.Laws.Layout.{layout_of}
use Rattle.scan.specs.Laws.PassedRecords.{stored}
use Rattle.scan.proofs.scan.Goals as goal

bounded : (store : List ℕ) (n : ℕ) (s : Seen) → n * 24 ≤ length store → length store < 18446744073709551616 → SeenOf (records n store) s → Bounded s n
bounded store n s h l known = record {
  stored = omega arith;
  links = few_links store n s known;
  misses = few_misses store n s known;
  rules = few_rules store n s known;
  groups = few_groups store n s known;
  switch_width = narrow (records n store) s known;
}

pub loop-i-init : goal.loop-i-init
unfolding records
loop-i-init c = (c.start-seen.ensures, file_start c.args.store.now c.args.n, c.new-notes.ensures.noted)

pub invariant_of-turn : goal.invariant_of-turn
invariant_of-turn c = record { groups = c.groups_there-there.ensures; known = c.loop-i.invariant.0 }

pub turn_at-requires : goal.turn_at-requires
turn_at-requires c = c.loop-i.invariant.2

pub loop-i-preserved : goal.loop-i-preserved
loop-i-preserved c =
    let s = c.args.store.now in
    let l = c.loop-i in
    let t = c.in-Ok.ensures.0 in
    (rw (records_more s l.i) t.1, l.invariant.1 ∙ file_next s c.args.n l.i c.loop-i-test.true t.0, c.in-Ok.ensures.1)

pub returns-in-Err : goal.returns-in-Err
returns-in-Err c =
    let l = c.loop-i in
    sym (l.invariant.1 ∙ file_stop c.args.store.now c.args.n l.i _ c.loop-i-test.true c.in-Err.ensures.0)

pub end-requires : goal.end-requires
end-requires c =
    let s = c.args.store.now in
    let l = c.loop-i in
    let e : l.i ≡ c.args.n = omega (arith, c.loop-i-test.false, l.auto.i-end) in
    bounded s c.args.n l.seen c.requires (omega arith) (subst (λ (m : ℕ). SeenOf (records m s) l.seen) e l.invariant.0)

pub returns-in_err-layout : goal.returns-in_err-layout
returns-in_err-layout c =
    let s = c.args.store.now in
    let l = c.loop-i in
    let i : l.i ≡ c.args.n = omega (arith, c.loop-i-test.false, l.auto.i-end) in
    let known = subst (λ (m : ℕ). SeenOf (records m s) l.seen) i l.invariant.0 in
    let e = err_from_is_err_and c.from_residual.result c.from_residual.ensures.1 in
    rw (e.1, e.2) (c.in_err-layout.ensures (records c.args.n s) known (length_records c.args.n s) ∙ sym (l.invariant.1 ∙ file_end s c.args.n l.i i))

pub invariant_of-result : goal.invariant_of-result
invariant_of-result c =
    let s = c.args.store.now in
    let l = c.loop-i in
    let i : l.i ≡ c.args.n = omega (arith, c.loop-i-test.false, l.auto.i-end) in
    let known = subst (λ (m : ℕ). SeenOf (records m s) l.seen) i l.invariant.0 in
    let h = c.in_ok-layout.ensures (records c.args.n s) known (length_records c.args.n s) in
    let passes = l.invariant.1 ∙ file_end s c.args.n l.i i ∙ h.0 in
    record { stored = stored c.args.n _ s (record { room = c.requires; laid = layout_of _ _ passes h.1; passes = passes }) }

pub returns : goal.returns
returns c =
    let s = c.args.store.now in
    let l = c.loop-i in
    let i : l.i ≡ c.args.n = omega (arith, c.loop-i-test.false, l.auto.i-end) in
    let known = subst (λ (m : ℕ). SeenOf (records m s) l.seen) i l.invariant.0 in
    let h = c.in_ok-layout.ensures (records c.args.n s) known (length_records c.args.n s) in
    (l.invariant.1 ∙ file_end s c.args.n l.i i ∙ h.0, refl, refl)
