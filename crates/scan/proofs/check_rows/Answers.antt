use borrow.Author.Tests.{eq-eqb, ne_eqb, lt-ltb, le-ltb}
use Rattle.std.proofs.Common.{◌≡◌, sym, ap, ap₂, ◌∙◌, [], ◌⊎◌, inl, inr, List, ℕ, ◌<◌, ◌+◌, ◌*◌, ◌≤◌, ltb, length}
use Rattle.std.proofs.Math.Option.{none, some}
use Rattle.std.proofs.lemmas.Result.{err_from_is_err_and}
use Rattle.format.specs.Record.{Net, most_records, store_bytes, records}
use Rattle.widths.specs.Widths.{plane_bytes}
use Rattle.refusals.specs.Rows.{row1, row2, row11, work_needed}
use Rattle.refusals.specs.Refusal.{row, file_row, arguments_row, network_row, check_refusal}
use Rattle.scan.specs.Layout.{LayoutOf}
use Rattle.scan.specs.declared.Layout.{Layout}
use Rattle.scan.proofs.check_rows.Goals as goal

-- rows 1 and 2 are passed
past-arguments : (store : List ℕ) (n work : ℕ) → (n ≡ 0 → ⊥) → n ≤ most_records → store_bytes ≤ length store
    → check_refusal store n work ≡ network_row (records n store) work
unfolding check_refusal arguments_row row1 row2
past-arguments store n work any few long = rw (ne_eqb n 0 any, le-ltb most_records n few, le-ltb (length store) store_bytes long)

-- the file's refusal comes first, and row 11 after it
by_file : (net : Net) (work : ℕ) (f : ℕ × ℕ) → some f ≡ file_row [] net → some f ≡ network_row net work
unfolding network_row
by_file net work f e = rw (sym e)

-- the work that a network needs, by its layout
needed : (net : Net) (l : Layout) → LayoutOf net l → (l.longest + 2) * plane_bytes l.widths ≡ work_needed net
unfolding work_needed
needed net l o = ap₂ (λ (k p : ℕ). (k + 2) * p) o.longest (ap plane_bytes o.widths)

-- row 11, by the work that the code found
by_work : (net : Net) (work found : ℕ) (l : Layout) → file_row [] net ≡ none → LayoutOf net l → found ≡ (l.longest + 2) * plane_bytes l.widths
    → network_row net work ≡ row (ltb work found) 11 0
unfolding network_row row11
by_work net work found l passes laid e = rw passes (ap (λ (m : ℕ). row (ltb work m) 11 0) (sym (e ∙ needed net l laid)))

-- row 1
by_count : (store : List ℕ) (n work : ℕ) → (n ≡ 0) ⊎ ((n ≡ 0 → ⊥) × (657 < n)) → some (1, 0) ≡ check_refusal store n work
unfolding check_refusal arguments_row row1
by_count store n work (inl empty) = rw (eq-eqb n 0 empty)
by_count store n work (inr many) = rw (ne_eqb n 0 many.0, lt-ltb most_records n many.1)

pub returns-then-n-eq0 : goal.returns-then-n-eq0
returns-then-n-eq0 c = by_count _ _ _ c.then-n-eq0.either

pub returns-then-store-lt-STORE_BYTES : goal.returns-then-store-lt-STORE_BYTES
unfolding check_refusal arguments_row row1 row2
returns-then-store-lt-STORE_BYTES c =
    rw (ne_eqb _ 0 c.if-n-eq0.false, le-ltb most_records _ c.if-n-gt-MOST_RECORDS.false, lt-ltb _ store_bytes c.if-store-lt-STORE_BYTES.true)

pub returns-in_err-net : goal.returns-in_err-net
returns-in_err-net c =
    let e = err_from_is_err_and c.from_residual.result c.from_residual.ensures.1 in
    let past = past-arguments c.args.store.now c.args.n c.args.work c.if-n-eq0.false c.if-n-gt-MOST_RECORDS.false c.if-store-lt-STORE_BYTES.false in
    rw (e.1, e.2) (by_file _ c.args.work _ c.in_err-net.ensures ∙ sym past)

pub returns-then-work-work_needed : goal.returns-then-work-work_needed
returns-then-work-work_needed c =
    let net = c.in_ok-net.net in
    let is = c.in_ok-net.ensures in
    let past = past-arguments c.args.store.now c.args.n c.args.work c.if-n-eq0.false c.if-n-gt-MOST_RECORDS.false c.if-store-lt-STORE_BYTES.false in
    let laid = rw (is.1, is.2) at net.stored.laid in
    sym (past ∙ by_work _ c.args.work _ net.layout is.0 laid c.work_needed.ensures ∙ rw (lt-ltb _ _ c.if-work-work_needed.true))

pub returns : goal.returns
returns c =
    let net = c.in_ok-net.net in
    let is = c.in_ok-net.ensures in
    let past = past-arguments c.args.store.now c.args.n c.args.work c.if-n-eq0.false c.if-n-gt-MOST_RECORDS.false c.if-store-lt-STORE_BYTES.false in
    let laid = rw (is.1, is.2) at net.stored.laid in
    (past ∙ by_work _ c.args.work _ net.layout is.0 laid c.work_needed.ensures ∙ rw (le-ltb _ _ c.if-work-work_needed.false), is.1, is.2)
