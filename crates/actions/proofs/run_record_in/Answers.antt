use mathlib.Core.Path.{◌≡◌, ap, subst}
use Prim.Native.Nat.{ℕ, ◌/◌}
use native.Mathlib.Omega.{arith}
use Rattle.widths.specs.Widths.{line_bytes}
use Rattle.states.specs.declared.Frame.{Frame}
use Rattle.format.specs.Laws.States.{few_states}
use Rattle.planes.specs.Lines.{Loaded, Put}
use Rattle.groups.specs.declared.buckets.Groups.{Groups}
use Rattle.groups.specs.Marks.{Done}
use Rattle.groups.specs.Sent.{sends_at}
use Rattle.actions.proofs.LoadedRuns.{done_loaded, ran_back}
use Rattle.actions.proofs.run_record_in.Goals as goal

pub load_line-own_line-requires : goal.load_line-own_line-requires
load_line-own_line-requires c =
    let net = c.args.groups.now.net in
    (omega (arith, c.requires.ready.0.sends.ready.room, c.states-bytes.ensures), omega (arith, c.states-bytes.ensures, few_states net.layout.widths net.stored.laid.limits))

pub load_line-own_marks-requires : goal.load_line-own_marks-requires
load_line-own_marks-requires c = (c.requires.ready.0.room, omega arith)

pub invariant_of-relay-clause-fits : goal.invariant_of-relay-clause-fits
invariant_of-relay-clause-fits c =
    let Q = c.requires.ready.0 in
    record { switch = Q.sends.switch; port = c.requires.ready.1; header = Q.sends.ready.header }

pub invariant_of-relay-clause-done : goal.invariant_of-relay-clause-done
invariant_of-relay-clause-done c =
    let a = c.args in
    let net = a.groups.now.net in
    let e : c.states-bytes.result / 8 ≡ line_bytes net.layout.widths = ap (λ (n : ℕ). n / 8) c.states-bytes.ensures in
    let L = subst (λ (n : ℕ). Loaded a.line n a.work.now c.load_line-own_line.result) e c.load_line-own_line.ensures in
    done_loaded (sends_at net a.frame) a.line (line_bytes net.layout.widths) a.work.now a.marks.now _ _ L c.load_line-own_marks.ensures c.requires.ready.0.done

pub put_line-requires : goal.put_line-requires
put_line-requires c =
    let net = c.args.groups.now.net in
    (omega (arith, c.requires.ready.0.sends.ready.room, c.states-bytes.ensures), omega (arith, c.states-bytes.ensures, few_states net.layout.widths net.stored.laid.limits))

pub put_line-requires-2 : goal.put_line-requires-2
put_line-requires-2 c = (c.requires.ready.0.room, omega arith)

pub returns : goal.returns
returns c =
    let a = c.args in
    let net = a.groups.now.net in
    let w = net.layout.widths in
    let R = c.run_record.ensures in
    let y = c.run_record.new.relay in
    let e : c.states-bytes.result / 8 ≡ line_bytes w = ap (λ (n : ℕ). n / 8) c.states-bytes.ensures in
    let L = subst (λ (n : ℕ). Loaded a.line n a.work.now c.load_line-own_line.result) e c.load_line-own_line.ensures in
    let P = subst (λ (n : ℕ). Put y.line a.line n a.work.now c.put_line.new.p) e c.put_line.ensures in
    -- what is marked in the relay has its copies, for this frame
    let D = subst (λ (x : Groups). Done (sends_at x.net y.frame) (line_bytes x.net.layout.widths) y.line y.marks) R.groups y.done in
    let E = subst (λ (f : Frame). Done (sends_at net f) (line_bytes w) y.line y.marks) R.frame D in
    ran_back (sends_at net a.frame) a.line (line_bytes w) a.work.now a.marks.now _ _ L c.load_line-own_marks.ensures
    _ _ _ _ _ c.requires.ready.0.done R.copies E P c.put_line-2.ensures
