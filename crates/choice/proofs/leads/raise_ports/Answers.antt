use mathlib.Core.Path.{sym, ◌∙◌}
use Prim.Native.Nat.{◌^◌, ◌<◌}
use lib.ListN.{length-set}
use native.Mathlib.Omega.{arith}
use Rattle.basics.specs.Bit.{bit_of}
use Rattle.widths.specs.Laws.Limits.{limits}
use Rattle.patterns.specs.Laws.Matched.{below_64}
use Rattle.choice.specs.Laws.Arriving.{arriving-lt}
use Rattle.choice.proofs.PaintedLeads.{painted_one, painted_in, painted_out, painted_end, of_port, port_joined}
use Rattle.choice.proofs.leads.raise_ports.Goals as goal
use Rattle.choice.proofs.leads.raise_ports.Goals.{then-in_set, else-in_set}

pub in_set-requires : goal.in_set-requires
in_set-requires c = below_64 c.args.w.p c.loop-port.port (omega (arith, limits c.args.w c.requires.0)) (omega (arith, c.values-port-end.ensures, c.loop-port-test.true))

pub offset_bounds-leads-arriving : goal.offset_bounds-leads-arriving
offset_bounds-leads-arriving c =
    let a = c.args in
    omega (arith, c.arriving.ensures, arriving-lt a.w c.requires.0 a.rule.now.switch c.loop-port.port a.header c.requires.1 (omega (arith, c.values-port-end.ensures, c.loop-port-test.true)) c.requires.2)

pub bounds-leads-arriving : goal.bounds-leads-arriving
bounds-leads-arriving c =
    let a = c.args in
    omega (arith, c.arriving.ensures, arriving-lt a.w c.requires.0 a.rule.now.switch c.loop-port.port a.header c.requires.1 (omega (arith, c.values-port-end.ensures, c.loop-port-test.true)) c.requires.2)

pub loop-port-preserved : goal.loop-port-preserved
loop-port-preserved c =
    let o = c.loop-port in
    let a = c.args in
    let rule = a.rule.now in
    let P = of_port rule.switch a.header in
    let port-in : o.port < 2 ^ a.w.p = omega (arith, c.values-port-end.ensures, c.loop-port-test.true) in
    elim c.if-in_set.branch [
      | then-in_set w ↦ rw (w.leads-is, w.raise.ensures) (
        length-set _ _ _ ∙ o.invariant.0,
        painted_in a.w rule.rank a.j P (λ v. v.port) (bit_of rule.ports) (port_joined rule.switch a.header) o.port _ o.leads _
            (sym c.in_set.ensures ∙ w.if-in_set.true) o.invariant.1
            (painted_one a.w rule.rank a.j rule.switch o.port a.header w.arriving.result c.requires.1 port-in c.requires.2 w.arriving.ensures o.leads
            (omega (arith, o.invariant.0, w.arriving.ensures, arriving-lt a.w c.requires.0 rule.switch o.port a.header c.requires.1 port-in c.requires.2))),
      )
      | else-in_set w ↦ rw (w.leads-is) (
        o.invariant.0,
        painted_out a.w rule.rank a.j P (λ v. v.port) (bit_of rule.ports) (port_joined rule.switch a.header) o.port _ o.leads
            (sym c.in_set.ensures ∙ w.if-in_set.false) o.invariant.1,
      )
    ]

pub returns : goal.returns
returns c =
    let o = c.loop-port in
    let a = c.args in
    let rule = a.rule.now in
    painted_end a.w rule.rank a.j (of_port rule.switch a.header) (λ v. v.port) (bit_of rule.ports) (port_joined rule.switch a.header) o.port _ _
    (λ sw p h hp hh. omega (arith, c.loop-port-test.false, c.values-port-end.ensures)) o.invariant.1
