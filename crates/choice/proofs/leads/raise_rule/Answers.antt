use mathlib.Core.Path.{sym, ◌∙◌}
use native.Mathlib.Omega.{arith}
use Rattle.basics.specs.Bit.{bit_of}
use Rattle.widths.specs.Laws.Limits.{limits}
use Rattle.patterns.specs.Laws.Matched.{below_64}
use Rattle.choice.proofs.PaintedLeads.{painted_in, painted_out, painted_end, of_header, header_joined}
use Rattle.choice.proofs.leads.raise_rule.Goals as goal
use Rattle.choice.proofs.leads.raise_rule.Goals.{then-in_set, else-in_set}

pub in_set-requires : goal.in_set-requires
in_set-requires c = below_64 c.args.w.h c.loop-header.header (omega (arith, limits c.args.w c.requires.0)) (omega (arith, c.values-header-end.ensures, c.loop-header-test.true))

pub loop-header-preserved : goal.loop-header-preserved
loop-header-preserved c =
    let o = c.loop-header in
    let a = c.args in
    let rule = a.rule.now in
    let H = of_header rule.switch rule.ports in
    elim c.if-in_set.branch [
      | then-in_set w ↦ rw (w.leads-is)
          (painted_in a.w rule.rank a.j H (λ v. v.header) (bit_of rule.headers) (header_joined rule.switch rule.ports) o.header _ o.leads _
          (sym c.in_set.ensures ∙ w.if-in_set.true) o.invariant w.raise_ports.ensures)
      | else-in_set w ↦ rw (w.leads-is)
          (painted_out a.w rule.rank a.j H (λ v. v.header) (bit_of rule.headers) (header_joined rule.switch rule.ports) o.header _ o.leads
          (sym c.in_set.ensures ∙ w.if-in_set.false) o.invariant)
    ]

pub returns : goal.returns
returns c =
    let o = c.loop-header in
    let a = c.args in
    let rule = a.rule.now in
    painted_end a.w rule.rank a.j (of_header rule.switch rule.ports) (λ v. v.header) (bit_of rule.headers) (header_joined rule.switch rule.ports) o.header _ _
    (λ sw p h hp hh. omega (arith, c.loop-header-test.false, c.values-header-end.ensures)) o.invariant
