use Rattle.basics.specs.Bit.{bit_of}
use Rattle.choice.specs.Leads.{Painted}
use Rattle.choice.proofs.PaintedLeads.{up_to, of_header}
use Rattle.choice.proofs.leads.raise_rule.Given as goal

-- the headers of the set below this one are painted
abbrev pub invariant-loop-header : goal.invariant-loop-header
invariant-loop-header l =
    Painted l.w (up_to (of_header l.rule.switch l.rule.ports) (λ v. v.header) (bit_of l.rule.headers) l.header) l.rule.rank l.j l.initial.leads l.leads
