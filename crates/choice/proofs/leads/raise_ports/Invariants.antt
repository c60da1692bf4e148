use mathlib.Core.Path.{◌≡◌}
use lib.ListN.{length}
use Rattle.basics.specs.Bit.{bit_of}
use Rattle.choice.specs.Leads.{most_arriving, Painted}
use Rattle.choice.proofs.PaintedLeads.{up_to, of_port}
use Rattle.choice.proofs.leads.raise_ports.Given as goal

-- the ports of the set below this one are painted
abbrev pub invariant-loop-port : goal.invariant-loop-port
invariant-loop-port l =
    (length l.leads ≡ most_arriving)
    × Painted l.w (up_to (of_port l.rule.switch l.header) (λ v. v.port) (bit_of l.rule.ports) l.port) l.rule.rank l.j l.initial.leads l.leads
