use Rattle.format.specs.Record.{records}
use Rattle.choice.proofs.LedRules.{LedBy}
use Rattle.choice.proofs.leads.find_leads.Given as goal

-- the rules before number j are painted
abbrev pub invariant-loop-j : goal.invariant-loop-j
invariant-loop-j l = LedBy (records l.net.n l.net.store.now) l.l.widths l.j l.leads
