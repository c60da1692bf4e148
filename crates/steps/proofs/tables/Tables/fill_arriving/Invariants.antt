use Rattle.planes.specs.Lines.{Made}
use Rattle.basics.specs.Lists.{member}
use Rattle.format.specs.Record.{records}
use Rattle.widths.specs.Widths.{line_bytes}
use Rattle.onestep.specs.Relayed.{relays}
use Rattle.steps.proofs.tables.Tables.fill_arriving.Given as goal

-- the lines of the states below s are filled
abbrev pub invariant-loop-s : goal.invariant-loop-s
invariant-loop-s l =
    let net = l.self.rules.net in
    Made (λ x t. member t (relays (records net.n net.store.now) net.layout.widths x)) (line_bytes net.layout.widths) l.base l.s l.initial.work l.work
