use Rattle.std.proofs.lemmas.Bool.{false≢true}
use Rattle.basics.specs.Lists.{any}
use Rattle.format.specs.Record.{present}
use Rattle.planes.specs.Laws.Lines.{no_bit}
use Rattle.recordrow.specs.Laws.Scan.{noted_none}
use Rattle.recordrow.proofs.Notes.new.Goals as goal

-- no rule is before the first record, so whatever keys are noted would do
pub returns-clause-noted : goal.returns-clause-noted
unfolding present any
returns-clause-noted c = record { keys = record { set = λ r e. absurd (false≢true e) }; points = noted_none.points }

pub returns-clause-blank : goal.returns-clause-blank
returns-clause-blank c k = no_bit 512 k
