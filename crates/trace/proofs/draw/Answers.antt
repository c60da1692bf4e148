use Rattle.planes.specs.Laws.Lines.{no_byte}
use Rattle.trace.proofs.draw.Goals as goal

pub draw_by-requires-clause-unknown : goal.draw_by-requires-clause-unknown
draw_by-requires-clause-unknown c = λ x. no_byte 1024 x
