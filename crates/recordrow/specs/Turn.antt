-- The records before that of a turn, that record, and those after it.
use Rattle.format.specs.Record.{Rec, Net, records}
use Rattle.format.specs.Search.{record_at, records_after}
use Rattle.recordrow.specs.declared.turn.Turn.{Turn}

abbrev pub before_turn : Turn → Net
before_turn t = records t.at.i t.at.store.now

abbrev pub at_turn : Turn → Rec
at_turn t = record_at t.at.store.now t.at.i

abbrev pub after_turn : Turn → Net
after_turn t = records_after t.at.n t.at.store.now t.at.i
