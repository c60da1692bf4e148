-- What a turn is given, said of its record.
use Rattle.std.proofs.Common.{◌∷◌, ◌++◌, ap, subst, ◌∙◌, arith}
use Rattle.format.specs.Record.{Net}
use Rattle.format.specs.Laws.Records.{records_split, records_left}
use Rattle.rows.specs.Groups.{There}
use Rattle.recordrow.specs.Turn.{before_turn, at_turn, after_turn}
use Rattle.recordrow.specs.declared.turn.Turn.{Turn}

-- the groups that are there, in the records before, that record and those after it
pub named : (t : Turn) → There (before_turn t ++ (at_turn t ∷ after_turn t)) t.there.now
named t =
    let s = t.at.store.now in
    let n = t.at.n in
    let i = t.at.i in
    subst (λ (net : Net). There net t.there.now)
    (records_split s n i (omega (arith, t.at.within)) ∙ ap (λ (l : Net). before_turn t ++ l) (records_left s n i t.at.within)) t.groups
