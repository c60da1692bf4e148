-- `pairs::diagonal_of` meets its contract.
use mathlib.Core.Logic.{⊎_elim}
use Rattle.planes.specs.Laws.Lines.{loaded_bit}
use Rattle.pairs.proofs.diagonal_of.Goals as goal

pub returns-in-OfX : goal.returns-in-OfX
returns-in-OfX c =
    ⊎_elim
    (λ e. rw e (record { is = λ z h. loaded_bit _ _ _ _ c.load_line.ensures z h }))
    (λ e. rw e (record { is = λ z h. loaded_bit _ _ _ _ c.load_line.ensures z h }))
    c.in-OfX.is
