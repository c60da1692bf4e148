-- Request 4 of document 02 on network K with three groups, with rule A's actions replaced: one theorem by computation.
use Rattle.std.specs.Prelude.{◌≡◌, refl, List, [], ◌∷◌, ◌++◌, ℕ}
use Rattle.format.specs.Record.{Rec, Net}
use Rattle.format.specs.Policy.{R, TC}
use Rattle.format.specs.declared.kinds.Var.TheVariants.{X, Y}
use Rattle.format.specs.NetK.{record24, K, in_store}
use Rattle.onestep.specs.Step.{next}
use Rattle.truth.specs.Computed.{truth}
use Rattle.judgement.specs.Computed.{table_of}
use Rattle.effect.specs.Apply.{would_leave}
use Rattle.book.specs.Answer.{CheckAnswer, CommandAnswer, forwarded, blocked, refused}
use Rattle.book.specs.Check.{check_answer}
use Rattle.book.specs.Reference.{installed_at_start, outcome_of}
use Rattle.series.specs.Starred.{computing, those, checked, commanded, listed}

-- group 0 of switch 0: SET 1 to port 2
unfoldable lift : Rec
lift = record24 (9 ∷ 0 ∷ 0 ∷ 0 ∷ 0 ∷ 0 ∷ 0 ∷ 0 ∷ 1 ∷ 1 ∷ 1 ∷ 1 ∷ 2 ∷ [])

-- group 1: SET 1 to drop, and as it entered to port 2
unfoldable two_ways : Rec
two_ways = record24 (9 ∷ 0 ∷ 1 ∷ 0 ∷ 0 ∷ 0 ∷ 0 ∷ 0 ∷ 2 ∷ 1 ∷ 1 ∷ 1 ∷ 0 ∷ 0 ∷ 0 ∷ 1 ∷ 2 ∷ [])

-- group 2: on to group 0
unfoldable onward : Rec
onward = record24 (9 ∷ 0 ∷ 2 ∷ 0 ∷ 0 ∷ 0 ∷ 0 ∷ 0 ∷ 1 ∷ 0 ∷ 0 ∷ 2 ∷ 0 ∷ [])

-- K with these groups behind its policy
unfoldable KG : Net
KG = K ++ (lift ∷ two_ways ∷ onward ∷ [])

-- modify of rule A (switch 0, port 1, header 0): an action count and actions
unfoldable modify_a : List ℕ → Rec
modify_a actions = record24 ((7 ∷ 0 ∷ 10 ∷ 0 ∷ 1 ∷ 3 ∷ 0 ∷ 1 ∷ []) ++ actions)

-- rule A by group 1
unfoldable by_two_ways : Rec
by_two_ways = modify_a (1 ∷ 4 ∷ 1 ∷ 0 ∷ [])

-- by group 2, and so by group 0
unfoldable by_onward : Rec
by_onward = modify_a (1 ∷ 4 ∷ 2 ∷ 0 ∷ [])

-- by group 3, which is not there
unfoldable by_absent : Rec
by_absent = modify_a (1 ∷ 4 ∷ 3 ∷ 0 ∷ [])

-- what a command on it is answered
abbrev answered : Rec → CommandAnswer
answered c = (outcome_of (installed_at_start KG) c 2048).answer

-- KG holds; rule A by group 1: forwarded, what state 2 steps to, which arrives at port 1 of switch 0 with header 0, and what it reaches over the link; by groups 2 and 0 header 1
-- leaves, which policy 0 forbids: blocked, and violated as a file; group 2 and behind it OUTPUT 0, which has header 0 still; group 3: row 16 in a command and in a file, where rule A is record 4;
-- group 16: row 12; and an add at switch 1, which has no group
through_groups :
    checked (check_answer (in_store KG) 23 2048)
    ∷ commanded (answered by_two_ways)
    ∷ listed (next (would_leave by_two_ways KG) 2)
    ∷ listed (let reaches = truth (table_of (would_leave by_two_ways KG)) (TC (R X Y) X Y) in those 32 0 (λ t. reaches 2 t))
    ∷ commanded (answered by_onward)
    ∷ checked (check_answer (in_store (would_leave by_onward KG)) 23 2048)
    ∷ listed (next (would_leave (modify_a (2 ∷ 4 ∷ 2 ∷ 0 ∷ 1 ∷ 0 ∷ 3 ∷ [])) KG) 2)
    ∷ commanded (answered by_absent)
    ∷ checked (check_answer (in_store (would_leave by_absent KG)) 23 2048)
    ∷ commanded (answered (modify_a (1 ∷ 4 ∷ 16 ∷ 0 ∷ [])))
    ∷ commanded (answered (record24 (6 ∷ 1 ∷ 5 ∷ 0 ∷ 0 ∷ 0 ∷ 0 ∷ 0 ∷ 1 ∷ 4 ∷ 1 ∷ 0 ∷ [])))
    ∷ []
    ≡ checked CheckAnswer.holds
    ∷ commanded (forwarded 23)
    ∷ listed (17 ∷ 20 ∷ [])
    ∷ listed (10 ∷ 17 ∷ 20 ∷ 28 ∷ [])
    ∷ commanded (blocked 0 2)
    ∷ checked (CheckAnswer.violated 0 2)
    ∷ listed (21 ∷ 16 ∷ [])
    ∷ commanded (refused 16 0)
    ∷ checked (CheckAnswer.refused 16 4)
    ∷ commanded (refused 12 0)
    ∷ commanded (refused 16 0)
    ∷ []
unfolding computing those lift two_ways onward KG modify_a by_two_ways by_onward by_absent
through_groups = refl
