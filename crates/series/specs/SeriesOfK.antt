-- A series of commands on network K, with forwarded, blocked and refused ones, written by hand: by computation.
use Rattle.std.specs.Prelude.{◌≡◌, refl, List, [], ◌∷◌, map, ℕ}
use Rattle.format.specs.Record.{Rec}
use Rattle.format.specs.NetK.{B, K, add_any, add_zero, add_drop, delete_absent}
use Rattle.book.specs.Answer.{CommandAnswer, forwarded, blocked, refused}
use Rattle.book.specs.Reference.{installed_at_start, answers, installed}
use Rattle.book.specs.Command.{Call, call}
use Rattle.series.specs.Series.{count_after, forwarded_applied}
use Rattle.series.specs.Starred.{computing}
use Rattle.series.specs.Stores.{with_rules, rule_zero, rule_drop}

-- each command with the length of its work: the first add, the second, nothing, the second with a byte of work less, A's match with OUTPUT 0, and the delete of an absent rule
given : List (Rec × ℕ)
given = (add_any, 2048) ∷ (add_zero, 2048) ∷ ([], 2048) ∷ (add_zero, 2047) ∷ (add_drop, 2048) ∷ (delete_absent, 2048) ∷ []

-- what each is answered: the third is no command, and the fourth meets a work buffer too short
answered : List CommandAnswer
answered = blocked 0 3 ∷ forwarded 21 ∷ refused 12 0 ∷ refused 11 0 ∷ forwarded 21 ∷ forwarded 21 ∷ []

-- these are the reference's answers
series_answers : answers (installed_at_start K) given ≡ answered
unfolding computing given answered answers
series_answers = refl

-- and K with the second add's rule and A's action replaced is installed at the end
series_installed : installed (installed_at_start K) given ≡ installed_at_start (with_rules (rule_drop ∷ B ∷ rule_zero ∷ []))
unfolding computing given installed with_rules rule_zero rule_drop
series_installed = refl

-- calls that were answered so
called : List Call
called =
    call [] 0 [] add_any (blocked 0 3) [] []
    ∷ call [] 0 [] add_zero (forwarded 21) [] []
    ∷ call [] 0 [] [] (refused 12 0) [] []
    ∷ call [] 0 [] add_zero (refused 11 0) [] []
    ∷ call [] 0 [] add_drop (forwarded 21) [] []
    ∷ call [] 0 [] delete_absent (forwarded 21) [] []
    ∷ []

-- the forwarded ones applied in order leave the same, and the count last answered as forwarded is the next call's
series_applied : (forwarded_applied called K ≡ with_rules (rule_drop ∷ B ∷ rule_zero ∷ [])) × (map (count_after 20) answered ≡ 20 ∷ 21 ∷ 20 ∷ 20 ∷ 21 ∷ 21 ∷ [])
unfolding computing called answered forwarded_applied with_rules rule_zero rule_drop
series_applied = (refl, refl)
