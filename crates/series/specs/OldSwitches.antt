-- Request 5 of document 02 on network K in each version: theorems by computation.
use Rattle.std.specs.Prelude.{◌≡◌, refl, [], ◌∷◌, map, ℕ, drop}
use Rattle.format.specs.Record.{Rec, Net}
use Rattle.format.specs.NetK.{record24, A, B, K, in_store, add_any, add_zero, add_drop, delete_absent}
use Rattle.book.specs.Answer.{CheckAnswer, CommandAnswer, forwarded, blocked, refused}
use Rattle.book.specs.Check.{check_answer}
use Rattle.book.specs.Reference.{Installed, installed_at_start, outcome_of, answers}
use Rattle.series.specs.Starred.{computing}
use Rattle.series.specs.Stores.{with_rules, rule_zero, rule_drop}

-- a network with byte 4 of its widths record, H 1, P 2, W 1
unfoldable in_version : ℕ → Net → Net
in_version b net = record24 (1 ∷ 1 ∷ 2 ∷ 1 ∷ b ∷ []) ∷ drop 1 net

-- a modify with the bytes of an add
unfoldable as_modify : Rec → Rec
as_modify c = 7 ∷ drop 1 c

-- what a command on K in a version is answered
unfoldable answered_in : ℕ × Rec → CommandAnswer
answered_in c = (outcome_of (installed_at_start (in_version c.0 K)) c.1 2048).answer

-- and what it leaves
unfoldable leaves_in : ℕ × Rec → Installed
leaves_in c = (outcome_of (installed_at_start (in_version c.0 K)) c.1 2048).after

-- a modify with the second add's bytes, in versions 1, 4 and 0, which reads as 4, and in version 2; with the first add's, by which header 1 leaves, in versions 1 and 4;
-- of rule A, which is there, to OUTPUT 0, in versions 1 and 4; and a delete of an absent rule in version 1
old_switches :
    map answered_in
    ((1, as_modify add_zero) ∷ (4, as_modify add_zero) ∷ (0, as_modify add_zero) ∷ (2, as_modify add_zero)
    ∷ (1, as_modify add_any) ∷ (4, as_modify add_any) ∷ (1, as_modify add_drop) ∷ (4, as_modify add_drop) ∷ (1, delete_absent) ∷ [])
    ≡ forwarded 21 ∷ forwarded 20 ∷ forwarded 20 ∷ refused 5 0
    ∷ blocked 0 3 ∷ forwarded 20 ∷ forwarded 20 ∷ forwarded 20 ∷ forwarded 20 ∷ []
unfolding computing in_version as_modify answered_in
old_switches = refl

-- what these leave: in version 1 the rule after the last one, as kind 4; in versions 4 and 0 the network as it was; of the blocked one too; rule A with OUTPUT 0 and no second one
old_stores :
    map leaves_in ((1, as_modify add_zero) ∷ (4, as_modify add_zero) ∷ (0, as_modify add_zero) ∷ (1, as_modify add_any) ∷ (1, as_modify add_drop) ∷ [])
    ≡ installed_at_start (in_version 1 (with_rules (A ∷ B ∷ rule_zero ∷ [])))
    ∷ installed_at_start (in_version 4 (with_rules (A ∷ B ∷ [])))
    ∷ installed_at_start (in_version 0 (with_rules (A ∷ B ∷ [])))
    ∷ installed_at_start (in_version 1 (with_rules (A ∷ B ∷ [])))
    ∷ installed_at_start (in_version 1 (with_rules (rule_drop ∷ B ∷ [])))
    ∷ []
unfolding computing in_version as_modify leaves_in with_rules rule_zero rule_drop
old_stores = refl

-- the same modify twice in version 1: the first adds its rule, the second finds it
twice : answers (installed_at_start (in_version 1 K)) ((as_modify add_zero, 2048) ∷ (as_modify add_zero, 2048) ∷ []) ≡ forwarded 21 ∷ forwarded 21 ∷ []
unfolding computing in_version as_modify answers
twice = refl

-- the check call on K with byte 4 from 0 to 5, and 255
versions :
    map (λ (b : ℕ). check_answer (in_store (in_version b K)) 20 2048) (0 ∷ 1 ∷ 2 ∷ 3 ∷ 4 ∷ 5 ∷ 255 ∷ [])
    ≡ CheckAnswer.holds ∷ CheckAnswer.holds ∷ CheckAnswer.refused 5 0 ∷ CheckAnswer.refused 5 0 ∷ CheckAnswer.holds ∷ CheckAnswer.refused 5 0 ∷ CheckAnswer.refused 5 0 ∷ []
unfolding computing in_version
versions = refl
