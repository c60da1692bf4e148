-- What the starred commands leave in the store, by computation: the records after each, written by hand from document 01, "Commands".
use Rattle.std.specs.Prelude.{◌≡◌, refl, [], ◌∷◌, ◌++◌, map}
use Rattle.format.specs.Record.{Rec, Net}
use Rattle.format.specs.NetK.{record24, A, B, policy0, K, add_any, add_zero, add_set, add_drop, delete_absent, delete_d}
use Rattle.book.specs.Reference.{installed_at_start, outcome_of}
use Rattle.series.specs.Starred.{computing, KD}

-- K with these rules
unfoldable pub with_rules : Net → Net
with_rules rules =
    record24 (1 ∷ 1 ∷ 2 ∷ 1 ∷ [])
    ∷ record24 (2 ∷ 0 ∷ 2 ∷ 1 ∷ 1 ∷ [])
    ∷ record24 (3 ∷ 0 ∷ 0 ∷ 0 ∷ 0 ∷ 0 ∷ 0 ∷ 0 ∷ 1 ∷ 1 ∷ 0 ∷ 3 ∷ [])
    ∷ record24 (3 ∷ 1 ∷ 0 ∷ 0 ∷ 0 ∷ 0 ∷ 0 ∷ 0 ∷ 1 ∷ 1 ∷ 0 ∷ 3 ∷ [])
    ∷ (rules ++ policy0)

-- the rule of the second add, as kind 4: switch 0, priority 5, any port, header 0, OUTPUT 2
unfoldable pub rule_zero : Rec
rule_zero = record24 (4 ∷ 0 ∷ 5 ∷ 0 ∷ 0 ∷ 0 ∷ 0 ∷ 1 ∷ 1 ∷ 1 ∷ 2 ∷ 3 ∷ [])

-- A's match with OUTPUT 0
unfoldable pub rule_drop : Rec
rule_drop = record24 (4 ∷ 0 ∷ 10 ∷ 0 ∷ 1 ∷ 3 ∷ 0 ∷ 1 ∷ 1 ∷ 1 ∷ 0 ∷ 3 ∷ [])

-- the rule of the first add, as kind 4: switch 0, priority 5, any port, any header, OUTPUT 2
unfoldable rule_any : Rec
rule_any = record24 (4 ∷ 0 ∷ 5 ∷ 0 ∷ 0 ∷ 0 ∷ 0 ∷ 0 ∷ 1 ∷ 1 ∷ 2 ∷ 3 ∷ [])

-- D: switch 0, priority 8, any port, header 1, OUTPUT 0
unfoldable rule_d : Rec
rule_d = record24 (4 ∷ 0 ∷ 8 ∷ 0 ∷ 0 ∷ 0 ∷ 1 ∷ 1 ∷ 1 ∷ 1 ∷ 0 ∷ 3 ∷ [])

-- what is installed after each starred command on K: the new records where it was forwarded, else as before
stores :
    map (λ (c : Rec). (outcome_of (installed_at_start K) c 2048).after) (add_any ∷ add_zero ∷ add_set ∷ add_drop ∷ delete_absent ∷ [])
    ≡ installed_at_start (with_rules (A ∷ B ∷ []))
    ∷ installed_at_start (with_rules (A ∷ B ∷ rule_zero ∷ []))
    ∷ installed_at_start (with_rules (A ∷ B ∷ []))
    ∷ installed_at_start (with_rules (rule_drop ∷ B ∷ []))
    ∷ installed_at_start (with_rules (A ∷ B ∷ []))
    ∷ []
unfolding computing with_rules rule_zero rule_drop
stores = refl

-- the delete of D is blocked: the network with the first add's rule and D stays
after_delete_D : (outcome_of (installed_at_start KD) delete_d 2048).after ≡ installed_at_start (with_rules (A ∷ B ∷ rule_any ∷ rule_d ∷ []))
unfolding computing KD with_rules rule_any rule_d
after_delete_D = refl
