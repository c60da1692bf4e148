-- What add, modify and delete leave of K and of parts of it, record by record, written by hand from document 01, "Commands": by computation.
use Rattle.std.specs.Prelude.{◌≡◌, refl, [], ◌∷◌, ◌++◌, take, drop}
use Rattle.format.specs.Record.{Rec}
use Rattle.format.specs.NetK.{record24, node, A, B, policy0, K, add_any, add_drop, delete_absent}
use Rattle.refusals.specs.Computing.{refusing}
use Rattle.effect.specs.Apply.{as_rule, with_actions, changed, inserted, removed, added, applied, would_leave}

-- the rule of the first add: switch 0, priority 5, any port, any header, OUTPUT 2
unfoldable any : Rec
any = record24 (4 ∷ 0 ∷ 5 ∷ 0 ∷ 0 ∷ 0 ∷ 0 ∷ 0 ∷ 1 ∷ 1 ∷ 2 ∷ 3 ∷ [])

-- A's match with OUTPUT 0
unfoldable to_drop : Rec
to_drop = record24 (4 ∷ 0 ∷ 10 ∷ 0 ∷ 1 ∷ 3 ∷ 0 ∷ 1 ∷ 1 ∷ 1 ∷ 0 ∷ 3 ∷ [])

-- a group
unfoldable group : Rec
group = record24 (9 ∷ 0 ∷ 0 ∷ 0 ∷ 0 ∷ 0 ∷ 0 ∷ 0 ∷ 1 ∷ 0 ∷ 0 ∷ 1 ∷ 0 ∷ [])

-- all that these cases compute with
unfoldable applying : Unit {0}
unfolding refusing record24 node A B policy0 K add_any add_drop delete_absent as_rule with_actions changed inserted removed added applied any to_drop group
applying = tt

-- a new rule goes after the last rule; without a rule after the last miss, before the policy, before a group, and at the end
adds :
    would_leave add_any K
    ∷ would_leave add_any (take 4 K ++ drop 6 K)
    ∷ would_leave add_any (take 4 K ++ (group ∷ []))
    ∷ would_leave add_any (take 4 K)
    ∷ []
    ≡ (take 4 K ++ (A ∷ B ∷ any ∷ policy0))
    ∷ (take 4 K ++ (any ∷ policy0))
    ∷ (take 4 K ++ (any ∷ group ∷ []))
    ∷ (take 4 K ++ (any ∷ []))
    ∷ []
unfolding applying
adds = refl

-- an add with A's match and a modify with it replace A in its place; a delete of A, with other bytes 8 to 20, and of B removes it and closes up; a modify and a delete of an absent rule change nothing
others :
    would_leave add_drop K
    ∷ would_leave (7 ∷ drop 1 add_drop) K
    ∷ would_leave (8 ∷ drop 1 add_drop) K
    ∷ would_leave (8 ∷ drop 1 B) K
    ∷ would_leave (7 ∷ drop 1 add_any) K
    ∷ would_leave delete_absent K
    ∷ []
    ≡ (take 4 K ++ (to_drop ∷ B ∷ policy0))
    ∷ (take 4 K ++ (to_drop ∷ B ∷ policy0))
    ∷ (take 4 K ++ (B ∷ policy0))
    ∷ (take 4 K ++ (A ∷ policy0))
    ∷ K
    ∷ K
    ∷ []
unfolding applying
others = refl
