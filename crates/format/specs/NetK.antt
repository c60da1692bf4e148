-- Network K of document 01, and the commands of its starred cases.
use Rattle.std.specs.Prelude.{List, [], ◌∷◌, ◌++◌, ℕ, suc, ◌-◌, length, get_or, take, drop, replicate}
use Rattle.format.specs.Record.{Rec, Net, store_bytes, flat}

-- a record of these bytes, then zeros
unfoldable pub record24 : List ℕ → Rec
record24 bytes = take 24 (bytes ++ replicate 24 0)

-- a node of policy 0
unfoldable pub node : ℕ → ℕ → ℕ → Rec
node k a b = record24 (5 ∷ 0 ∷ k ∷ a ∷ b ∷ [])

-- rule A: switch 0, priority 10, port 1, header 0, OUTPUT 2
unfoldable pub A : Rec
A = record24 (4 ∷ 0 ∷ 10 ∷ 0 ∷ 1 ∷ 3 ∷ 0 ∷ 1 ∷ 1 ∷ 1 ∷ 2 ∷ 3 ∷ [])

-- rule B: switch 1, priority 10, port 1, any header, OUTPUT 2
unfoldable pub B : Rec
B = record24 (4 ∷ 1 ∷ 10 ∷ 0 ∷ 1 ∷ 3 ∷ 0 ∷ 0 ∷ 1 ∷ 1 ∷ 2 ∷ 3 ∷ [])

-- policy 0, nodes 0–13: header 1 never leaves
unfoldable pub policy0 : Net
policy0 =
    node 2 0 0  -- 0: E X
    ∷ node 0 0 4  -- 1: BIT X 4
    ∷ node 3 1 0  -- 2: NOT 1
    ∷ node 4 0 2  -- 3: AND 0 2
    ∷ node 1 0 1  -- 4: R X Y
    ∷ node 8 4 1  -- 5: TC 4 (X,Y)
    ∷ node 2 1 0  -- 6: E Y
    ∷ node 0 1 4  -- 7: BIT Y 4
    ∷ node 0 1 0  -- 8: BIT Y 0
    ∷ node 4 6 7  -- 9: AND 6 7
    ∷ node 4 9 8  -- 10: AND 9 8
    ∷ node 4 5 10  -- 11: AND 5 10
    ∷ node 6 11 1  -- 12: SOME 11 Y
    ∷ node 4 3 12  -- 13: AND 3 12
    ∷ []

-- widths H 1, P 2, W 1; the link (0, 2) to (1, 1); both misses OUTPUT 0; the rules; the policy
unfoldable pub K : Net
K =
    record24 (1 ∷ 1 ∷ 2 ∷ 1 ∷ [])
    ∷ record24 (2 ∷ 0 ∷ 2 ∷ 1 ∷ 1 ∷ [])
    ∷ record24 (3 ∷ 0 ∷ 0 ∷ 0 ∷ 0 ∷ 0 ∷ 0 ∷ 0 ∷ 1 ∷ 1 ∷ 0 ∷ 3 ∷ [])
    ∷ record24 (3 ∷ 1 ∷ 0 ∷ 0 ∷ 0 ∷ 0 ∷ 0 ∷ 0 ∷ 1 ∷ 1 ∷ 0 ∷ 3 ∷ [])
    ∷ A ∷ B ∷ policy0

-- a network in a store of 15,768 bytes
unfoldable pub in_store : Net → List ℕ
in_store net = let bytes = flat net in bytes ++ replicate (store_bytes - length bytes) 0

-- a network with byte k of record i set to v
unfoldable pub altered : Net → ℕ → ℕ → ℕ → Net
altered net i k v = let r = get_or net i [] in take i net ++ ((take k r ++ (v ∷ drop (suc k) r)) ∷ drop (suc i) net)

-- the first add: switch 0, priority 5, any port, any header, OUTPUT 2
unfoldable pub add_any : Rec
add_any = record24 (6 ∷ 0 ∷ 5 ∷ 0 ∷ 0 ∷ 0 ∷ 0 ∷ 0 ∷ 1 ∷ 1 ∷ 2 ∷ 3 ∷ [])

-- the second: the same with header 0
unfoldable pub add_zero : Rec
add_zero = record24 (6 ∷ 0 ∷ 5 ∷ 0 ∷ 0 ∷ 0 ∷ 0 ∷ 1 ∷ 1 ∷ 1 ∷ 2 ∷ 3 ∷ [])

-- add switch 0, priority 20, port 1, any header, SET 1, OUTPUT 2
unfoldable pub add_set : Rec
add_set = record24 (6 ∷ 0 ∷ 20 ∷ 0 ∷ 1 ∷ 3 ∷ 0 ∷ 0 ∷ 2 ∷ 2 ∷ 1 ∷ 1 ∷ 1 ∷ 2 ∷ 3 ∷ [])

-- add with A's match, OUTPUT 0
unfoldable pub add_drop : Rec
add_drop = record24 (6 ∷ 0 ∷ 10 ∷ 0 ∷ 1 ∷ 3 ∷ 0 ∷ 1 ∷ 1 ∷ 1 ∷ 0 ∷ 3 ∷ [])

-- delete of an absent rule
unfoldable pub delete_absent : Rec
delete_absent = record24 (8 ∷ 1 ∷ 99 ∷ 0 ∷ 1 ∷ 3 ∷ [])

-- add of D: switch 0, priority 8, any port, header 1, OUTPUT 0
unfoldable pub add_d : Rec
add_d = record24 (6 ∷ 0 ∷ 8 ∷ 0 ∷ 0 ∷ 0 ∷ 1 ∷ 1 ∷ 1 ∷ 1 ∷ 0 ∷ 3 ∷ [])

-- delete of D
unfoldable pub delete_d : Rec
delete_d = record24 (8 ∷ 0 ∷ 8 ∷ 0 ∷ 0 ∷ 0 ∷ 1 ∷ 1 ∷ [])
