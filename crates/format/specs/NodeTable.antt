-- Every kind of policy node as its record's bytes, with the formula that it stands for and its free variables, written by hand: by computation.
use Rattle.std.specs.Prelude.{◌≡◌, refl, Bool, true, false, [], ◌∷◌, map, ℕ}
use Rattle.basics.specs.Lists.{from}
use Rattle.format.specs.Record.{Net}
use Rattle.format.specs.NetK.{record24, node}
use Rattle.format.specs.Policy.{absent, BIT, R, E, NOT, AND, OR, SOME, ALL, TC, node_kind, node_says, first_nodes, formula, free}
use Rattle.format.specs.declared.kinds.Var.TheVariants.{X, Y}

-- each node kind with every variable and every pair: byte 2 its kind, bytes 3 and 4
unfoldable pub nodes : Net
nodes =
    node 0 0 0  -- 0: BIT X 0
    ∷ node 0 0 1  -- 1: BIT X 1
    ∷ node 0 1 0  -- 2: BIT Y 0
    ∷ node 0 1 1  -- 3: BIT Y 1
    ∷ node 1 0 0  -- 4: R X X
    ∷ node 1 0 1  -- 5: R X Y
    ∷ node 1 1 0  -- 6: R Y X
    ∷ node 1 1 1  -- 7: R Y Y
    ∷ node 2 0 0  -- 8: E X
    ∷ node 2 1 0  -- 9: E Y
    ∷ node 3 5 0  -- 10: NOT 5
    ∷ node 4 8 9  -- 11: AND 8 9
    ∷ node 5 8 9  -- 12: OR 8 9
    ∷ node 6 5 0  -- 13: SOME 5 X
    ∷ node 6 5 1  -- 14: SOME 5 Y
    ∷ node 7 10 0  -- 15: ALL 10 X
    ∷ node 7 10 1  -- 16: ALL 10 Y
    ∷ node 8 5 0  -- 17: TC 5 (X,X)
    ∷ node 8 5 1  -- 18: TC 5 (X,Y)
    ∷ node 8 5 2  -- 19: TC 5 (Y,X)
    ∷ node 8 5 3  -- 20: TC 5 (Y,Y)
    ∷ node 8 6 1  -- 21: TC 6 (X,Y)
    ∷ node 8 2 1  -- 22: TC 2 (X,Y)
    ∷ node 9 0 0  -- 23: no node
    ∷ node 3 24 0  -- 24: NOT of itself, which is no earlier node
    ∷ []

-- how many there are
abbrev pub node_count : ℕ
node_count = 25

-- what reading a node opens
unfoldable pub reading : Unit {0}
unfolding from record24 node nodes node_kind node_says first_nodes formula
reading = tt

-- the formula of each
formulas :
    map (formula nodes) (from 0 node_count)
    ≡ BIT X 0 ∷ BIT X 1 ∷ BIT Y 0 ∷ BIT Y 1
    ∷ R X X ∷ R X Y ∷ R Y X ∷ R Y Y
    ∷ E X ∷ E Y
    ∷ NOT (R X Y) ∷ AND (E X) (E Y) ∷ OR (E X) (E Y)
    ∷ SOME (R X Y) X ∷ SOME (R X Y) Y
    ∷ ALL (NOT (R X Y)) X ∷ ALL (NOT (R X Y)) Y
    ∷ TC (R X Y) X X ∷ TC (R X Y) X Y ∷ TC (R X Y) Y X ∷ TC (R X Y) Y Y
    ∷ TC (R Y X) X Y ∷ TC (BIT Y 0) X Y
    ∷ absent ∷ NOT absent
    ∷ []
unfolding reading
formulas = refl

-- whether X, and whether Y, is free in a node
free_in : ℕ → Bool × Bool
free_in i = let f = formula nodes i in (free X f, free Y f)

-- SOME and ALL remove theirs; TC has exactly its pair, whatever its operand has
free_variables :
    map free_in (from 0 node_count)
    ≡ (true, false) ∷ (true, false) ∷ (false, true) ∷ (false, true)
    ∷ (true, false) ∷ (true, true) ∷ (true, true) ∷ (false, true)
    ∷ (true, false) ∷ (false, true)
    ∷ (true, true) ∷ (true, true) ∷ (true, true)
    ∷ (false, true) ∷ (true, false)
    ∷ (false, true) ∷ (true, false)
    ∷ (true, false) ∷ (true, true) ∷ (true, true) ∷ (false, true)
    ∷ (true, true) ∷ (true, true)
    ∷ (false, false) ∷ (false, false)
    ∷ []
unfolding reading free_in free
free_variables = refl
