-- The truth of every kind of node, for every X and Y, on four states, written by hand from document 01's table of nodes: by computation, and as statements about `Truth`.
use Rattle.std.specs.Prelude.{◌≡◌, refl, Bool, true, false, List, [], ◌∷◌, map, ◌↔◌, ℕ, ◌<◌, get_or}
use Rattle.std.proofs.Common.{sym, ◌∙◌}
use Rattle.std.specs.Bool.{beq}
use Rattle.basics.specs.Bit.{bit_of}
use Rattle.basics.specs.Tabulated.{grid_test, tab, grid}
use Rattle.walks.specs.Computed.{or_line, add_line, round, rounds, closed}
use Rattle.basics.specs.Lists.{any, member, keep, from}
use Rattle.format.specs.Policy.{formula}
use Rattle.format.specs.NodeTable.{nodes, node_count, reading}
use Rattle.truth.specs.Truth.{Model, Truth}
use Rattle.truth.specs.Computed.{Table, truth}
use Rattle.basics.specs.Below.{any_below, all_below}
use Rattle.truth.specs.Laws.Tables.{Agrees, beq_same, truth_at}
use Rattle.basics.specs.Laws.Below.{all_iff}

-- 0 steps to 1, 1 to 2, 2 to 1 and to itself, and 3 nowhere: neither symmetric nor transitive; the point of 1 alone is external
unfoldable four : Table
four =
    record {
      count = 4;
      steps = (false ∷ true ∷ false ∷ false ∷ []) ∷ (false ∷ false ∷ true ∷ false ∷ []) ∷ (false ∷ true ∷ true ∷ false ∷ []) ∷ (false ∷ false ∷ false ∷ false ∷ []) ∷ [];
      externals = false ∷ true ∷ false ∷ false ∷ [];
    }

-- the model that it is
abbrev model : Model
model = record { count = 4; Steps = λ x y. grid_test four.steps x y ≡ true; External = λ x. get_or four.externals x false ≡ true }

-- every Y
abbrev each : List ℕ
each = 0 ∷ 1 ∷ 2 ∷ 3 ∷ []

-- the same for every X
abbrev always : List ℕ → List (List ℕ)
always ys = ys ∷ ys ∷ ys ∷ ys ∷ []

-- for each node, and X from 0 to 3, the values of Y with which it is true
unfoldable table : List (List (List ℕ))
table =
    ([] ∷ each ∷ [] ∷ each ∷ [])  -- 0: BIT X 0
    ∷ ([] ∷ [] ∷ each ∷ each ∷ [])  -- 1: BIT X 1
    ∷ always (1 ∷ 3 ∷ [])  -- 2: BIT Y 0
    ∷ always (2 ∷ 3 ∷ [])  -- 3: BIT Y 1
    ∷ ([] ∷ [] ∷ each ∷ [] ∷ [])  -- 4: R X X
    ∷ ((1 ∷ []) ∷ (2 ∷ []) ∷ (1 ∷ 2 ∷ []) ∷ [] ∷ [])  -- 5: R X Y
    ∷ ([] ∷ (0 ∷ 2 ∷ []) ∷ (1 ∷ 2 ∷ []) ∷ [] ∷ [])  -- 6: R Y X
    ∷ always (2 ∷ [])  -- 7: R Y Y
    ∷ ([] ∷ each ∷ [] ∷ [] ∷ [])  -- 8: E X
    ∷ always (1 ∷ [])  -- 9: E Y
    ∷ ((0 ∷ 2 ∷ 3 ∷ []) ∷ (0 ∷ 1 ∷ 3 ∷ []) ∷ (0 ∷ 3 ∷ []) ∷ each ∷ [])  -- 10: NOT R X Y
    ∷ ([] ∷ (1 ∷ []) ∷ [] ∷ [] ∷ [])  -- 11: AND of E X and E Y
    ∷ ((1 ∷ []) ∷ each ∷ (1 ∷ []) ∷ (1 ∷ []) ∷ [])  -- 12: OR of E X and E Y
    ∷ always (1 ∷ 2 ∷ [])  -- 13: SOME X, R X Y: some state steps to Y
    ∷ (each ∷ each ∷ each ∷ [] ∷ [])  -- 14: SOME Y, R X Y: X steps somewhere
    ∷ always (0 ∷ 3 ∷ [])  -- 15: ALL X, NOT R X Y: no state steps to Y
    ∷ ([] ∷ [] ∷ [] ∷ each ∷ [])  -- 16: ALL Y, NOT R X Y: X steps nowhere
    ∷ ([] ∷ each ∷ each ∷ [] ∷ [])  -- 17: TC of R X Y, (X,X): X lies on a loop
    ∷ ((1 ∷ 2 ∷ []) ∷ (1 ∷ 2 ∷ []) ∷ (1 ∷ 2 ∷ []) ∷ [] ∷ [])  -- 18: TC of R X Y, (X,Y): X reaches Y
    ∷ ([] ∷ (0 ∷ 1 ∷ 2 ∷ []) ∷ (0 ∷ 1 ∷ 2 ∷ []) ∷ [] ∷ [])  -- 19: TC of R X Y, (Y,X): Y reaches X
    ∷ always (1 ∷ 2 ∷ [])  -- 20: TC of R X Y, (Y,Y): Y lies on a loop
    ∷ ([] ∷ (0 ∷ 1 ∷ 2 ∷ []) ∷ (0 ∷ 1 ∷ 2 ∷ []) ∷ [] ∷ [])  -- 21: TC of R Y X, (X,Y): each step is taken backwards
    ∷ always (1 ∷ 3 ∷ [])  -- 22: TC of BIT Y 0, (X,Y): each state on the way but the first is odd
    ∷ always []  -- 23: no node
    ∷ always each  -- 24: NOT of no node
    ∷ []

-- what computing a truth opens
unfoldable computing : Unit {0}
unfolding reading bit_of grid_test tab grid or_line add_line round rounds closed any member keep from any_below all_below truth four table
computing = tt

-- the computed truth is the table's
computed : map (λ i. let f = truth four (formula nodes i) in map (λ x. keep (f x) each) each) (from 0 node_count) ≡ table
unfolding computing
computed = refl

-- node i, X and Y: the table has Y
abbrev listed : ℕ → ℕ → ℕ → Bool
listed i x y = member y (get_or (get_or table i []) x [])

-- and so one by one
each_computed :
    all_below node_count (λ i. all_below 4 (λ x. all_below 4 (λ y. beq (truth four (formula nodes i) x y) (listed i x y)))) ≡ true
unfolding computing
each_computed = refl

four_agrees : Agrees model four
unfolding four
four_agrees = record { counts = refl; steps_agree = λ x y hx hy. (λ e. e, λ e. e); externals_agree = λ x hx. (λ e. e, λ e. e) }

-- a node is true with X and Y exactly if the table has Y
as_table : (i x y : ℕ) → i < node_count → x < 4 → y < 4 → Truth model (formula nodes i) x y ↔ listed i x y ≡ true
as_table i x y hi hx hy =
    let same : truth four (formula nodes i) x y ≡ listed i x y =
    beq_same (truth four (formula nodes i) x y) (listed i x y)
    ((all_iff 4 (λ (y : ℕ). beq (truth four (formula nodes i) x y) (listed i x y))).0
    ((all_iff 4 (λ (x : ℕ). all_below 4 (λ y. beq (truth four (formula nodes i) x y) (listed i x y)))).0
    ((all_iff node_count (λ (i : ℕ). all_below 4 (λ x. all_below 4 (λ y. beq (truth four (formula nodes i) x y) (listed i x y))))).0 each_computed i hi) x hx) y hy) in
    let e = truth_at model four four_agrees (formula nodes i) x y hx hy in
    (λ p. sym same ∙ e.1 p, λ m. e.0 (same ∙ m))
