-- The closure of a relation, computed: what is proved of it stands in Laws.Closing.
use Rattle.std.specs.Prelude.{Bool, true, false, ◌||◌, List, [], ◌∷◌, map, ℕ, zero, suc, get_or}
use Rattle.basics.specs.Tabulated.{Grid, grid}

-- two lines, test by test
unfoldable pub or_line : List Bool → List Bool → List Bool
or_line [] ys = ys
or_line (x ∷ xs) [] = x ∷ xs
or_line (x ∷ xs) (y ∷ ys) = (x || y) ∷ or_line xs ys

-- a line with another put into it, or as it is
unfoldable pub add_line : Bool → List Bool → List Bool → List Bool
add_line true line mid = or_line line mid
add_line false line mid = line

-- the line of k is put into each line that has k
unfoldable pub round : ℕ → Grid → Grid
round k g = let mid = get_or g k [] in map (λ line. add_line (get_or line k false) line mid) g

-- a round for each state below k
unfoldable pub rounds : ℕ → Grid → Grid
rounds zero g = g
rounds (suc k) g = round k (rounds k g)

-- the closure of a relation on the states below S: a round for each state
unfoldable pub closed : ℕ → (ℕ → ℕ → Bool) → Grid
closed S r = rounds S (grid S r)
