-- A relation on the states below a count, tabulated.
use Rattle.std.specs.Prelude.{Bool, false, List, [], ◌∷◌, ℕ, zero, suc, get_or}

-- a line for each state, and in it a test for each state
abbrev pub Grid : Type 0
Grid = List (List Bool)

-- the test of state i for state j
unfoldable pub grid_test : Grid → ℕ → ℕ → Bool
grid_test g i j = get_or (get_or g i []) j false

-- the list of f i, f (i + 1), .., n of them
unfoldable pub tab {ℓ} : {A : Type ℓ} → ℕ → ℕ → (ℕ → A) → List A
tab zero i f = []
tab (suc n) i f = f i ∷ tab n (suc i) f

-- the grid of a relation on the states below S
unfoldable pub grid : ℕ → (ℕ → ℕ → Bool) → Grid
grid S r = tab S 0 (λ i. tab S 0 (λ j. r i j))
