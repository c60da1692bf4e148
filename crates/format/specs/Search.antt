-- Records of a store by their number, and searches over the records of a network.
use Rattle.std.specs.Prelude.{Bool, cond, List, [], ◌∷◌, ℕ, suc, ◌+◌, ◌-◌, ◌*◌, take, drop}
use Rattle.format.specs.Record.{Rec, Net, records}

-- record number i of a store
abbrev pub record_at : List ℕ → ℕ → Rec
record_at store i = take 24 (drop (i * 24) store)

-- of n records of a store, those after number i
abbrev pub records_after : ℕ → List ℕ → ℕ → Net
records_after n store i = records (n - (i + 1)) (drop ((i + 1) * 24) store)

-- the number of records before the first that passes a test; all of them where none does
unfoldable pub first_at : (Rec → Bool) → Net → ℕ
first_at f [] = 0
first_at f (r ∷ rs) = let rest = suc (first_at f rs) in cond (f r) 0 rest
