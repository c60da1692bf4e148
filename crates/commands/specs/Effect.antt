-- The effect of a command in code: what its functions are lent, and what they leave.
use Rattle.std.specs.Prelude.{◌≡◌, Bool, List, ◌∷◌, ◌++◌, ℕ, ◌-◌, ltb, length, take, drop, replicate}
use Rattle.format.specs.Record.{Rec, Net, store_bytes, kind, records, flat}
use Rattle.commands.specs.declared.stored.Stored.{Stored}

-- bytes, then zeros to byte 15,768
unfoldable pub padded : List ℕ → List ℕ
padded bytes = bytes ++ replicate (store_bytes - length bytes) 0

-- the records of a network, then zeros to byte 15,768
abbrev pub filled : Net → List ℕ
filled net = padded (flat net)

-- the records with one in place of those from i up to j
abbrev pub spliced : Net → ℕ → ℕ → Rec → Net
spliced net i j r = take i net ++ (r ∷ drop j net)

-- the records without those from i up to j
abbrev pub joined : Net → ℕ → ℕ → Net
joined net i j = take i net ++ drop j net

-- a record of a kind above the rules'
abbrev pub above_rules : Rec → Bool
above_rules r = ltb 4 (kind r)

-- the records of a store, as a network
abbrev pub net_of : Stored → Net
net_of s = records s.n s.store.now

-- the network's records are counted, and stand in the buffer, then zeros
pub record Built (net : Net) (count : ℕ) (next : List ℕ) : Type 0 where
  pub count_is : count ≡ length net
  pub bytes_are : next ≡ filled net
