-- A network in a store.
use mathlib.Core.Path.{◌≡◌, sym}
use mathlib.Core.List.{List, ◌++◌, append_assoc}
use Prim.Native.Nat.{ℕ, ◌-◌}
use lib.ListN.{length, drop, replicate}
use Rattle.format.specs.Record.{Net, store_bytes, flat}
use Rattle.commands.specs.Effect.{padded, filled}
use Rattle.book.specs.Reference.{stored}

-- a network in a store: its bytes, then zeros, then what was there
pub stored_filled : (net : Net) (store : List ℕ) → stored net store ≡ filled net ++ drop store_bytes store
unfolding stored padded
stored_filled net store = sym (append_assoc (flat net) (replicate (store_bytes - length (flat net)) 0) (drop store_bytes store))
