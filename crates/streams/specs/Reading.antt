-- What the program does with each piece of the input, 24 bytes or the fewer that are left.
use Rattle.std.specs.Prelude.{false, cond, ◌≡◌, Option, None, Some, Result, Ok, Err, List, [], ◌∷◌, ◌++◌, ℕ, zero, suc, ◌+◌, ◌-◌, ◌*◌, ◌<◌, ◌≤◌, min, eqb, ltb, ℤ, pos, negsuc, length, take, drop}
use Rattle.io.specs.Counts.{IsPrefixLen}
use Rattle.format.specs.Record.{Rec, Net, most_records, flat}
use Rattle.format.specs.Laws.Records.{Whole}
use Rattle.streams.specs.declared.input.Next.{Next}
use Rattle.streams.specs.declared.input.Next.TheVariants as next
use Rattle.streams.specs.declared.input.Later.{Later}
use Rattle.streams.specs.declared.input.Later.TheVariants as later
use Rattle.streams.specs.declared.input.ReadFailed.{ReadFailed}
use Rattle.streams.specs.Input.{is_command}

-- what a call of read said: a negative number that it failed, 0 that the input ended, else how many bytes it read
abbrev pub said_by : ℤ → Result (Option ℕ) ReadFailed
said_by (pos zero) = Ok None
said_by (pos (suc k)) = Ok (Some (suc k))
said_by (negsuc k) = Err (record {})

-- what was read is not nothing, and there was room for it
abbrev pub InRoom : Result (Option ℕ) ReadFailed → ℕ → Type 0
InRoom (Ok (Some k)) room = (0 < k) × (k ≤ room)
InRoom (Ok None) room = Unit {0}
InRoom (Err e) room = Unit {0}

-- one read behind the first done bytes of a buffer, which keep what they have
pub record ReadBehind (done : ℕ) (before after : List ℕ) (r : Result (Option ℕ) ReadFailed) : Type 0 where
  pub in_room : InRoom r (length before - done)
  pub len : length after ≡ length before
  pub kept : take done after ≡ take done before

-- the bytes of a piece are at the start of the buffer
abbrev pub PieceWithin : Result ℕ ReadFailed → List ℕ → Type 0
PieceWithin (Ok k) buffer = IsPrefixLen k buffer
PieceWithin (Err e) buffer = Unit {0}

-- a buffer after a piece was read into it: as long as before, whatever else it has
pub record PieceRead (before after : List ℕ) (r : Result ℕ ReadFailed) : Type 0 where
  pub within : PieceWithin r after
  pub len : length after ≡ length before

-- what bytes are behind n network records, before any command
unfoldable pub next_of : ℕ → List ℕ → Next
next_of n bytes =
    cond (eqb (length bytes) 0) next.End
    (cond (ltb (length bytes) 24) (cond (is_command bytes) next.CutCommand next.Cut)
    (cond (is_command bytes) next.Command (cond (ltb n most_records) next.Network next.TooMany)))

-- what a piece is there: a read that failed is neither the end of the input nor a cut record
abbrev pub next_by : ℕ → Result ℕ ReadFailed → List ℕ → Next
next_by n (Ok k) buffer = next_of n (take k buffer)
next_by n (Err e) buffer = next.Failed

-- what bytes are behind a command
unfoldable pub later_of : List ℕ → Later
later_of bytes = cond (eqb (length bytes) 0) later.End (cond (ltb (length bytes) 24) later.Cut later.Command)

-- what a piece is there
abbrev pub later_by : Result ℕ ReadFailed → List ℕ → Later
later_by (Ok k) buffer = later_of (take k buffer)
later_by (Err e) buffer = later.Failed

-- a store with the bytes of record number n replaced, every other byte as before
unfoldable pub with_record : Rec → ℕ → List ℕ → List ℕ
with_record r n store = take (n * 24) store ++ r ++ drop (n * 24 + 24) store

-- a store that starts with the records of a network, every byte behind them as before
unfoldable pub with_records : Net → List ℕ → List ℕ
with_records net store = flat net ++ drop (length net * 24) store

-- none of the records is a command
abbrev pub NoCommand : Net → Type 0
NoCommand [] = Unit {0}
NoCommand (r ∷ rs) = (is_command r ≡ false) × NoCommand rs

-- n whole records, none of them a command, were put into a store
pub record Holding (n : ℕ) (before after : List ℕ) : Type 0 where
  pub net : Net
  pub whole : Whole net
  pub none : NoCommand net
  pub size : length net ≡ n
  pub stored : after ≡ with_records net before

-- what reading the network leaves, with what came after its records: of more than 657 the store has the first 657
pub record Loads (met : Next) (n : ℕ) (before after : List ℕ) : Type 0 where
  pub held : Holding (min n most_records) before after
  pub many : met ≡ next.TooMany → most_records < n
  pub few : (met ≡ next.TooMany → ⊥) → n ≤ most_records
