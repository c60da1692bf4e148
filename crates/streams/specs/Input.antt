-- How the input becomes a network, commands, and the bytes of a cut last record.
use Rattle.std.specs.Prelude.{Bool, cond, not, ◌&&◌, ◌||◌, List, [], ◌∷◌, ℕ, ◌*◌, ◌/◌, ltb, leb, length, drop}
use Rattle.format.specs.Record.{Rec, Net, kind, records, most_records}

-- kinds 6 to 8 are commands
unfoldable pub is_command_kind : ℕ → Bool
is_command_kind k = leb 6 k && leb k 8

-- a record, whole or cut, is a command by its kind
unfoldable pub is_command : Rec → Bool
is_command r = is_command_kind (kind r)

-- the records up to the first of kind 6 to 8
unfoldable pub network_of : List Rec → Net
network_of [] = []
network_of (r ∷ rs) = cond (is_command r) [] (r ∷ network_of rs)

-- and from that one on
unfoldable pub commands_of : List Rec → List Rec
commands_of [] = []
commands_of (r ∷ rs) = cond (is_command r) (r ∷ rs) (commands_of rs)

-- what is read: a network, then commands, then fewer than 24 bytes
pub record Input : Type 0 where
  pub network : Net
  pub commands : List Rec
  pub rest : List ℕ

-- the input of some whole records and the bytes behind them
unfoldable pub input_of : List Rec → List ℕ → Input
input_of whole rest = record { network = network_of whole; commands = commands_of whole; rest = rest }

-- the input of its bytes
unfoldable pub input : List ℕ → Input
input bytes = let count = length bytes / 24 in input_of (records count bytes) (drop (count * 24) bytes)

-- the last record is cut
unfoldable pub is_cut : Input → Bool
is_cut i = ltb 0 (length i.rest)

-- a record of kind 6 to 8, whole or cut, was met
unfoldable pub command_met : Input → Bool
command_met i = ltb 0 (length i.commands) || is_command i.rest

-- more than 657 whole network records are answered by row 1 without reading on
unfoldable pub too_many : Input → Bool
too_many i = ltb most_records (length i.network)

-- `end short` stands in place of the start line
unfoldable pub short_start : Input → Bool
short_start i = is_cut i && not (command_met i) && not (too_many i)
