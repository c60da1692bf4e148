-- The wire version of a network's switches, and what a command acts as in each.
use Rattle.std.specs.Prelude.{Bool, true, false, cond, ◌||◌, [], ◌∷◌, ℕ, eqb, get_or, drop}
use Rattle.format.specs.Record.{Rec, Net, at, kind, command_kind, present}
use Rattle.format.specs.declared.kinds.CommandKind.{CommandKind}
use Rattle.format.specs.declared.kinds.CommandKind.TheVariants.{Add as k_add, Modify as k_modify, Delete as k_delete, Unknown as k_no_command}
use Rattle.format.specs.declared.Version.{Version}
use Rattle.format.specs.declared.Version.TheVariants.{OpenFlow10, OpenFlow13}

-- byte 4 of the widths record: 0, 1 or 4
unfoldable pub version_good : ℕ → Bool
version_good b = eqb b 0 || eqb b 1 || eqb b 4

-- the version that it names: 1 is OpenFlow 1.0, 4 is OpenFlow 1.3, and 0 reads as 4; so would any other byte, which is a field fault
unfoldable pub version_named : ℕ → Version
version_named b = cond (eqb b 1) OpenFlow10 OpenFlow13

-- the version that the first record gives
unfoldable pub version_of : Net → Version
version_of net = version_named (at (get_or net 0 []) 4)

-- what a modify acts as, by whether its rule is there: without its rule, in 1.0 as an add
abbrev pub modify_as : Version → Bool → CommandKind
modify_as OpenFlow10 there = cond there k_modify k_add
modify_as OpenFlow13 there = k_modify

-- what a command of each kind acts as, by whether its rule is there
abbrev pub acts_as : Version → Bool → CommandKind → CommandKind
acts_as v there k_add = k_add
acts_as v there k_modify = modify_as v there
acts_as v there k_delete = k_delete
acts_as v there k_no_command = k_no_command

-- what a command acts as on a network
unfoldable pub acting : Version → Rec → Net → CommandKind
acting v c net = acts_as v (present c net) (command_kind (kind c))

-- a command that acts as an add
abbrev pub is_add : CommandKind → Bool
is_add k_add = true
is_add k_modify = false
is_add k_delete = false
is_add k_no_command = false

-- the add with a command's bytes
unfoldable pub as_add : Rec → Rec
as_add c = 6 ∷ drop 1 c
