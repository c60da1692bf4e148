-- The effect of a command on the records of a network: add, modify and delete in strict form.
use Rattle.std.specs.Prelude.{true, false, [], ◌∷◌, ◌++◌, ltb, take, drop}
use Rattle.format.specs.Record.{Rec, Net, kind, same_rule, present}
use Rattle.format.specs.declared.kinds.CommandKind.{CommandKind}
use Rattle.format.specs.declared.kinds.CommandKind.TheVariants.{Add as k_add, Modify as k_modify, Delete as k_delete, Unknown as k_no_command}
use Rattle.format.specs.Version.{version_of, acting}
use Rattle.format.specs.declared.Version.{Version}

-- the rule of a command, stored as kind 4
unfoldable pub as_rule : Rec → Rec
as_rule c = 4 ∷ drop 1 c

-- a rule with the action count and actions of a command, bytes 8 to 20
unfoldable pub with_actions : Rec → Rec → Rec
with_actions c r = take 8 r ++ (take 13 (drop 8 c) ++ drop 21 r)

-- the same rule as c changed in its place
unfoldable pub changed : (Rec → Rec) → Rec → Net → Net
changed f c [] = []
changed f c (r ∷ rest) = elim (same_rule c r) [ true ↦ f r ∷ rest | false ↦ r ∷ changed f c rest ]

-- the rule of c after the last rule, after the last miss if none: before the first record of a higher kind
unfoldable pub inserted : Rec → Net → Net
inserted c [] = as_rule c ∷ []
inserted c (r ∷ rest) = elim (ltb 4 (kind r)) [ true ↦ as_rule c ∷ r ∷ rest | false ↦ r ∷ inserted c rest ]

-- the same rule as c removed
unfoldable pub removed : Rec → Net → Net
removed c [] = []
removed c (r ∷ rest) = elim (same_rule c r) [ true ↦ rest | false ↦ r ∷ removed c rest ]

-- add replaces the same rule in its place, or else inserts
unfoldable pub added : Rec → Net → Net
added c net = elim (present c net) [ true ↦ changed (λ r. as_rule c) c net | false ↦ inserted c net ]

-- what a command leaves, by what it acts as; without the same rule, modify and delete change nothing
abbrev pub applied_as : CommandKind → Rec → Net → Net
applied_as k_add c net = added c net
applied_as k_modify c net = changed (with_actions c) c net
applied_as k_delete c net = removed c net
applied_as k_no_command c net = net

-- a command applied, in a version
unfoldable pub applied : Version → Rec → Net → Net
applied v c net = applied_as (acting v c net) c net

-- the network that a command would leave, in the version that the first record gives
abbrev pub would_leave : Rec → Net → Net
would_leave c net = applied (version_of net) c net
