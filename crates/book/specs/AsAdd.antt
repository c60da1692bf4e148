-- In 1.0 a modify without its rule is answered as the add with its bytes is, by whatever row or verdict, and leaves what that add leaves.
use Rattle.std.specs.Prelude.{◌≡◌, refl, false, [], ◌∷◌, ℕ}
use Rattle.std.proofs.Math.Path.{subst⁻¹}
use Rattle.std.proofs.Common.{arith}
use Rattle.format.specs.Record.{Rec, Net, kind, command_kind, present}
use Rattle.format.specs.Group.{runs_there, actions_there}
use Rattle.basics.specs.Lists.{all, from}
use Rattle.format.specs.Version.{version_of, as_add}
use Rattle.format.specs.Fields.{zeros, action_good, actions_good, match_good, command_good}
use Rattle.format.specs.declared.Version.{Version}
use Rattle.format.specs.declared.Version.TheVariants.{OpenFlow10}
use Rattle.refusals.specs.Rows.{row12, row16_command}
use Rattle.refusals.specs.Refusal.{command_row, command_refusal}
use Rattle.refusals.specs.FullTable.{full_as_add}
use Rattle.effect.specs.Apply.{applied, would_leave}
use Rattle.effect.specs.Laws.Applied.{acts_as-add}
use Rattle.book.specs.Reference.{Installed, network, outcome_of}

-- rows 12 and 16 read nothing of a modify but what they read of an add
row_12 : (net : Net) (c : Rec) → kind c ≡ 7 → row12 net c ≡ row12 net (as_add c)
unfolding as_add row12 command_good command_kind match_good actions_good action_good zeros
row_12 net [] e = absurd (omega arith)
row_12 net (x ∷ c) e = rw e

row_16 : (net : Net) (c : Rec) → kind c ≡ 7 → row16_command net c ≡ row16_command net (as_add c)
unfolding as_add row16_command actions_there runs_there all from
row_16 net [] e = absurd (omega arith)
row_16 net (x ∷ c) e = refl

-- so the first row that refuses is the same
row_as_add : (net : Net) (c : Rec) → kind c ≡ 7 → version_of net ≡ OpenFlow10 → command_row net c ≡ command_row net (as_add c)
unfolding command_row
row_as_add net c e v = rw (row_12 net c e, row_16 net c e, full_as_add net c e v)

-- and so is the network that it would leave
left_as_add : (net : Net) (c : Rec) → kind c ≡ 7 → version_of net ≡ OpenFlow10 → present c net ≡ false → would_leave c net ≡ would_leave (as_add c) net
left_as_add net c e v t = subst⁻¹ (λ (version : Version). applied version c net ≡ applied version (as_add c) net) v (acts_as-add c net e t)

-- the answer, and what is installed after it
pub answered_as_add : (i : Installed) (c : Rec) (work : ℕ) → kind c ≡ 7 → version_of (network i) ≡ OpenFlow10 → present c (network i) ≡ false
    → outcome_of i c work ≡ outcome_of i (as_add c) work
unfolding outcome_of command_refusal
answered_as_add i c work e v t = rw (row_as_add (network i) c e v, left_as_add (network i) c e v t)
