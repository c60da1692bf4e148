-- Row 13 by the kind of a command and the version: with 256 rules present an add of a new rule is refused, in 1.0 a modify of a new rule too, and no other command.
use Rattle.std.specs.Prelude.{◌≡◌, refl, Bool, ◌&&◌, length}
use Rattle.std.proofs.Common.{sym, ◌∙◌}
use Rattle.std.proofs.Math.Bool.{true, false, not, and-true, and-false}
use Rattle.std.proofs.Math.Dec.{leb}
use Rattle.format.specs.Record.{Rec, Net, most_rules, kind, command_kind, of_kind, same_rule, present}
use Rattle.format.specs.Version.{version_of, acts_as, acting, is_add, as_add}
use Rattle.format.specs.declared.Version.TheVariants.{OpenFlow10, OpenFlow13}
use Rattle.refusals.specs.Rows.{row13}

-- a command's rule is new, and 256 are present
abbrev pub no_room : Net → Rec → Bool
no_room net c = not (present c net) && leb most_rules (length (of_kind 4 net))

-- were its rule new, it would act as an add
abbrev pub adds_new : Net → Rec → Bool
adds_new net c = is_add (acts_as (version_of net) false (command_kind (kind c)))

module _ (net : Net) (c : Rec) where
  -- so row 13 goes by what a command would act as, were its rule new
  pub row_13 : row13 net c ≡ (adds_new net c && no_room net c)
  unfolding row13 acting
  row_13 = go (present c net)
    where
      go : (there : Bool) → (is_add (acts_as (version_of net) there (command_kind (kind c))) && not there && leb most_rules (length (of_kind 4 net)))
          ≡ (adds_new net c && (not there && leb most_rules (length (of_kind 4 net))))
      go true = simp and-false
      go false = rw and-true

  -- an add of a new rule, with 256 present
  pub full_add : kind c ≡ 6 → row13 net c ≡ no_room net c
  unfolding command_kind
  full_add e = row_13 ∙ rw e

  -- in 1.0 a modify of a new rule
  pub full_modify : kind c ≡ 7 → version_of net ≡ OpenFlow10 → row13 net c ≡ no_room net c
  unfolding command_kind
  full_modify e v = row_13 ∙ rw (e, v)

  -- in 1.3 no modify
  pub never_full_modify : kind c ≡ 7 → version_of net ≡ OpenFlow13 → row13 net c ≡ false
  unfolding command_kind
  never_full_modify e v = row_13 ∙ rw (e, v)

  -- and no delete
  pub never_full_delete : kind c ≡ 8 → row13 net c ≡ false
  unfolding command_kind
  never_full_delete e = row_13 ∙ rw e

-- in 1.0 a modify finds the table full exactly if the add with its bytes does
pub full_as_add : (net : Net) (c : Rec) → kind c ≡ 7 → version_of net ≡ OpenFlow10 → row13 net c ≡ row13 net (as_add c)
unfolding as_add present same_rule
full_as_add net c e v = full_modify net c e v ∙ sym (full_add net (as_add c) refl)
