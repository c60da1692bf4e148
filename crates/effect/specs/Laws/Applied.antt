-- The effect of a command by its kind: only that of a modify without its rule differs between the versions.
use Rattle.std.specs.Prelude.{◌≡◌, false, ℕ, zero, suc}
use Rattle.std.proofs.Math.Path.{refl}
use Rattle.std.proofs.Common.{sym, ◌∙◌}
use Rattle.std.proofs.Math.Bool.{true}
use Rattle.format.specs.Record.{Rec, Net, kind, command_kind, same_rule, present}
use Rattle.format.specs.declared.kinds.CommandKind.TheVariants.{Modify as k_modify, Unknown as k_no_command}
use Rattle.format.specs.Version.{modify_as, acting, as_add}
use Rattle.format.specs.declared.Version.{Version}
use Rattle.format.specs.declared.Version.TheVariants.{OpenFlow10, OpenFlow13}
use Rattle.effect.specs.Apply.{as_rule, with_actions, changed, inserted, removed, added, applied}
use Rattle.effect.specs.Laws.RulePlace.{changed_none, added_new, inserted_by}

module _ (v : Version) (c : Rec) (net : Net) where
  pub applied-add : kind c ≡ 6 → applied v c net ≡ added c net
  unfolding applied acting command_kind
  applied-add e = rw e

  -- with its rule there, a modify does the same in both versions
  pub modify_there : kind c ≡ 7 → present c net ≡ true → applied v c net ≡ changed (with_actions c) c net
  unfolding applied acting command_kind
  modify_there e t = rw (e, t, there v)
    where
      there : (v : Version) → modify_as v true ≡ k_modify
      there OpenFlow10 = refl
      there OpenFlow13 = refl

  pub applied_delete : kind c ≡ 8 → applied v c net ≡ removed c net
  unfolding applied acting command_kind
  applied_delete e = rw e

-- without its rule, it adds in 1.0
pub modify_adds : (c : Rec) (net : Net) → kind c ≡ 7 → present c net ≡ false → applied OpenFlow10 c net ≡ inserted c net
unfolding applied acting command_kind
modify_adds c net e t = rw (e, t) (added_new c net t)

-- as the add with its bytes does
pub acts_as-add : (c : Rec) (net : Net) → kind c ≡ 7 → present c net ≡ false → applied OpenFlow10 c net ≡ applied OpenFlow10 (as_add c) net
unfolding as_add as_rule present same_rule
acts_as-add c net e t =
    modify_adds c net e t ∙ inserted_by c (as_add c) refl net ∙ sym (applied-add OpenFlow10 (as_add c) net refl ∙ added_new (as_add c) net t)

-- and changes nothing in 1.3
pub modify_nothing : (c : Rec) (net : Net) → kind c ≡ 7 → present c net ≡ false → applied OpenFlow13 c net ≡ net
unfolding applied acting command_kind
modify_nothing c net e t = rw e (changed_none (with_actions c) c net t)

pub no_command : (k : ℕ) → (k ≡ 6 → ⊥) → (k ≡ 7 → ⊥) → (k ≡ 8 → ⊥) → command_kind k ≡ k_no_command
unfolding command_kind
no_command zero a m d = refl
no_command (suc zero) a m d = refl
no_command (suc (suc zero)) a m d = refl
no_command (suc (suc (suc zero))) a m d = refl
no_command (suc (suc (suc (suc zero)))) a m d = refl
no_command (suc (suc (suc (suc (suc zero))))) a m d = refl
no_command (suc (suc (suc (suc (suc (suc zero)))))) a m d = absurd (a refl)
no_command (suc (suc (suc (suc (suc (suc (suc zero))))))) a m d = absurd (m refl)
no_command (suc (suc (suc (suc (suc (suc (suc (suc zero)))))))) a m d = absurd (d refl)
no_command (suc (suc (suc (suc (suc (suc (suc (suc (suc k))))))))) a m d = refl

-- what is no command changes nothing
pub applied_none : (v : Version) (c : Rec) (net : Net) → (kind c ≡ 6 → ⊥) → (kind c ≡ 7 → ⊥) → (kind c ≡ 8 → ⊥) → applied v c net ≡ net
unfolding applied acting
applied_none v c net a m d = rw (no_command (kind c) a m d)
