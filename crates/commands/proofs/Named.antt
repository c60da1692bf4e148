-- What a command does by the kind that its first byte names.
use Rattle.std.specs.Prelude.{◌≡◌, refl, ℕ, zero, suc}
use Rattle.format.specs.Record.{Rec, Net, kind, command_kind}
use Rattle.format.specs.declared.kinds.CommandKind.TheVariants.{Add as k_add, Modify as k_modify, Delete as k_delete, Unknown as k_no_command}
use Rattle.format.specs.declared.Version.{Version}
use Rattle.format.specs.Version.{acting}
use Rattle.effect.specs.Apply.{added, removed, applied}

module _ (v : Version) (c : Rec) (net : Net) where
  pub acts_add : command_kind (kind c) ≡ k_add → applied v c net ≡ added c net
  unfolding applied acting
  acts_add e = rw e

  pub acts_delete : command_kind (kind c) ≡ k_delete → applied v c net ≡ removed c net
  unfolding applied acting
  acts_delete e = rw e

  pub acts_none : command_kind (kind c) ≡ k_no_command → applied v c net ≡ net
  unfolding applied acting
  acts_none e = rw e

-- 7 alone is modify
pub acts_modify : (k : ℕ) → command_kind k ≡ k_modify → k ≡ 7
unfolding command_kind
acts_modify zero e = cc
acts_modify (suc zero) e = cc
acts_modify (suc (suc zero)) e = cc
acts_modify (suc (suc (suc zero))) e = cc
acts_modify (suc (suc (suc (suc zero)))) e = cc
acts_modify (suc (suc (suc (suc (suc zero))))) e = cc
acts_modify (suc (suc (suc (suc (suc (suc zero)))))) e = cc
acts_modify (suc (suc (suc (suc (suc (suc (suc zero))))))) e = refl
acts_modify (suc (suc (suc (suc (suc (suc (suc (suc zero)))))))) e = cc
acts_modify (suc (suc (suc (suc (suc (suc (suc (suc (suc k))))))))) e = cc
