-- What the kinds of records, actions and targets say of their bytes.
use Rattle.std.specs.Prelude.{◌≡◌, refl, ℕ, zero, suc}
use Rattle.format.specs.Record.{record_kind, action_kind}
use Rattle.format.specs.Group.{target_kind}
use Rattle.format.specs.declared.kinds.RecordKind.TheVariants.{Rule as k_rule, Group as k_group}
use Rattle.format.specs.declared.kinds.ActionKind.TheVariants.{RunGroup as k_run_group}
use Rattle.format.specs.declared.kinds.TargetKind.TheVariants.{LowerGroup as k_lower_group}

pub names_rule : (k : ℕ) → record_kind k ≡ k_rule → k ≡ 4
unfolding record_kind
names_rule zero e = cc
names_rule (suc zero) e = cc
names_rule (suc (suc zero)) e = cc
names_rule (suc (suc (suc zero))) e = cc
names_rule (suc (suc (suc (suc zero)))) e = refl
names_rule (suc (suc (suc (suc (suc zero))))) e = cc
names_rule (suc (suc (suc (suc (suc (suc zero)))))) e = cc
names_rule (suc (suc (suc (suc (suc (suc (suc zero))))))) e = cc
names_rule (suc (suc (suc (suc (suc (suc (suc (suc zero)))))))) e = cc
names_rule (suc (suc (suc (suc (suc (suc (suc (suc (suc zero))))))))) e = cc
names_rule (suc (suc (suc (suc (suc (suc (suc (suc (suc (suc k)))))))))) e = cc

pub names_no_rule : (k : ℕ) → (record_kind k ≡ k_rule → ⊥) → k ≡ 4 → ⊥
unfolding record_kind
names_no_rule k n e = n (rw e)

pub names_group : (k : ℕ) → record_kind k ≡ k_group → k ≡ 9
unfolding record_kind
names_group zero e = cc
names_group (suc zero) e = cc
names_group (suc (suc zero)) e = cc
names_group (suc (suc (suc zero))) e = cc
names_group (suc (suc (suc (suc zero)))) e = cc
names_group (suc (suc (suc (suc (suc zero))))) e = cc
names_group (suc (suc (suc (suc (suc (suc zero)))))) e = cc
names_group (suc (suc (suc (suc (suc (suc (suc zero))))))) e = cc
names_group (suc (suc (suc (suc (suc (suc (suc (suc zero)))))))) e = cc
names_group (suc (suc (suc (suc (suc (suc (suc (suc (suc zero))))))))) e = refl
names_group (suc (suc (suc (suc (suc (suc (suc (suc (suc (suc k)))))))))) e = cc

pub names_no_group : (k : ℕ) → (record_kind k ≡ k_group → ⊥) → k ≡ 9 → ⊥
unfolding record_kind
names_no_group k n e = n (rw e)

pub runs_a_group : (k : ℕ) → action_kind k ≡ k_run_group → k ≡ 4
unfolding action_kind
runs_a_group zero e = cc
runs_a_group (suc zero) e = cc
runs_a_group (suc (suc zero)) e = cc
runs_a_group (suc (suc (suc zero))) e = cc
runs_a_group (suc (suc (suc (suc zero)))) e = refl
runs_a_group (suc (suc (suc (suc (suc k))))) e = cc

pub runs_none : (k : ℕ) → (action_kind k ≡ k_run_group → ⊥) → k ≡ 4 → ⊥
unfolding action_kind
runs_none k n e = n (rw e)

pub goes_to_group : (k : ℕ) → target_kind k ≡ k_lower_group → k ≡ 2
unfolding target_kind
goes_to_group zero e = cc
goes_to_group (suc zero) e = cc
goes_to_group (suc (suc zero)) e = refl
goes_to_group (suc (suc (suc k))) e = cc

pub goes_to_none : (k : ℕ) → (target_kind k ≡ k_lower_group → ⊥) → k ≡ 2 → ⊥
unfolding target_kind
goes_to_none k n e = n (rw e)
