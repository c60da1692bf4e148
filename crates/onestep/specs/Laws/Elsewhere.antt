-- What OUTPUT and groups send departs elsewhere than at the arrival port.
use Rattle.std.proofs.Common.{eq-eqb, eqb-true, ne_eqb, sym, ◌∙◌, arith}
use Rattle.std.specs.Prelude.{◌≡◌, refl, cond, not}
use Rattle.std.proofs.Math.Path.{subst⁻¹}
use Rattle.std.proofs.Math.Bool.{Bool, true, false}
use mathlib.Core.List.{List, [], ◌∷◌, map}
use Prim.Native.Nat.{ℕ, zero, suc, ◌-◌, ◌^◌, ◌<◌, ◌≤◌}
use Rattle.std.proofs.Math.Decide.{ℕ_discrete}
use Rattle.std.proofs.Math.Dec.{eqb}
use Rattle.basics.specs.Lists.{keep, from}
use Rattle.format.specs.Record.{Rec, Net, at, kind, of_kind}
use Rattle.format.specs.Group.{bucket_value, bucket_care, bucket_kind, bucket_target, target_kind, is_group}
use Rattle.format.specs.declared.kinds.TargetKind.{TargetKind}
use Rattle.format.specs.declared.kinds.TargetKind.TheVariants.{Port as k_port, LowerGroup as k_lower_group, Unknown as k_no_target}
use Rattle.format.specs.Search.{first_at}
use Rattle.format.specs.Fields.{buckets_good}
use Rattle.format.specs.Pattern.{pattern_good, put_bits}
use Rattle.format.specs.State.{state, port_of}
use Rattle.basics.specs.Laws.Every.{Every, every_append, every_from, every_more, every_kept, every_keep, every_at}
use Rattle.format.specs.Laws.Patterns.{put_lt}
use Rattle.format.specs.Laws.States.{port_of_lem}
use Rattle.widths.specs.declared.Widths.{Widths}
use Rattle.onestep.specs.Departing.{except, departing}
use Rattle.onestep.specs.Groups.{group_record, sent_to, bucket_sent, buckets_sent, record_sent, lower_sent, group_sent}
use Rattle.onestep.specs.Laws.GoodGroups.{bucket_port}
use Rattle.onestep.specs.Actions.{named}
use Rattle.onestep.specs.Laws.CopiesInOrder.{named_one, named_starred}
use Rattle.onestep.specs.Laws.GoodActions.{pattern_value_lt}

-- each of some copies departs at another port than p
abbrev pub Elsewhere : Widths → ℕ → List ℕ → Type 0
Elsewhere w p l = Every (λ s. port_of w s ≡ p → ⊥) l

-- OUTPUT names ports within their width
pub named-lt : (w : Widths) (value care : ℕ) → pattern_good w.p value care ≡ true → Every (λ q. q < 2 ^ w.p) (named w value care)
named-lt w value care good = go (ℕ_discrete care (2 ^ w.p - 1))
  where
    Within : ℕ → Type 0
    Within q = q < 2 ^ w.p

    go : Dec (care ≡ 2 ^ w.p - 1) → Every Within (named w value care)
    go (yes e) = subst⁻¹ (Every Within) (named_one w value care e) (pattern_value_lt w.p value care good, tt)
    go (no n) =
        subst⁻¹ (Every Within) (named_starred w value care n)
        (every_keep Within _ (from 0 (2 ^ w.p)) (every_from (2 ^ w.p) 0 (2 ^ w.p) (omega arith)))

-- what departs from some ports without p, departs elsewhere
module _ (w : Widths) (sw p h : ℕ) (hs : sw < 2 ^ w.w) (hh : h < 2 ^ w.h) where
  pub elsewhere : (l : List ℕ) → Every (λ q. q < 2 ^ w.p) l → Elsewhere w p (departing w sw h (except p l))
  unfolding departing except keep
  elsewhere [] b = tt
  elsewhere (q ∷ l) b = step (ℕ_discrete q p) (elsewhere l b.1)
    where
      Left : Bool → Type 0
      Left t = Elsewhere w p (map (λ x. state w 1 sw x h) (cond (not t) (q ∷ except p l) (except p l)))

      step : Dec (q ≡ p) → Elsewhere w p (departing w sw h (except p l)) → Left (eqb q p)
      step (yes e) rest = subst⁻¹ Left (eq-eqb q p e) rest
      step (no n) rest = subst⁻¹ Left (ne_eqb q p n) (λ e. n (sym (port_of_lem w 1 sw q h hs b.0 hh) ∙ e), rest)

-- the groups of a network have good buckets
abbrev pub GroupsGood : Widths → Net → Type 0
GroupsGood w net = Every (λ r. kind r ≡ 9 → buckets_good w r ≡ true) net

-- what the groups of a switch send, departs elsewhere
module _ (net : Net) (w : Widths) (groups : GroupsGood w net) (sw p : ℕ) (hs : sw < 2 ^ w.w) where
  -- the ports of a group's buckets are within their width
  PortsWithin : Rec → Type 0
  PortsWithin r = (j : ℕ) → j < at r 8 → target_kind (bucket_kind r j) ≡ k_port → bucket_target r j < 2 ^ w.p

  ports_within : (g : ℕ) → PortsWithin (group_record net sw g)
  unfolding PortsWithin group_record of_kind
  ports_within g =
      every_at PortsWithin [] (of_kind 9 net) (first_at (is_group sw g) (of_kind 9 net)) (λ j h e. absurd (omega arith))
      (every_kept PortsWithin (λ r. eqb (kind r) 9) net
      (every_more (λ r. kind r ≡ 9 → buckets_good w r ≡ true) (λ r. eqb (kind r) 9 ≡ true → PortsWithin r) net
      (λ r good e. bucket_port w r (good (eqb-true (kind r) 9 e))) groups))

  buckets_elsewhere : (lower : ℕ → ℕ → List ℕ) → ((g h : ℕ) → Elsewhere w p (lower g h)) → (r : Rec) → PortsWithin r → (h k : ℕ) → k ≤ at r 8 → Elsewhere w p (buckets_sent w sw p lower r h k)
  unfolding buckets_sent bucket_sent PortsWithin
  buckets_elsewhere lower low r within h zero l = tt
  buckets_elsewhere lower low r within h (suc k) l =
      every_append _ (buckets_sent w sw p lower r h k) (bucket_sent w sw p lower r h k) (buckets_elsewhere lower low r within h k (omega arith)) (go (target_kind (bucket_kind r k)) refl)
    where
      go : (x : TargetKind) → target_kind (bucket_kind r k) ≡ x → Elsewhere w p (sent_to x w sw p lower (bucket_target r k) (put_bits w.h (bucket_value r k) (bucket_care r k) h))
      go k_port e = elsewhere w sw p _ hs (put_lt (bucket_value r k) (bucket_care r k) h w.h) (bucket_target r k ∷ []) (within k l e, tt)
      go k_lower_group e = low (bucket_target r k) _
      go k_no_target e = tt

  lower_elsewhere : (k g h : ℕ) → Elsewhere w p (lower_sent net w sw p k g h)
  unfolding lower_sent
  lower_elsewhere zero g h = tt
  lower_elsewhere (suc k) g h = go (eqb g k) (lower_elsewhere k)
    where
      go : (b : Bool) → ((x y : ℕ) → Elsewhere w p (lower_sent net w sw p k x y))
          → Elsewhere w p (elim b as (λ x. List ℕ) [ true ↦ record_sent w sw p (lower_sent net w sw p k) (group_record net sw k) h | false ↦ lower_sent net w sw p k g h ])
      go true low = buckets_elsewhere (lower_sent net w sw p k) low (group_record net sw k) (ports_within k) h (at (group_record net sw k) 8) (omega arith)
      go false low = low g h

  pub group_elsewhere : (g h : ℕ) → Elsewhere w p (group_sent net w sw p g h)
  unfolding group_sent
  group_elsewhere g h = buckets_elsewhere (lower_sent net w sw p g) (lower_elsewhere g) (group_record net sw g) (ports_within g) h (at (group_record net sw g) 8) (omega arith)
