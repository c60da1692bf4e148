-- The records that act are among the misses and the rules of the network.
use Rattle.std.proofs.Common.{eqb-true}
use Rattle.std.specs.Prelude.{◌≡◌, ◌⊎◌, ℕ, get_or}
use Rattle.std.proofs.Math.Bool.{true, not}
use mathlib.Core.List.{[], ◌∷◌}
use Rattle.std.proofs.Math.Logic.{inl, inr}
use Rattle.std.proofs.Math.Dec.{eqb}
use Rattle.basics.specs.Lists.{keep}
use Rattle.format.specs.Record.{Rec, Net, kind, of_kind, widths_of}
use Rattle.basics.specs.Laws.Every.{Every, every_more, every_kept, every_keep, every_at}
use Rattle.onestep.specs.Chosen.{Arrival, rule_matches, outranked, best, or_miss, chosen}

-- what is so of every miss and every rule, and of a record without bytes, which stands for a miss that is not there, is so of those that act
module _ (P : Rec → Type 0) (absent : P []) (net : Net) (every : Every (λ r. (kind r ≡ 3) ⊎ (kind r ≡ 4) → P r) net) where
  of_kind_lem : (k : ℕ) → ((r : Rec) → kind r ≡ k → (kind r ≡ 3) ⊎ (kind r ≡ 4)) → Every P (of_kind k net)
  unfolding of_kind
  of_kind_lem k among =
      every_kept P (λ r. eqb (kind r) k) net
      (every_more (λ r. (kind r ≡ 3) ⊎ (kind r ≡ 4) → P r) (λ r. eqb (kind r) k ≡ true → P r) net (λ r p e. p (among r (eqb-true (kind r) k e))) every)

  of_best : (rules : Net) → Every P rules → Every P (best rules)
  unfolding best
  of_best rules = every_keep P (λ r. not (outranked r rules)) rules

  or_miss_lem : (rules : Net) (miss : Rec) → Every P rules → P miss → Every P (or_miss rules miss)
  unfolding or_miss
  or_miss_lem [] miss e m = (m, tt)
  or_miss_lem (r ∷ rules) miss e m = e

  pub every_chosen : (a : Arrival) → Every P (chosen net a)
  unfolding chosen
  every_chosen a =
      or_miss_lem (best (keep (rule_matches (widths_of net) a) (of_kind 4 net))) (get_or (of_kind 3 net) a.switch [])
      (of_best (keep (rule_matches (widths_of net) a) (of_kind 4 net)) (every_keep P (rule_matches (widths_of net) a) (of_kind 4 net) (of_kind_lem 4 (λ r e. inr e))))
      (every_at P [] (of_kind 3 net) a.switch absent (of_kind_lem 3 (λ r e. inl e)))
