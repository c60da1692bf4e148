-- The rank of a rule for an arrival.
use mathlib.Core.Path.{◌≡◌, refl, ap}
use mathlib.Core.Bool.{Bool, true, false, cond}
use Prim.Native.Nat.{suc, ◌<◌, ◌≤◌}
use native.Mathlib.Omega.{arith}
use Rattle.format.specs.Record.{Rec, priority}
use Rattle.widths.specs.declared.Widths.{Widths}
use Rattle.onestep.specs.Chosen.{Arrival, rule_matches}
use Rattle.onestep.specs.ByBytes.{rank_of}

module _ (w : Widths) (a : Arrival) (r : Rec) where
  pub rank_true : rule_matches w a r ≡ true → rank_of w a r ≡ suc (priority r)
  unfolding rank_of
  rank_true e = ap (λ (t : Bool). cond t (suc (priority r)) 0) e

  pub rank_false : rule_matches w a r ≡ false → rank_of w a r ≡ 0
  unfolding rank_of
  rank_false e = ap (λ (t : Bool). cond t (suc (priority r)) 0) e

  -- a rule matches exactly if it has a rank
  pub ranked : 0 < rank_of w a r → rule_matches w a r ≡ true
  ranked h = go (rule_matches w a r) refl
    where
      go : (b : Bool) → rule_matches w a r ≡ b → b ≡ true
      go true e = refl
      go false e = absurd (omega (arith, rank_false e))

  pub unranked : rank_of w a r ≤ 0 → rule_matches w a r ≡ false
  unranked h = go (rule_matches w a r) refl
    where
      go : (b : Bool) → rule_matches w a r ≡ b → b ≡ false
      go true e = absurd (omega (arith, rank_true e))
      go false e = refl
