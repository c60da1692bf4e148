-- The ports that OUTPUT with stars reaches.
use Rattle.std.specs.Prelude.{◌≡◌, true, false, cond, ◌&&◌, List, [], ◌∷◌, ◌++◌, eqb}
use Rattle.std.proofs.Common.{sym, ◌∙◌, add-one}
use Rattle.std.proofs.Math.Path.{ap}
use Rattle.std.proofs.Math.Bool.{Bool, not}
use Prim.Native.Nat.{ℕ, suc, ◌+◌, ◌-◌, ◌<◌}
use native.Mathlib.Omega.{arith}
use Rattle.basics.specs.Lists.{keep, from}
use Rattle.format.specs.State.{state, ordinary}
use Rattle.format.specs.Pattern.{matches}
use Rattle.basics.specs.Laws.Lists.{keep_append}
use Rattle.widths.specs.declared.Widths.{Widths}
use Rattle.onestep.specs.Departing.{except, departing}
use Rattle.std.proofs.lemmas.List.{map-append}
use Rattle.onestep.specs.Flooding.{flooded}

-- at one port, and at the ports from q on
module _ (w : Widths) (p value care : ℕ) where
  pub port_passed : (q : ℕ) → (ordinary w q && matches w.p value care q) ≡ false → flooded w p value care (q ∷ []) ≡ []
  unfolding flooded except keep
  port_passed q e = ap (λ (t : Bool). except p (cond t (q ∷ []) [])) e

  pub port_offered : (q : ℕ) → (ordinary w q && matches w.p value care q) ≡ true → flooded w p value care (q ∷ []) ≡ except p (q ∷ [])
  unfolding flooded keep
  port_offered q e = ap (λ (t : Bool). except p (cond t (q ∷ []) [])) e

  flooded-append : (xs ys : List ℕ) → flooded w p value care (xs ++ ys) ≡ flooded w p value care xs ++ flooded w p value care ys
  unfolding flooded except
  flooded-append xs ys = ap (except p) (keep_append named xs ys) ∙ keep_append (λ q. not (eqb q p)) (keep named xs) (keep named ys)
    where
      named : ℕ → Bool
      named q = ordinary w q && matches w.p value care q

  pub ports_left : (sw h q k : ℕ) → q < k
      → departing w sw h (flooded w p value care (from q (k - q)))
      ≡ departing w sw h (flooded w p value care (q ∷ [])) ++ departing w sw h (flooded w p value care (from (q + 1) (k - (q + 1))))
  unfolding departing from
  ports_left sw h q k l =
      let e : k - q ≡ suc (k - (q + 1)) = omega arith in
      ap (λ (m : ℕ). departing w sw h (flooded w p value care (from q m))) e
      ∙ ap (λ (m : ℕ). departing w sw h (flooded w p value care (q ∷ from m (k - (q + 1))))) (sym (add-one q))
      ∙ ap (departing w sw h) (flooded-append (q ∷ []) (from (q + 1) (k - (q + 1))))
      ∙ map-append (λ x. state w 1 sw x h) (flooded w p value care (q ∷ [])) (flooded w p value care (from (q + 1) (k - (q + 1))))
