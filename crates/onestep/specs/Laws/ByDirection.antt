-- The states that a state steps to, by its direction.
use Rattle.std.proofs.Common.{eq-eqb, ne_eqb, sym, ◌∙◌}
use Rattle.std.specs.Prelude.{◌≡◌, Bool, ℕ, eqb}
use Rattle.std.proofs.Math.Path.{refl, ap}
use Rattle.std.proofs.Math.Bool.{true, false, cond}
use mathlib.Core.List.{List, [], map, flat_map}
use Rattle.format.specs.Record.{Net, of_kind, widths_of}
use Rattle.format.specs.State.{state, header_of, port_of, switch_of, direction_of}
use Rattle.widths.specs.declared.Widths.{Widths}
use Rattle.onestep.specs.Chosen.{chosen}
use Rattle.onestep.specs.ByBytes.{arrival}
use Rattle.onestep.specs.Actions.{sent}
use Rattle.onestep.specs.Step.{across, next_by, next}
use Rattle.onestep.specs.Relayed.{relayed, arriving}

module _ (net : Net) (w : Widths) (widths : w ≡ widths_of net) (s : ℕ) where
  abbrev arrives : Widths → List ℕ
  arrives v = let a = arrival (switch_of v s) (port_of v s) (header_of v s) in
      elim (eqb (port_of v s) 0) as (λ x. List ℕ) [ true ↦ [] | false ↦ flat_map (sent net v a) (chosen net a) ]

  abbrev departs : Widths → List ℕ
  departs v = map (λ (e : ℕ × ℕ). state v 0 e.0 e.1 (header_of v s)) (across (switch_of v s) (port_of v s) (of_kind 2 net))

  by_widths : next net s ≡ (elim (eqb (direction_of w s) 0) as (λ x. List ℕ) [ true ↦ arrives w | false ↦ departs w ])
  unfolding next_by next
  by_widths = ap (λ (v : Widths). elim (eqb (direction_of v s) 0) as (λ x. List ℕ) [ true ↦ arrives v | false ↦ departs v ]) (sym widths)

  pub next_arriving : direction_of w s ≡ 0 → next net s ≡ relayed net w (arrival (switch_of w s) (port_of w s) (header_of w s))
  unfolding relayed
  next_arriving e =
      by_widths
      ∙ ap (λ (t : Bool). elim t as (λ x. List ℕ) [ true ↦ arrives w | false ↦ departs w ]) (eq-eqb (direction_of w s) 0 e)
      ∙ go (eqb (port_of w s) 0)
    where
      go : (t : Bool) → let a = arrival (switch_of w s) (port_of w s) (header_of w s) in
          (elim t as (λ x. List ℕ) [ true ↦ [] | false ↦ flat_map (sent net w a) (chosen net a) ]) ≡ cond t [] (flat_map (sent net w a) (chosen net a))
      go true = refl
      go false = refl

  pub next_departing : (direction_of w s ≡ 0 → ⊥) → next net s ≡ arriving w (header_of w s) (across (switch_of w s) (port_of w s) (of_kind 2 net))
  unfolding arriving
  next_departing n =
      by_widths ∙ ap (λ (t : Bool). elim t as (λ x. List ℕ) [ true ↦ arrives w | false ↦ departs w ]) (ne_eqb (direction_of w s) 0 n)
