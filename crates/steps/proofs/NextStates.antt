-- The states that a state steps to: relayed, or over a link.
use borrow.Author.Tests.{eq-eqb, ne_eqb}
use mathlib.Core.Path.{◌≡◌, sym, ap, ◌∙◌}
use mathlib.Core.Bool.{Bool, cond, ◌||◌, or-false}
use mathlib.Core.List.{[], ◌∷◌, flat_map, append-nil}
use Prim.Native.Nat.{ℕ}
use native.Mathlib.Decide.{ℕ_discrete}
use Rattle.basics.specs.Lists.{any, member}
use Rattle.format.specs.Record.{Rec, Net, of_kind, widths_of}
use Rattle.format.specs.State.{header_of, port_of, switch_of, direction_of}
use Rattle.widths.specs.declared.Widths.{Widths}
use Rattle.onestep.specs.Chosen.{Arrival, chosen}
use Rattle.onestep.specs.ByBytes.{arrival}
use Rattle.onestep.specs.Step.{across, next}
use Rattle.onestep.specs.Actions.{sent}
use Rattle.onestep.specs.Relayed.{relayed, relays}
use Rattle.links.specs.Carried.{crosses}
use Rattle.onestep.specs.Laws.ByDirection.{next_arriving, next_departing}

module _ (net : Net) (w : Widths) (widths : w ≡ widths_of net) (s : ℕ) where
  pub relays_arriving : direction_of w s ≡ 0 → relays net w s ≡ relayed net w (arrival (switch_of w s) (port_of w s) (header_of w s))
  unfolding relays
  relays_arriving e = ap (λ (t : Bool). cond t (relayed net w (arrival (switch_of w s) (port_of w s) (header_of w s))) []) (eq-eqb (direction_of w s) 0 e)

  pub relays_departing : (direction_of w s ≡ 0 → ⊥) → relays net w s ≡ []
  unfolding relays
  relays_departing n = ap (λ (t : Bool). cond t (relayed net w (arrival (switch_of w s) (port_of w s) (header_of w s))) []) (ne_eqb (direction_of w s) 0 n)

  -- a step is a relayed frame, or one that crosses a link
  pub either_step : (t : ℕ) → (crosses w (λ sw p. across sw p (of_kind 2 net)) s t || member t (relays net w s)) ≡ member t (next net s)
  unfolding crosses relays member any
  either_step t = go (ℕ_discrete (direction_of w s) 0)
    where
      go : Dec (direction_of w s ≡ 0) → (crosses w (λ sw p. across sw p (of_kind 2 net)) s t || member t (relays net w s)) ≡ member t (next net s)
      go (yes e) = rw (eq-eqb (direction_of w s) 0 e) (ap (member t) (sym (next_arriving net w widths s e)))
      go (no n) = rw (ne_eqb (direction_of w s) 0 n) (or-false _ ∙ ap (member t) (sym (next_departing net w widths s n)))

module _ (net : Net) (w : Widths) (a : Arrival) where
  pub dropped : a.port ≡ 0 → relayed net w a ≡ []
  unfolding relayed
  dropped e = ap (λ (t : Bool). cond t [] (flat_map (sent net w a) (chosen net a))) (eq-eqb a.port 0 e)

  pub all_act : (a.port ≡ 0 → ⊥) → relayed net w a ≡ flat_map (sent net w a) (chosen net a)
  unfolding relayed
  all_act n = ap (λ (t : Bool). cond t [] (flat_map (sent net w a) (chosen net a))) (ne_eqb a.port 0 n)

  pub one_acts : (r : Rec) → chosen net a ≡ r ∷ [] → flat_map (sent net w a) (chosen net a) ≡ sent net w a r
  unfolding flat_map
  one_acts r e = ap (flat_map (sent net w a)) e ∙ append-nil (sent net w a r)
