-- In a network without IN_PORT no frame steps back to the port where it arrived.
use Rattle.std.specs.Prelude.{◌≡◌, Bool, cond, ◌⊎◌, ℕ, zero, suc, ◌<◌, eqb, length, get_or}
use Rattle.std.proofs.Math.Path.{refl}
use Rattle.std.proofs.Common.{sym, ap, ◌∙◌, ⊎_elim, arith}
use Rattle.std.proofs.Math.Bool.{true, false}
use mathlib.Core.List.{List, [], ◌∷◌, flat_map}
use Rattle.std.proofs.Math.Option.{none}
use Rattle.basics.specs.Laws.Tests.{or_cases}
use Rattle.basics.specs.Lists.{member}
use Rattle.format.specs.Record.{Rec, Net, kind, widths_of}
use Rattle.format.specs.Fields.{actions_good, fields_good}
use Rattle.format.specs.State.{header_of, port_of, switch_of, direction_of}
use Rattle.basics.specs.Laws.Every.{Every, in_empty, at_every}
use Rattle.format.specs.Laws.Fields.{miss_actions, rule_actions, group_parts}
use Rattle.format.specs.Laws.States.{header_lt, switch_lt}
use Rattle.widths.specs.declared.Widths.{Widths}
use Rattle.refusals.specs.Refusal.{file_row}
use Rattle.refusals.specs.Laws.Good.{clean_good}
use Rattle.refusals.specs.Laws.Passing.{clean_at, ordered}
use Rattle.onestep.specs.Chosen.{Arrival, chosen}
use Rattle.onestep.specs.ByBytes.{arrival}
use Rattle.onestep.specs.Laws.AmongChosen.{every_chosen}
use Rattle.basics.specs.Laws.Lists.{member-append}
use Rattle.onestep.specs.Actions.{copies, sent}
use Rattle.onestep.specs.Laws.Bounce.{NoInPort, no_bounce}
use Rattle.onestep.specs.Laws.Elsewhere.{GroupsGood}
use Rattle.onestep.specs.Step.{Step}
use Rattle.onestep.specs.Relayed.{relayed}
use Rattle.onestep.specs.Laws.ByDirection.{next_arriving}

-- no miss and no rule of a network has IN_PORT among its actions
abbrev pub WithoutInPort : Net → Type 0
WithoutInPort net = (k : ℕ) → k < length net → (kind (get_or net k []) ≡ 3) ⊎ (kind (get_or net k []) ≡ 4) → NoInPort (get_or net k [])

-- a number that no list has, is not in the lists joined
in_none : (t : ℕ) (f : Rec → List ℕ) (l : Net) → Every (λ r. member t (f r) ≡ true → ⊥) l → member t (flat_map f l) ≡ true → ⊥
unfolding flat_map
in_none t f [] e m = in_empty t m
in_none t f (r ∷ l) e m = ⊎_elim e.0 (in_none t f l e.1) (or_cases (member t (f r)) (member t (flat_map f l)) (sym (member-append t (f r) (flat_map f l)) ∙ m))

module _ (net : Net) (clean : file_row [] net ≡ none) where
  abbrev w : Widths
  w = widths_of net

  -- the fields of every record but the widths record are good
  fields : (k : ℕ) → k < length net → (kind (get_or net k []) ≡ 1 → ⊥) → fields_good (widths_of net) (get_or net k []) ≡ true
  fields zero h n = absurd (n ((ordered _ _ (clean_at net 0 clean h).not3).first refl))
  fields (suc k) h n = clean_good net clean (suc k) (omega arith) h

  -- so are the actions of every miss and every rule, and the buckets of every group
  good : (k : ℕ) → k < length net → (kind (get_or net k []) ≡ 3) ⊎ (kind (get_or net k []) ≡ 4) → actions_good (widths_of net) (get_or net k []) ≡ true
  good k h =
      ⊎_elim
      (λ q. miss_actions w (get_or net k []) q (fields k h (λ e. omega (arith, e, q))))
      (λ q. rule_actions w (get_or net k []) q (fields k h (λ e. omega (arith, e, q))))

  groups : GroupsGood (widths_of net) net
  groups = at_every _ [] net (λ k h q. (group_parts w (get_or net k []) q (fields k h (λ e. omega (arith, e, q)))).2)

  module _ (without : WithoutInPort net) (s t : ℕ) (q : port_of (widths_of net) t ≡ port_of (widths_of net) s) where
    abbrev a : Arrival
    a = arrival (switch_of w s) (port_of w s) (header_of w s)

    -- no record that acts on the frame sends it there
    unsent : Every (λ r. member t (sent net w a r) ≡ true → ⊥) (chosen net a)
    unfolding sent copies
    unsent =
        every_chosen (λ r. member t (sent net w a r) ≡ true → ⊥) (in_empty t) net
        (at_every _ [] net (λ k h e m. no_bounce net w groups a (switch_lt w s) (get_or net k []) (good k h e) (header_lt w s) (without k h e) t m q)) a

    steps_elsewhere : direction_of (widths_of net) s ≡ 0 → Step net s t → ⊥
    unfolding Step relayed
    steps_elsewhere d m = go (eqb (port_of w s) 0) (ap (member t) (sym (next_arriving net w refl s d)) ∙ m)
      where
        go : (b : Bool) → member t (cond b [] (flat_map (sent net w a) (chosen net a))) ≡ true → ⊥
        go true e = in_empty t e
        go false e = in_none t (sent net w a) (chosen net a) unsent e

-- a frame that arrives departs at another port
pub no_step_back : (net : Net) → file_row [] net ≡ none → WithoutInPort net
    → (s t : ℕ) → direction_of (widths_of net) s ≡ 0 → Step net s t → port_of (widths_of net) t ≡ port_of (widths_of net) s → ⊥
no_step_back net clean without s t d m q = steps_elsewhere net clean without s t q d m
