-- A frame goes back to the arrival port by IN_PORT, and by nothing else, groups included.
use Rattle.std.proofs.Common.{eq-eqb, sym, ◌∙◌}
use Rattle.std.specs.Prelude.{◌≡◌, true, ◌↔◌, eqb}
use Rattle.std.proofs.Math.Path.{refl, ap, subst⁻¹}
use Rattle.std.proofs.Math.Bool.{false}
use mathlib.Core.List.{List, ◌++◌}
use Rattle.std.proofs.Math.Logic.{⊎_elim}
use Prim.Native.Nat.{ℕ, zero, suc, ◌+◌, ◌*◌, ◌^◌, ◌<◌, ◌≤◌}
use Rattle.std.proofs.Math.Decide.{ℕ_discrete}
use native.Mathlib.Omega.{arith}
use Rattle.basics.specs.Laws.Tests.{or_left, or_right, or_cases}
use Rattle.basics.specs.Lists.{any, member}
use Rattle.format.specs.Record.{Rec, Net, at, action_kind}
use Rattle.format.specs.declared.kinds.ActionKind.{ActionKind}
use Rattle.format.specs.declared.kinds.ActionKind.TheVariants.{Output as k_output, Set as k_set, InPort as k_in_port, RunGroup as k_run_group, Unknown as k_no_action}
use Rattle.format.specs.Fields.{actions_good}
use Rattle.format.specs.State.{state, port_of}
use Rattle.basics.specs.Laws.Every.{in_empty, every_member}
use Rattle.format.specs.Laws.States.{port_of_lem}
use Rattle.widths.specs.declared.Widths.{Widths}
use Rattle.onestep.specs.Chosen.{Arrival}
use Rattle.onestep.specs.Departing.{departing}
use Rattle.basics.specs.Laws.Lists.{member-append}
use Rattle.onestep.specs.Actions.{named, reached, sent_by, header_after, copies, sent}
use Rattle.onestep.specs.Flooding.{UsedAction}
use Rattle.onestep.specs.Laws.CopiesInOrder.{sent_as_lem, header_after-lt}
use Rattle.onestep.specs.Laws.Elsewhere.{named-lt, elsewhere, GroupsGood, group_elsewhere}
use Rattle.onestep.specs.Laws.GoodActions.{output_pattern, used_action}

-- IN_PORT is not among the actions of a record
abbrev pub NoInPort : Rec → Type 0
NoInPort r = (i : ℕ) → i < at r 8 → action_kind (at r (9 + 3 * i)) ≡ k_in_port → ⊥

-- an arrival at a switch of a network, and a record with good actions
module _ (net : Net) (w : Widths) (groups : GroupsGood w net) (a : Arrival) (hs : a.switch < 2 ^ w.w) (r : Rec) (good : actions_good w r ≡ true) where
  -- action i of the record is IN_PORT
  abbrev IsInPort : ℕ → Type 0
  IsInPort i = action_kind (at r (9 + 3 * i)) ≡ k_in_port

  -- a copy that departs at the arrival port was sent by IN_PORT
  by_in_port : (h i : ℕ) → h < 2 ^ w.h → UsedAction w r i → (s : ℕ) → member s (sent_by net w a.switch a.port r h i) ≡ true → port_of w s ≡ a.port → IsInPort i
  unfolding departing reached
  by_in_port h i hh U s m q = go (action_kind (at r (9 + 3 * i))) refl
    where
      go : (k : ActionKind) → action_kind (at r (9 + 3 * i)) ≡ k → IsInPort i
      go k_output e =
          absurd (every_member _ _ (elsewhere w a.switch a.port h hs hh (named w (at r (10 + 3 * i)) (at r (11 + 3 * i))) (named-lt w _ _ (output_pattern w r i U e))) s
          (ap (member s) (sym (sent_as_lem w r h i net a.switch a.port k_output e)) ∙ m) q)
      go k_set e = in_empty s (ap (member s) (sym (sent_as_lem w r h i net a.switch a.port k_set e)) ∙ m)
      go k_in_port e = e
      go k_run_group e =
          absurd (every_member _ _ (group_elsewhere net w groups a.switch a.port hs (at r (10 + 3 * i)) h) s
          (ap (member s) (sym (sent_as_lem w r h i net a.switch a.port k_run_group e)) ∙ m) q)
      go k_no_action e = in_empty s (ap (member s) (sym (sent_as_lem w r h i net a.switch a.port k_no_action e)) ∙ m)

  from_action : (k i h : ℕ) → h < 2 ^ w.h → i + k ≡ at r 8 → (s : ℕ) → member s (copies net w a r h i k) ≡ true → port_of w s ≡ a.port → (j : ℕ) × (j < at r 8) × IsInPort j
  unfolding copies
  from_action zero i h hh n s m q = in_empty s m
  from_action (suc k) i h hh n s m q =
      ⊎_elim
      (λ f. (i, omega arith, by_in_port h i hh (used_action w r good i (omega arith)) s f q))
      (λ f. from_action k (suc i) (header_after w r h i) (header_after-lt w r h i hh) (omega arith) s f q)
      (or_cases (member s (sent_by net w a.switch a.port r h i)) (member s (copies net w a r (header_after w r h i) (suc i) k))
      (sym (member-append s (sent_by net w a.switch a.port r h i) (copies net w a r (header_after w r h i) (suc i) k)) ∙ m))

  -- IN_PORT sends a copy there
  module _ (hp : a.port < 2 ^ w.p) where
    abbrev GoesBack : List ℕ → Type 0
    GoesBack l = (s : ℕ) × (member s l ≡ true) × (port_of w s ≡ a.port)

    in_port_sends : (h i : ℕ) → h < 2 ^ w.h → IsInPort i → GoesBack (sent_by net w a.switch a.port r h i)
    unfolding departing member any
    in_port_sends h i hh e =
        let s = state w 1 a.switch a.port h in (
          s,
          ap (member s) (sent_as_lem w r h i net a.switch a.port k_in_port e) ∙ or_left (eqb s s) false (eq-eqb s s refl),
          port_of_lem w 1 a.switch a.port h hs hp hh,
        )

    by_action : (k i h : ℕ) → h < 2 ^ w.h → i + k ≡ at r 8 → (j : ℕ) → i ≤ j → j < at r 8 → IsInPort j → GoesBack (copies net w a r h i k)
    unfolding copies
    by_action zero i h hh n j l u e = absurd (omega arith)
    by_action (suc k) i h hh n j l u e = go (ℕ_discrete i j) (by_action k (suc i) (header_after w r h i) (header_after-lt w r h i hh) (omega arith) j)
      where
        xs : List ℕ
        xs = sent_by net w a.switch a.port r h i

        ys : List ℕ
        ys = copies net w a r (header_after w r h i) (suc i) k

        go : Dec (i ≡ j) → (suc i ≤ j → j < at r 8 → IsInPort j → GoesBack ys) → GoesBack (xs ++ ys)
        go (yes q) later =
            let f = in_port_sends h i hh (subst⁻¹ IsInPort q e) in
            (f.0, member-append f.0 xs ys ∙ or_left (member f.0 xs) (member f.0 ys) f.1, f.2)
        go (no q) later =
            let f = later (omega (arith, q)) u e in
            (f.0, member-append f.0 xs ys ∙ or_right (member f.0 xs) (member f.0 ys) f.1, f.2)

    -- a copy departs at the arrival port exactly if IN_PORT is among the record's actions
    pub bounces_iff : a.header < 2 ^ w.h → ((s : ℕ) × (member s (sent net w a r) ≡ true) × (port_of w s ≡ a.port)) ↔ ((i : ℕ) × (i < at r 8) × (action_kind (at r (9 + 3 * i)) ≡ k_in_port))
    unfolding sent
    bounces_iff hh = (
      λ b. from_action (at r 8) 0 a.header hh (omega arith) b.0 b.1 b.2,
      λ f. by_action (at r 8) 0 a.header hh (omega arith) f.0 (omega arith) f.1 f.2,
    )

  -- so no copy of a record without IN_PORT departs at the arrival port
  pub no_bounce : a.header < 2 ^ w.h → NoInPort r → (s : ℕ) → member s (sent net w a r) ≡ true → port_of w s ≡ a.port → ⊥
  unfolding sent
  no_bounce hh none s m q = let f = from_action (at r 8) 0 a.header hh (omega arith) s m q in none f.0 f.1 f.2
