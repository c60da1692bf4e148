-- Two policies of a network with equals that holds: one with one NOT over its R is broken under a choice, by computation; one with two NOTs is even, so that it is not.
use Rattle.std.proofs.lemmas.Bool.{not-true}
use Rattle.std.specs.Prelude.{◌≡◌, refl, true, not, [], ◌∷◌, ℕ, ◌<◌}
use Rattle.std.proofs.Common.{subst, arith, lit<}
use Rattle.std.proofs.Math.Option.{none}
use Rattle.basics.specs.Bit.{bit_of}
use Rattle.basics.specs.Laws.Tests.{not_both}
use Rattle.basics.specs.Lists.{member}
use Rattle.format.specs.Record.{Rec, Net, widths_of}
use Rattle.widths.specs.Widths.{states}
use Rattle.format.specs.Policy.{BIT, R, NOT, AND, SOME, policy_count, forbidden}
use Rattle.format.specs.declared.kinds.Var.TheVariants.{X, Y}
use Rattle.format.specs.NetK.{record24, node, A, B, policy0, K}
use Rattle.refusals.specs.Refusal.{file_row}
use Rattle.onestep.specs.Chosen.{chosen}
use Rattle.onestep.specs.Step.{arrival_of, next_by}
use Rattle.truth.specs.Truth.{Truth}
use Rattle.truth.specs.Even.{here, under_NOT, left_AND, under_SOME, Even}
use Rattle.truth.specs.EvenTest.{nots, even_by_test}
use Rattle.basics.specs.Below.{all_below}
use Rattle.basics.specs.Laws.Below.{all_iff}
use Rattle.judgement.specs.Verdict.{holds, Holds, Is}
use Rattle.judgement.specs.Judgement.{verdict, verdict_meant}
use Rattle.judgement.specs.Choice.{Choice, BreaksUnder, HoldsUnder}
use Rattle.judgement.specs.EvenPolicies.{even_policies_hold, first_in_file, first_choice}
use Rattle.judgement.specs.Computing.{judging}

-- any port, header 0: OUTPUT 2
unfoldable narrow : Rec
narrow = record24 (4 ∷ 0 ∷ 10 ∷ 0 ∷ 0 ∷ 0 ∷ 0 ∷ 1 ∷ 1 ∷ 1 ∷ 2 ∷ 3 ∷ [])

-- of the same priority, any port, any header: OUTPUT 1, OUTPUT 3
unfoldable wide : Rec
wide = record24 (4 ∷ 0 ∷ 10 ∷ 0 ∷ 0 ∷ 0 ∷ 0 ∷ 0 ∷ 2 ∷ 1 ∷ 1 ∷ 3 ∷ 1 ∷ 3 ∷ 3 ∷ [])

-- a node of policy 1
unfoldable node1 : ℕ → ℕ → ℕ → Rec
node1 k a b = record24 (5 ∷ 1 ∷ k ∷ a ∷ b ∷ [])

-- H 1, P 2, W 0; policy 0: a state departs from port 1 or 3, and none steps to it; policy 1: one departs from drop, and not all do not step to it
unfoldable net : Net
net =
    record24 (1 ∷ 1 ∷ 2 ∷ 0 ∷ [])
    ∷ record24 (3 ∷ 0 ∷ 0 ∷ 0 ∷ 0 ∷ 0 ∷ 0 ∷ 0 ∷ 1 ∷ 1 ∷ 0 ∷ 3 ∷ [])
    ∷ narrow
    ∷ wide
    ∷ node 1 1 0  -- 0: R Y X
    ∷ node 6 0 1  -- 1: SOME 0 Y
    ∷ node 3 1 0  -- 2: NOT 1
    ∷ node 0 0 3  -- 3: BIT X 3
    ∷ node 0 0 1  -- 4: BIT X 1
    ∷ node 4 3 4  -- 5: AND 3 4
    ∷ node 4 2 5  -- 6: AND 2 5
    ∷ node1 1 1 0  -- 0: R Y X
    ∷ node1 3 0 0  -- 1: NOT 0
    ∷ node1 7 1 1  -- 2: ALL 1 Y
    ∷ node1 3 2 0  -- 3: NOT 2
    ∷ node1 0 0 3  -- 4: BIT X 3
    ∷ node1 0 0 1  -- 5: BIT X 1
    ∷ node1 0 0 2  -- 6: BIT X 2
    ∷ node1 5 5 6  -- 7: OR 5 6
    ∷ node1 3 7 0  -- 8: NOT 7
    ∷ node1 4 4 8  -- 9: AND 4 8
    ∷ node1 4 3 9  -- 10: AND 3 9
    ∷ []

-- all that the example computes with
unfoldable computing : Unit {0}
unfolding judging record24 node A B policy0 K nots first_in_file narrow wide node1 net
computing = tt

-- no row refuses the file
accepted : file_row [] net ≡ none
unfolding computing
accepted = refl

-- on state 2, which arrives at port 1 with header 0, both rules act
equals : chosen net (arrival_of net 2) ≡ narrow ∷ wide ∷ []
unfolding computing
equals = refl

count : states (widths_of net) ≡ 16
unfolding computing
count = refl

policies : policy_count net ≡ 2
unfolding computing
policies = refl

judged : verdict net ≡ holds
unfolding computing
judged = refl

-- the network holds
net_holds : Holds net
net_holds = subst (Is net) judged (verdict_meant net)

condition : forbidden net 0 ≡ AND (NOT (SOME (R Y X) Y)) (AND (BIT X 3) (BIT X 1))
unfolding computing
condition = refl

-- by the first rule in the file no state steps to 10, which departs from port 1 with header 0
unreached : all_below 16 (λ z. not (member 10 (next_by net (first_in_file net z ∷ []) z))) ≡ true
unfolding computing
unreached = refl

-- under the choice of the first rule in the file state 10 breaks policy 0
broken : BreaksUnder net (first_in_file net) 0 10
unfolding Truth bit_of
broken =
    rw condition (
      λ r. not_both r.2 (not-true _ ((all_iff 16 _).0 unreached r.0 (rw count at r.1))),
      (refl, refl),
    )

-- for one NOT lies over its R
not_even : Even (forbidden net 0) → ⊥
not_even e = omega (arith, e 1 (rw condition (left_AND (under_NOT (under_SOME here)))))

-- so without evenness the theorem is false
even_needed : ((net : Net) → Holds net → (p : ℕ) → p < policy_count net → (c : ℕ → Rec) → Choice net c → HoldsUnder net c p) → ⊥
even_needed all = all net net_holds 0 (rw policies (lit< tt)) (first_in_file net) (first_choice net) 10 (rw count (lit< tt)) broken

-- two NOTs lie over the R of policy 1
two_nots : Even (forbidden net 1)
unfolding computing
two_nots = (even_by_test (forbidden net 1)).0 refl

-- it holds under every choice
two_nots_hold : (c : ℕ → Rec) → Choice net c → HoldsUnder net c 1
two_nots_hold = even_policies_hold net net_holds 1 (rw policies (lit< tt)) two_nots

-- the policy of K is even
K_even : Even (forbidden K 0)
unfolding computing
K_even = (even_by_test (forbidden K 0)).0 refl
