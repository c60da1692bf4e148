-- The starred cases of document 01, each on network K: one theorem by computation over the definitions, and what each of them means.
use Rattle.std.proofs.lemmas.Bool.{not-true}
use Rattle.std.specs.Prelude.{◌≡◌, refl, Bool, true, false, not, List, [], ◌∷◌, ◌++◌, map, ◌↔◌, ℕ, zero, suc, ◌<◌, get_or}
use Rattle.std.proofs.Common.{sym, ap, subst, ◌∙◌, arith, lit<}
use Rattle.std.proofs.Math.Path.{subst⁻¹}
use Rattle.std.specs.Bool.{beq}
use Rattle.basics.specs.Laws.Tests.{not_both}
use Rattle.walks.specs.Walk.{Walk}
use Rattle.basics.specs.Lists.{member}
use Rattle.format.specs.Record.{Net, flat, widths_of}
use Rattle.widths.specs.Widths.{states}
use Rattle.format.specs.Policy.{R, TC, formula}
use Rattle.format.specs.declared.kinds.Var.TheVariants.{X, Y}
use Rattle.onestep.specs.Step.{Step}
use Rattle.truth.specs.Truth.{Truth}
use Rattle.judgement.specs.Verdict.{Verdict, holds, violated, Holds, Lowest, Is}
use Rattle.basics.specs.Below.{all_below}
use Rattle.truth.specs.Computed.{truth}
use Rattle.judgement.specs.Computed.{table_of}
use Rattle.judgement.specs.Judgement.{verdict, verdict_meant}
use Rattle.judgement.specs.Computing.{judging}
use Rattle.truth.specs.Laws.Tables.{beq_same}
use Rattle.basics.specs.Laws.Below.{all_iff}
use Rattle.book.specs.Answer.{CheckAnswer, CommandAnswer, forwarded, blocked}
use Rattle.effect.specs.Apply.{as_rule, with_actions, changed, inserted, removed, added, applied, would_leave}
use Rattle.book.specs.Check.{check_answer}
use Rattle.book.specs.Found.{FoundToHold}
use Rattle.book.specs.Reference.{installed_at_start, outcome_of, judged, stored}
use Rattle.format.specs.NetK.{record24, node, A, B, policy0, K, in_store, add_any, add_zero, add_set, add_drop, delete_absent, add_d, delete_d}
use Rattle.judgement.specs.Laws.Tabled.{truth_iff}

-- all that a starred case computes with
unfoldable pub computing : Unit {0}
unfolding judging flat as_rule with_actions changed inserted removed added applied check_answer outcome_of judged stored record24 node A B policy0 K in_store add_any add_zero add_set add_drop delete_absent add_d delete_d
computing = tt

-- the network with the first add's rule and D in the file
unfoldable pub KD : Net
KD = would_leave add_d (would_leave add_any K)

-- K's policy with a node behind its last one: 14: TC 4 (Y,Y)
unfoldable pub loop_of_y : Net
loop_of_y = policy0 ++ (node 8 4 3 ∷ [])

-- the states below 32 that pass a test
unfoldable pub those : ℕ → ℕ → (ℕ → Bool) → List ℕ
those zero i f = []
those (suc k) i f = elim (f i) [ true ↦ i ∷ those k (suc i) f | false ↦ those k (suc i) f ]

-- what a starred case is about: an answer of the check call, one of the command call, or some states
pub data Case : Type 0 where
  checked : CheckAnswer → Case
  commanded : CommandAnswer → Case
  listed : List ℕ → Case

-- the ten starred cases, in their order, with 2,048 bytes of work
starred :
    checked (check_answer (in_store K) 20 2048)
    ∷ commanded (outcome_of (installed_at_start K) add_any 2048).answer
    ∷ commanded (outcome_of (installed_at_start K) add_zero 2048).answer
    ∷ commanded (outcome_of (installed_at_start K) add_set 2048).answer
    ∷ commanded (outcome_of (installed_at_start K) add_drop 2048).answer
    ∷ commanded (outcome_of (installed_at_start K) delete_absent 2048).answer
    ∷ checked (check_answer (in_store KD) 22 2048)
    ∷ commanded (outcome_of (installed_at_start KD) delete_d 2048).answer
    ∷ listed (let reaches = truth (table_of K) (formula policy0 5) in those 32 0 (λ t. reaches 2 t))
    ∷ listed (let loops = truth (table_of K) (formula loop_of_y 14) in those 32 0 (λ y. loops 0 y))
    ∷ []
    ≡ checked CheckAnswer.holds
    ∷ commanded (blocked 0 3)
    ∷ commanded (forwarded 21)
    ∷ commanded (blocked 0 2)
    ∷ commanded (forwarded 20)
    ∷ commanded (forwarded 20)
    ∷ checked CheckAnswer.holds
    ∷ commanded (blocked 0 3)
    ∷ listed (10 ∷ 20 ∷ 28 ∷ [])
    ∷ listed []
    ∷ []
unfolding computing KD loop_of_y those
starred = refl

-- the verdicts behind the first eight cases
verdicts :
    map verdict
    (K ∷ would_leave add_any K ∷ would_leave add_zero K ∷ would_leave add_set K ∷ would_leave add_drop K ∷ would_leave delete_absent K ∷ KD ∷ would_leave delete_d KD ∷ [])
    ≡ holds ∷ violated 0 3 ∷ holds ∷ violated 0 2 ∷ holds ∷ holds ∷ holds ∷ violated 0 3 ∷ []
unfolding computing KD
verdicts = refl

-- the verdict at a place of that table is the one that is meant
at_place : (i : ℕ) (net : Net) (v : Verdict)
    → verdict net ≡ get_or (map verdict (K ∷ would_leave add_any K ∷ would_leave add_zero K ∷ would_leave add_set K ∷ would_leave add_drop K ∷ would_leave delete_absent K ∷ KD ∷ would_leave delete_d KD ∷ [])) i holds
    → get_or (holds ∷ violated 0 3 ∷ holds ∷ violated 0 2 ∷ holds ∷ holds ∷ holds ∷ violated 0 3 ∷ []) i holds ≡ v
    → Is net v
at_place i net v e f = subst (Is net) (e ∙ ap (λ (l : List Verdict). get_or l i holds) verdicts ∙ f) (verdict_meant net)

K_holds : Holds K
K_holds = at_place 0 K holds refl refl

first-add : Lowest (would_leave add_any K) 0 3
first-add = at_place 1 (would_leave add_any K) (violated 0 3) refl refl

second-add : Holds (would_leave add_zero K)
second-add = at_place 2 (would_leave add_zero K) holds refl refl

add_with_set : Lowest (would_leave add_set K) 0 2
add_with_set = at_place 3 (would_leave add_set K) (violated 0 2) refl refl

add_with_A's_match : Holds (would_leave add_drop K)
add_with_A's_match = at_place 4 (would_leave add_drop K) holds refl refl

delete_of_absent : Holds (would_leave delete_absent K)
delete_of_absent = at_place 5 (would_leave delete_absent K) holds refl refl

with_D : Holds KD
with_D = at_place 6 KD holds refl refl

delete_D : Lowest (would_leave delete_d KD) 0 3
delete_D = at_place 7 (would_leave delete_d KD) (violated 0 3) refl refl

count_K : states (widths_of K) ≡ 32
unfolding computing
count_K = refl

below_32 : (s : ℕ) → s < 32 → s < states (widths_of K)
below_32 s h = subst⁻¹ (λ (n : ℕ). s < n) count_K h

-- a test of the closure of K's steps at every state, against a list
reach_test : all_below 32 (λ t. beq (truth (table_of K) (TC (R X Y) X Y) 2 t) (member t (10 ∷ 20 ∷ 28 ∷ []))) ≡ true
unfolding computing
reach_test = refl

-- state 2 reaches 20, 10 and 28 only
state_2_reaches : (t : ℕ) → t < 32 → Walk (states (widths_of K)) (Step K) 2 t ↔ member t (10 ∷ 20 ∷ 28 ∷ []) ≡ true
unfolding Truth
state_2_reaches t h =
    let e = truth_iff K (TC (R X Y) X Y) 2 t (below_32 2 (lit< tt)) (below_32 t h) in
    let same : truth (table_of K) (TC (R X Y) X Y) 2 t ≡ member t (10 ∷ 20 ∷ 28 ∷ []) =
    beq_same (truth (table_of K) (TC (R X Y) X Y) 2 t) (member t (10 ∷ 20 ∷ 28 ∷ []))
    ((all_iff 32 (λ (t : ℕ). beq (truth (table_of K) (TC (R X Y) X Y) 2 t) (member t (10 ∷ 20 ∷ 28 ∷ [])))).0 reach_test t h) in
    (λ p. sym same ∙ e.1 p, λ m. e.0 (same ∙ m))

loop_test : all_below 32 (λ y. not (truth (table_of K) (TC (R X Y) Y Y) 0 y)) ≡ true
unfolding computing
loop_test = refl

-- TC 4 (Y,Y) is false everywhere: no state of K lies on a loop
no_loop : (y : ℕ) → y < 32 → Walk (states (widths_of K)) (Step K) y y → ⊥
unfolding Truth
no_loop y h p =
    not_both ((truth_iff K (TC (R X Y) Y Y) 0 y (below_32 0 (lit< tt)) (below_32 y h)).1 p)
    (not-true (truth (table_of K) (TC (R X Y) Y Y) 0 y) ((all_iff 32 (λ (y : ℕ). not (truth (table_of K) (TC (R X Y) Y Y) 0 y))).0 loop_test y h))

-- that is what the record of the node stands for
loop_record : formula loop_of_y 14 ≡ TC (R X Y) Y Y
unfolding computing loop_of_y
loop_record = refl

-- K with two policies more, each of one node: 1: BIT X 4, a departing state; 2: E X
unfoldable two_more : Net
two_more = K ++ (record24 (5 ∷ 1 ∷ 0 ∷ 0 ∷ 4 ∷ []) ∷ record24 (5 ∷ 2 ∷ 2 ∷ 0 ∷ 0 ∷ []) ∷ [])

-- both are broken, and the lower one is named with its own lowest state, 16, though state 2 breaks the other
lowest_policy : (verdict two_more ≡ violated 1 16) × (check_answer (in_store two_more) 22 2048 ≡ CheckAnswer.violated 1 16)
unfolding computing two_more
lowest_policy = (refl, refl)

-- as a statement about `Lowest`
second_policy : Lowest two_more 1 16
second_policy = subst (Is two_more) lowest_policy.0 (verdict_meant two_more)

-- by that answer policy 0 is found to hold, and policies 1 and 2 are not; by K's own, which holds, policy 0 is, and there is no other
found :
    FoundToHold two_more (CheckAnswer.violated 1 16) 0
    × (FoundToHold two_more (CheckAnswer.violated 1 16) 1 → ⊥)
    × (FoundToHold two_more (CheckAnswer.violated 1 16) 2 → ⊥)
    × FoundToHold K CheckAnswer.holds 0
    × (FoundToHold K CheckAnswer.holds 1 → ⊥)
unfolding computing
found = (lit< tt, λ h. omega arith, λ h. omega arith, lit< tt, λ h. omega arith)
