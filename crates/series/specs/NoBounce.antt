-- Request 2 of document 02 on network K, with rule B's actions replaced: one theorem by computation, and what it means.
use Rattle.std.proofs.Common.{eq-eqb, eqb-true, leb-true, sym, ap, subst, ◌∙◌, arith}
use Rattle.std.proofs.lemmas.Bool.{not-true}
use Rattle.std.specs.Prelude.{◌≡◌, refl, Bool, true, false, not, ◌&&◌, List, [], ◌∷◌, ◌++◌, ◌↔◌, ℕ, ◌+◌, ◌*◌, eqb, leb, get_or}
use Rattle.std.proofs.Math.Bool.{or-false}
use Rattle.basics.specs.Laws.Tests.{both, not_both}
use Rattle.basics.specs.Lists.{any, member}
use Rattle.format.specs.Record.{Rec, at, action_kind}
use Rattle.format.specs.declared.kinds.ActionKind.{ActionKind}
use Rattle.format.specs.declared.kinds.ActionKind.TheVariants.{Output as k_output, Set as k_set, InPort as k_in_port, RunGroup as k_run_group, Unknown as k_no_action}
use Rattle.format.specs.Policy.{R, TC}
use Rattle.format.specs.declared.kinds.Var.TheVariants.{X, Y}
use Rattle.format.specs.NetK.{record24, K, in_store}
use Rattle.onestep.specs.Step.{next, Step}
use Rattle.onestep.specs.NoBounce.{WithoutInPort}
use Rattle.basics.specs.Below.{all_below}
use Rattle.truth.specs.Computed.{truth}
use Rattle.basics.specs.Laws.Below.{all_iff}
use Rattle.judgement.specs.Computed.{table_of}
use Rattle.effect.specs.Apply.{would_leave}
use Rattle.book.specs.Answer.{CheckAnswer, forwarded, refused}
use Rattle.book.specs.Check.{check_answer}
use Rattle.book.specs.Reference.{installed_at_start, outcome_of}
use Rattle.series.specs.Starred.{computing, those, checked, commanded, listed}

-- modify of rule B (switch 1, port 1, any header): an action count and actions
unfoldable modify_b : List ℕ → Rec
modify_b actions = record24 ((7 ∷ 1 ∷ 10 ∷ 0 ∷ 1 ∷ 3 ∷ 0 ∷ 0 ∷ []) ++ actions)

-- OUTPUT with stars
unfoldable flooding : Rec
flooding = modify_b (1 ∷ 1 ∷ 0 ∷ 0 ∷ [])

-- IN_PORT
unfoldable returning : Rec
returning = modify_b (1 ∷ 3 ∷ 0 ∷ 0 ∷ [])

-- for OUTPUT with stars and for IN_PORT: the command's answer, what the states 10 and 11 step to, which arrive at port 1 of switch 1, and what state 2 reaches; with stars no copy goes back to port 1,
-- with IN_PORT it does, and over the link to state 4; then IN_PORT with a value, with a care, twice, and with a SET behind it as the last action: in a command, and in a file, where rule B is record 5
bounce :
    commanded (outcome_of (installed_at_start K) flooding 2048).answer
    ∷ listed (next (would_leave flooding K) 10)
    ∷ listed (next (would_leave flooding K) 11)
    ∷ listed (let reaches = truth (table_of (would_leave flooding K)) (TC (R X Y) X Y) in those 32 0 (λ t. reaches 2 t))
    ∷ commanded (outcome_of (installed_at_start K) returning 2048).answer
    ∷ listed (next (would_leave returning K) 10)
    ∷ listed (next (would_leave returning K) 11)
    ∷ listed (let reaches = truth (table_of (would_leave returning K)) (TC (R X Y) X Y) in those 32 0 (λ t. reaches 2 t))
    ∷ commanded (outcome_of (installed_at_start K) (modify_b (1 ∷ 3 ∷ 1 ∷ 0 ∷ [])) 2048).answer
    ∷ commanded (outcome_of (installed_at_start K) (modify_b (1 ∷ 3 ∷ 0 ∷ 1 ∷ [])) 2048).answer
    ∷ commanded (outcome_of (installed_at_start K) (modify_b (2 ∷ 3 ∷ 0 ∷ 0 ∷ 3 ∷ 0 ∷ 0 ∷ [])) 2048).answer
    ∷ commanded (outcome_of (installed_at_start K) (modify_b (2 ∷ 3 ∷ 0 ∷ 0 ∷ 2 ∷ 0 ∷ 1 ∷ [])) 2048).answer
    ∷ checked (check_answer (in_store (would_leave (modify_b (1 ∷ 3 ∷ 1 ∷ 0 ∷ [])) K)) 20 2048)
    ∷ checked (check_answer (in_store (would_leave (modify_b (1 ∷ 3 ∷ 0 ∷ 1 ∷ [])) K)) 20 2048)
    ∷ checked (check_answer (in_store (would_leave (modify_b (2 ∷ 3 ∷ 0 ∷ 0 ∷ 3 ∷ 0 ∷ 0 ∷ [])) K)) 20 2048)
    ∷ checked (check_answer (in_store (would_leave (modify_b (2 ∷ 3 ∷ 0 ∷ 0 ∷ 2 ∷ 0 ∷ 1 ∷ [])) K)) 20 2048)
    ∷ []
    ≡ commanded (forwarded 20)
    ∷ listed (28 ∷ [])
    ∷ listed (29 ∷ [])
    ∷ listed (10 ∷ 20 ∷ 28 ∷ [])
    ∷ commanded (forwarded 20)
    ∷ listed (26 ∷ [])
    ∷ listed (27 ∷ [])
    ∷ listed (4 ∷ 10 ∷ 16 ∷ 20 ∷ 26 ∷ [])
    ∷ commanded (refused 12 0)
    ∷ commanded (refused 12 0)
    ∷ commanded (forwarded 20)
    ∷ commanded (refused 12 0)
    ∷ checked (CheckAnswer.refused 5 5)
    ∷ checked (CheckAnswer.refused 5 5)
    ∷ checked CheckAnswer.holds
    ∷ checked (CheckAnswer.refused 5 5)
    ∷ []
unfolding computing those modify_b flooding returning
bounce = refl

-- a list of one number
only : (t n : ℕ) → member t (n ∷ []) ≡ true ↔ t ≡ n
unfolding member any
only t n = (λ m. eqb-true t n (sym (or-false (eqb t n)) ∙ m), λ e. or-false (eqb t n) ∙ eq-eqb t n e)

-- with stars state 10, which arrives at (switch 1, port 1), steps to 28 alone, which departs at port 2
flooded_steps : (t : ℕ) → Step (would_leave flooding K) 10 t ↔ t ≡ 28
unfolding Step computing modify_b flooding
flooded_steps t = only t 28

-- with IN_PORT it steps to 26 alone, which departs at port 1
returned_steps : (t : ℕ) → Step (would_leave returning K) 10 t ↔ t ≡ 26
unfolding Step computing modify_b returning
returned_steps t = only t 26

-- an action of this kind sends back
sends_back : ActionKind → Bool
sends_back k_output = false
sends_back k_set = false
sends_back k_in_port = true
sends_back k_run_group = false
sends_back k_no_action = false

-- record k of K has one action at most, and it is not IN_PORT
one_action_lem : ℕ → Bool
one_action_lem k = let r = get_or K k [] in leb (at r 8) 1 && not (sends_back (action_kind (at r 9)))

one_action : all_below 20 one_action_lem ≡ true
unfolding computing one_action_lem sends_back
one_action = refl

-- so K is a network without IN_PORT, of which `no_step_back` speaks
K_without : WithoutInPort K
unfolding computing one_action_lem sends_back
K_without k h e i hi q =
    let r = get_or K k [] in
    let t = both (leb (at r 8) 1) (not (sends_back (action_kind (at r 9)))) ((all_iff 20 one_action_lem).0 one_action k h) in
    let z : i ≡ 0 = omega (arith, hi, leb-true (at r 8) 1 t.0) in
    not_both (ap sends_back (subst (λ (j : ℕ). action_kind (at r (9 + 3 * j)) ≡ k_in_port) z q)) (not-true (sends_back (action_kind (at r 9))) t.1)
