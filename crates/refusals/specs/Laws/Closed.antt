-- Row 9 sees to it that Y is free at no policy's last node.
use Rattle.std.specs.Prelude.{◌≡◌, refl, Bool, true, false, [], ◌∷◌, ◌++◌, ◌⊎◌, ℕ, ◌-◌, ◌<◌, length}
use Rattle.std.proofs.Common.{ap, subst, ◌∙◌, inl, inr, ⊎_elim, arith, eqb-true, length-append}
use Rattle.std.proofs.Math.Option.{none}
use Rattle.std.proofs.Math.Decide.{ℕ_discrete}
use Rattle.std.proofs.lemmas.Bool.{not-false}
use Rattle.basics.specs.Laws.Tests.{not_both, both}
use Rattle.format.specs.Record.{Rec, Net, at, kind}
use Rattle.format.specs.Policy.{formula, nodes_of, policy_count, forbidden, free}
use Rattle.format.specs.declared.kinds.Var.TheVariants.{Y}
use Rattle.refusals.specs.Rows.{ends_policy, free_at}
use Rattle.refusals.specs.Refusal.{file_row}
use Rattle.format.specs.Laws.Policies.{count_other, count_node, nodes_in, nodes_other_policy, nodes_other_kind}
use Rattle.refusals.specs.Laws.Passing.{Passes, node_follows, node_closed, carried}

-- the next record is a node of policy p
abbrev More : ℕ → Net → Type 0
More p [] = ⊥
More p (r ∷ rest) = (kind r ≡ 5) × (at r 1 ≡ p)

more : (r : Rec) (after : Net) → ends_policy r after ≡ false → More (at r 1) after
unfolding ends_policy
more r [] e = not_both refl e
more r (s ∷ after) e = let t = both _ _ (not-false _ e) in (eqb-true _ _ t.0, eqb-true _ _ t.1)

-- of each policy so far Y is not free at the last node, or its next node follows
abbrev Closed : Net → Net → Type 0
Closed before rest = (p : ℕ) → p < policy_count before → (free Y (forbidden before p) ≡ false) ⊎ More p rest

forbidden_alike : (x y : Net) (p : ℕ) → nodes_of p x ≡ nodes_of p y → forbidden x p ≡ forbidden y p
unfolding forbidden
forbidden_alike x y p e = ap (λ (nodes : Net). formula nodes (length nodes - 1)) e

forbidden_last : (before : Net) (r : Rec) → kind r ≡ 5 → free Y (forbidden (before ++ (r ∷ [])) (at r 1)) ≡ free_at before r
unfolding forbidden free_at
forbidden_last before r k =
    let nodes = nodes_of (at r 1) before in
    let l : length (nodes ++ (r ∷ [])) - 1 ≡ length nodes = omega (arith, length-append nodes (r ∷ [])) in
    ap (λ (n : Net). free Y (formula n (length n - 1))) (nodes_in (at r 1) before r k refl) ∙ ap (λ (i : ℕ). free Y (formula (nodes ++ (r ∷ [])) i)) l

module _ (before : Net) (r : Rec) (after : Net) (s : Passes before r after) (i : Closed before (r ∷ after)) where
  same : (p : ℕ) → nodes_of p (before ++ (r ∷ [])) ≡ nodes_of p before → (free Y (forbidden before p) ≡ false) ⊎ More p (r ∷ after) → (More p (r ∷ after) → ⊥)
      → (free Y (forbidden (before ++ (r ∷ [])) p) ≡ false) ⊎ More p after
  same p q (inl e) n = inl (ap (free Y) (forbidden_alike (before ++ (r ∷ [])) before p q) ∙ e)
  same p q (inr m) n = absurd (n m)

  own : kind r ≡ 5 → (free Y (forbidden (before ++ (r ∷ [])) (at r 1)) ≡ false) ⊎ More (at r 1) after
  own k = go (ends_policy r after) refl
    where
      go : (b : Bool) → ends_policy r after ≡ b → (free Y (forbidden (before ++ (r ∷ [])) (at r 1)) ≡ false) ⊎ More (at r 1) after
      go true t = inl (forbidden_last before r k ∙ node_closed before r after s k t)
      go false t = inr (more r after t)

  lower : (p : ℕ) → kind r ≡ 5 → (at r 1 ≡ p → ⊥) → p < policy_count (before ++ (r ∷ [])) → p < policy_count before
  lower p k n h =
      ⊎_elim (λ q. omega (arith, n, h, q, count_node before r k)) (λ q. omega (arith, n, h, q, count_node before r k)) (node_follows before r after s k)

  closed_more : Closed (before ++ (r ∷ [])) after
  closed_more p h = go (ℕ_discrete (kind r) 5) (ℕ_discrete (at r 1) p)
    where
      go : Dec (kind r ≡ 5) → Dec (at r 1 ≡ p) → (free Y (forbidden (before ++ (r ∷ [])) p) ≡ false) ⊎ More p after
      go (no k) d = same p (nodes_other_kind p before r k) (i p (omega (arith, h, count_other before r k))) (λ m. k m.0)
      go (yes k) (no n) = same p (nodes_other_policy p before r n) (i p (lower p k n h)) (λ m. n m.1)
      go (yes k) (yes q) = subst (λ (p : ℕ). (free Y (forbidden (before ++ (r ∷ [])) p) ≡ false) ⊎ More p after) q (own k)

-- the forbidden condition of each policy has at most X free
pub forbidden_closed : (net : Net) → file_row [] net ≡ none → (p : ℕ) → p < policy_count net → free Y (forbidden net p) ≡ false
unfolding policy_count
forbidden_closed net e p h = ⊎_elim (λ t. t) (λ m. absurd m) (carried Closed closed_more net [] e (λ p h. absurd (omega arith)) p h)
