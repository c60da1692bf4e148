-- Laws of policies as one record more comes: their number, their nodes, and the longest.
use Rattle.std.specs.Prelude.{◌≡◌, refl, Bool, true, false, cond, ◌&&◌, [], ◌∷◌, ◌++◌, ◌⊎◌}
use Rattle.std.proofs.Common.{sym, ap₂, ◌∙◌, eq-eqb, ne_eqb}
use Rattle.std.proofs.Math.Path.{ap}
use Rattle.std.proofs.Math.Bool.{and-false}
use Rattle.std.proofs.Math.Logic.{⊎_elim}
use Prim.Native.Nat.{ℕ, zero, suc, ◌≤◌, max}
use native.Mathlib.Omega.{arith}
use Rattle.std.proofs.Math.Dec.{eqb}
use Rattle.std.proofs.Math.ListN.{length, length-append}
use Rattle.basics.specs.Lists.{keep}
use Rattle.format.specs.Record.{Rec, Net, at, kind, of_kind}
use Rattle.format.specs.Policy.{nodes_of, policy_count, longest_of, longest}
use Rattle.basics.specs.Laws.Lists.{keep_in, keep_out}

max_last : (b : Bool) (p c d : ℕ) → cond b (max (suc p) (max c d)) (max c d) ≡ max (cond b (max (suc p) c) c) d
max_last true p c d = omega arith
max_last false p c d = refl

-- the number of policies, one record more
pub count_more : (net : Net) (r : Rec) → policy_count (net ++ (r ∷ [])) ≡ max (policy_count net) (policy_count (r ∷ []))
unfolding policy_count
count_more [] r = omega arith
count_more (x ∷ net) r = rw (count_more net r) (max_last (eqb (kind x) 5) (at x 1) (policy_count net) (policy_count (r ∷ [])))

pub count_other : (net : Net) (r : Rec) → (kind r ≡ 5 → ⊥) → policy_count (net ++ (r ∷ [])) ≡ policy_count net
unfolding policy_count
count_other net r h = let z : policy_count (r ∷ []) ≡ 0 = rw (ne_eqb (kind r) 5 h) in omega (arith, count_more net r, z)

pub count_node : (net : Net) (r : Rec) → kind r ≡ 5 → policy_count (net ++ (r ∷ [])) ≡ max (policy_count net) (suc (at r 1))
unfolding policy_count
count_node net r h = let z : policy_count (r ∷ []) ≡ suc (at r 1) = rw h (omega arith) in omega (arith, count_more net r, z)

-- without nodes there are no policies
pub count_none : (net : Net) → of_kind 5 net ≡ [] → policy_count net ≡ 0
unfolding of_kind keep policy_count
count_none [] e = refl
count_none (x ∷ net) e = go (eqb (kind x) 5) refl e (count_none net)
  where
    go : (b : Bool) → eqb (kind x) 5 ≡ b → cond b (x ∷ of_kind 5 net) (of_kind 5 net) ≡ [] → (of_kind 5 net ≡ [] → policy_count net ≡ 0) → policy_count (x ∷ net) ≡ 0
    go true q e ih = absurd (omega (arith, ap length e))
    go false q e ih = rw q (ih e)

-- the nodes of a policy, one record more
module _ (p : ℕ) (net : Net) (r : Rec) where
  pub nodes_in : kind r ≡ 5 → at r 1 ≡ p → nodes_of p (net ++ (r ∷ [])) ≡ nodes_of p net ++ (r ∷ [])
  unfolding nodes_of
  nodes_in k q = keep_in (λ x. eqb (kind x) 5 && eqb (at x 1) p) net r (rw (k, q) (eq-eqb p p refl))

  pub nodes_other_policy : (at r 1 ≡ p → ⊥) → nodes_of p (net ++ (r ∷ [])) ≡ nodes_of p net
  unfolding nodes_of
  nodes_other_policy q = keep_out (λ x. eqb (kind x) 5 && eqb (at x 1) p) net r (rw (ne_eqb (at r 1) p q) (and-false (eqb (kind r) 5)))

  pub nodes_other_kind : (kind r ≡ 5 → ⊥) → nodes_of p (net ++ (r ∷ [])) ≡ nodes_of p net
  unfolding nodes_of
  nodes_other_kind k = keep_out (λ x. eqb (kind x) 5 && eqb (at x 1) p) net r (rw (ne_eqb (kind r) 5 k))

-- no policy from the number of policies on has nodes
pub nodes_beyond : (net : Net) (p : ℕ) → policy_count net ≤ p → nodes_of p net ≡ []
unfolding nodes_of policy_count keep
nodes_beyond [] p h = refl
nodes_beyond (x ∷ net) p h = go (eqb (kind x) 5) refl h (nodes_beyond net p)
  where
    go : (b : Bool) → eqb (kind x) 5 ≡ b → cond b (max (suc (at x 1)) (policy_count net)) (policy_count net) ≤ p → (policy_count net ≤ p → nodes_of p net ≡ [])
        → nodes_of p (x ∷ net) ≡ []
    go true e h ih = rw (e, ne_eqb (at x 1) p (λ q. omega arith)) (ih (omega arith))
    go false e h ih = rw e (ih h)

-- the longest of the first k policies, one record more
pub longest_of_other : (k : ℕ) (net : Net) (r : Rec) → (kind r ≡ 5 → ⊥) → longest_of k (net ++ (r ∷ [])) ≡ longest_of k net
unfolding longest_of
longest_of_other zero net r h = refl
longest_of_other (suc k) net r h = ap₂ (λ (l : Net) (m : ℕ). max (length l) m) (nodes_other_kind k net r h) (longest_of_other k net r h)

pub longest_of_lower : (k : ℕ) (net : Net) (r : Rec) → k ≤ at r 1 → longest_of k (net ++ (r ∷ [])) ≡ longest_of k net
unfolding longest_of
longest_of_lower zero net r h = refl
longest_of_lower (suc k) net r h =
    ap₂ (λ (l : Net) (m : ℕ). max (length l) m) (nodes_other_policy k net r (λ q. omega arith)) (longest_of_lower k net r (omega arith))

pub longest_other : (net : Net) (r : Rec) → (kind r ≡ 5 → ⊥) → longest (net ++ (r ∷ [])) ≡ longest net
unfolding longest
longest_other net r h = rw (count_other net r h) (longest_of_other (policy_count net) net r h)

-- a node of the last policy or of one more
module _ (net : Net) (r : Rec) (node : kind r ≡ 5) (follow : (suc (at r 1) ≡ policy_count net) ⊎ (at r 1 ≡ policy_count net)) where
  pub count_follows : policy_count (net ++ (r ∷ [])) ≡ suc (at r 1)
  count_follows = ⊎_elim (λ q. omega (arith, q, count_node net r node)) (λ q. omega (arith, q, count_node net r node)) follow

  before_it : longest net ≡ max (length (nodes_of (at r 1) net)) (longest_of (at r 1) net)
  unfolding longest longest_of
  before_it =
      ⊎_elim
      (λ q. ap (λ (k : ℕ). longest_of k net) (sym q))
      (λ q.
      let z : length (nodes_of (at r 1) net) ≡ 0 = ap length (nodes_beyond net (at r 1) (omega (arith, q))) in
      let t : longest_of (policy_count net) net ≡ longest_of (at r 1) net = ap (λ (k : ℕ). longest_of k net) (sym q) in
      omega (arith, z, t))
      follow

  pub longest_follows : longest (net ++ (r ∷ [])) ≡ max (suc (length (nodes_of (at r 1) net))) (longest net)
  unfolding longest longest_of
  longest_follows =
      let p = at r 1 in
      let l : length (nodes_of p (net ++ (r ∷ []))) ≡ suc (length (nodes_of p net)) = ap length (nodes_in p net r node refl) ∙ length-append (nodes_of p net) (r ∷ []) ∙ omega arith in
      ap (λ (k : ℕ). longest_of k (net ++ (r ∷ []))) count_follows ∙ omega (arith, l, before_it, longest_of_lower p net r (omega arith))
