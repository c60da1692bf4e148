-- Laws of what is known of the policies, as one record more comes.
use Rattle.std.specs.Prelude.{◌≡◌, refl, Bool, true, false, cond, ◌||◌, [], ◌∷◌, ◌++◌, ℕ, suc, ◌+◌, ◌-◌, ◌^◌, max, eqb, length}
use Rattle.std.proofs.Common.{sym, ap, ap₂, subst, ◌∙◌, inl, inr, arith, length-append, ne_eqb, eqb-true}
use Rattle.std.proofs.lemmas.Bool.{false≢true}
use Rattle.std.specs.Int.Bits.{bit_or}
use Rattle.format.specs.Record.{Rec, Net, at, kind}
use Rattle.format.specs.Policy.{nodes_of, policy_count}
use Rattle.refusals.specs.Rows.{free_at}
use Rattle.noderows.specs.Policies.{Marks, PoliciesOf, follows, Entered}
use Rattle.noderows.specs.declared.Policies.{Policies}
use Rattle.noderows.specs.Laws.Formulas.{free_at_lem, marks_none, marks_more}
use Rattle.format.specs.Laws.Policies.{count_other, count_follows, nodes_in, nodes_other_kind, nodes_beyond, longest_other, longest_follows}

or_left : (a b : Bool) → (a || b) ≡ true → b ≡ false → a ≡ true
or_left true b e f = refl
or_left false b e f = absurd (false≢true (sym f ∙ e))

-- a policy that follows is the last one, unless it is one more
pub follows_last : (p count : ℕ) → follows p count ≡ true → (p ≡ count → ⊥) → suc p ≡ count
follows_last p count e h = eqb-true (suc p) count (or_left (eqb (suc p) count) (eqb p count) e (ne_eqb p count h))

module _ (before : Net) (s : Policies) (known : PoliciesOf before s) where
  pub enter_new : (p : ℕ) → p ≡ s.count → Entered before p (record { count = s.count + 1; nodes = 0; free = 0; longest = s.longest })
  enter_new p e =
      let q : p ≡ policy_count before = e ∙ known.count in
      let z : nodes_of p before ≡ [] = nodes_beyond before p (omega (arith, q)) in
      record {
        follow = inr q;
        count = omega arith;
        nodes = sym (ap length z);
        marks = subst (λ (l : Net). Marks l 0) (sym z) marks_none;
        longest = known.longest;
      }

  pub enter_last : (p : ℕ) → suc p ≡ s.count → Entered before p s
  enter_last p e =
      let q : s.count - 1 ≡ p = omega arith in
      record {
        follow = inl (e ∙ known.count);
        count = sym e;
        nodes = subst (λ (k : ℕ). s.nodes ≡ length (nodes_of k before)) q known.nodes;
        marks = subst (λ (k : ℕ). Marks (nodes_of k before) s.free) q known.marks;
        longest = known.longest;
      }

  -- a record that is no node leaves the policies as they are
  pub policies_other : (r : Rec) → (kind r ≡ 5 → ⊥) → PoliciesOf (before ++ (r ∷ [])) s
  policies_other r h =
      let e = nodes_other_kind (s.count - 1) before r h in
      record {
        count = known.count ∙ sym (count_other before r h);
        nodes = known.nodes ∙ ap length (sym e);
        marks = subst (λ (l : Net). Marks l s.free) (sym e) known.marks;
        longest = known.longest ∙ sym (longest_other before r h);
      }

-- one node more
pub policies_node : (before : Net) (s : Policies) (x : Rec) (y : Bool) → kind x ≡ 5 → Entered before (at x 1) s → y ≡ free_at before x
    → PoliciesOf (before ++ (x ∷ [])) (record { count = s.count; nodes = s.nodes + 1; free = cond y (bit_or s.free (2 ^ s.nodes)) s.free; longest = max (s.nodes + 1) s.longest })
policies_node before s x y node known e =
    let p = at x 1 in
    let old = nodes_of p before in
    let q : s.count - 1 ≡ p = omega (arith, known.count) in
    let new : nodes_of (s.count - 1) (before ++ (x ∷ [])) ≡ old ++ (x ∷ []) = ap (λ (k : ℕ). nodes_of k (before ++ (x ∷ []))) q ∙ nodes_in p before x node refl in
    let l : length (old ++ (x ∷ [])) ≡ length old + 1 = length-append old (x ∷ []) in
    let m = marks_more old s.free x y known.marks (e ∙ free_at_lem before x) in
    let n : length old ≡ s.nodes = sym known.nodes in
    record {
      count = known.count ∙ sym (count_follows before x node known.follow);
      nodes = ap (λ (k : ℕ). k + 1) known.nodes ∙ sym l ∙ ap length (sym new);
      marks = rw new (subst (λ (k : ℕ). Marks (old ++ (x ∷ [])) (cond y (bit_or s.free (2 ^ k)) s.free)) n m);
      longest = ap₂ max (omega arith) known.longest ∙ sym (longest_follows before x node known.follow);
    }
