-- A verdict depends on a network only through its widths, external points, policies and steps.
use Rattle.std.specs.Prelude.{◌≡◌, ◌↔◌, ℕ, ◌<◌}
use Rattle.std.proofs.Common.{sym, ◌∙◌, arith}
use Rattle.std.proofs.Math.Path.{subst, subst⁻¹}
use Rattle.std.proofs.Math.Logic.{inl, inr, ⊎_elim}
use Rattle.format.specs.Record.{Net, widths_of}
use Rattle.widths.specs.Widths.{states}
use Rattle.format.specs.Policy.{Formula, absent, BIT, R, E, NOT, AND, OR, SOME, ALL, TC, forbidden, policy_count}
use Rattle.onestep.specs.Step.{Step, external}
use Rattle.walks.specs.Walk.{Walk}
use Rattle.walks.specs.Laws.Walks.{map_walk}
use Rattle.truth.specs.Truth.{Model, value, with_x, with_y, Truth}
use Rattle.judgement.specs.Verdict.{Verdict, holds, violated, Breaks, Is}
use Rattle.judgement.specs.Judgement.{a_state, verdict, verdict_meant, only}
use Rattle.truth.specs.Laws.Tables.{value-lt, with_x-lt, with_y-lt}
use Rattle.judgement.specs.Model.{model_of}

-- two models have the same states, steps and external points
pub record SameModel (m k : Model) : Type 0 where
  pub counts : m.count ≡ k.count
  pub steps : (x y : ℕ) → x < m.count → y < m.count → m.Steps x y ↔ k.Steps x y
  pub externals : (x : ℕ) → x < m.count → m.External x ↔ k.External x

module _ (m k : Model) (s : SameModel m k) where
  pub same_truth : (f : Formula) (x y : ℕ) → x < m.count → y < m.count → Truth m f x y ↔ Truth k f x y
  unfolding Truth
  same_truth absent x y hx hy = (λ t. t, λ t. t)
  same_truth (BIT v i) x y hx hy = (λ t. t, λ t. t)
  same_truth (R u v) x y hx hy = s.steps (value u x y) (value v x y) (value-lt u hx hy) (value-lt v hx hy)
  same_truth (E v) x y hx hy = s.externals (value v x y) (value-lt v hx hy)
  same_truth (NOT f) x y hx hy = let e = same_truth f x y hx hy in (λ t u. t (e.1 u), λ t u. t (e.0 u))
  same_truth (AND f g) x y hx hy =
      let e = same_truth f x y hx hy in
      let d = same_truth g x y hx hy in
      (λ t. (e.0 t.0, d.0 t.1), λ t. (e.1 t.0, d.1 t.1))
  same_truth (OR f g) x y hx hy =
      let e = same_truth f x y hx hy in
      let d = same_truth g x y hx hy in
      (λ t. ⊎_elim (λ u. inl (e.0 u)) (λ u. inr (d.0 u)) t, λ t. ⊎_elim (λ u. inl (e.1 u)) (λ u. inr (d.1 u)) t)
  same_truth (SOME f v) x y hx hy =
      let at : (z : ℕ) → z < m.count → Truth m f (with_x v z x) (with_y v z y) ↔ Truth k f (with_x v z x) (with_y v z y) =
      λ z hz. same_truth f (with_x v z x) (with_y v z y) (with_x-lt v hz hx) (with_y-lt v hz hy) in (
        λ t. (t.0, subst (λ (n : ℕ). t.0 < n) s.counts t.1, (at t.0 t.1).0 t.2),
        λ t. let h : t.0 < m.count = subst⁻¹ (λ (n : ℕ). t.0 < n) s.counts t.1 in (t.0, h, (at t.0 h).1 t.2),
      )
  same_truth (ALL f v) x y hx hy =
      let at : (z : ℕ) → z < m.count → Truth m f (with_x v z x) (with_y v z y) ↔ Truth k f (with_x v z x) (with_y v z y) =
      λ z hz. same_truth f (with_x v z x) (with_y v z y) (with_x-lt v hz hx) (with_y-lt v hz hy) in (
        λ t z hz. let h : z < m.count = subst⁻¹ (λ (n : ℕ). z < n) s.counts hz in (at z h).0 (t z h),
        λ t z hz. (at z hz).1 (t z (subst (λ (n : ℕ). z < n) s.counts hz)),
      )
  same_truth (TC f u v) x y hx hy = (
    λ t. subst (λ (n : ℕ). Walk n (Truth k f) (value u x y) (value v x y)) s.counts (map_walk (λ a b ha hb r. (same_truth f a b ha hb).0 r) t),
    λ t. map_walk (λ a b ha hb r. (same_truth f a b ha hb).1 r) (subst⁻¹ (λ (n : ℕ). Walk n (Truth k f) (value u x y) (value v x y)) s.counts t),
  )

-- two networks have the same widths, external points, policies and steps
pub record SameNetwork (a b : Net) : Type 0 where
  pub widths : states (widths_of a) ≡ states (widths_of b)
  pub externals : (x : ℕ) → x < states (widths_of a) → external a x ≡ external b x
  pub policies : policy_count a ≡ policy_count b
  pub conditions : (p : ℕ) → p < policy_count a → forbidden a p ≡ forbidden b p
  pub steps : (x y : ℕ) → x < states (widths_of a) → y < states (widths_of a) → Step a x y ↔ Step b x y

module _ (a b : Net) (s : SameNetwork a b) where
  model : SameModel (model_of a) (model_of b)
  model =
      record {
        counts = s.widths;
        steps = s.steps;
        externals = λ x h. (λ t. sym (s.externals x h) ∙ t, λ t. s.externals x h ∙ t);
      }

  same_breaks : (p x : ℕ) → p < policy_count a → x < states (widths_of a) → Breaks a p x ↔ Breaks b p x
  same_breaks p x hp hx =
      subst (λ (f : Formula). Truth (model_of a) (forbidden a p) x 0 ↔ Truth (model_of b) f x 0) (s.conditions p hp)
      (same_truth (model_of a) (model_of b) model (forbidden a p) x 0 hx (a_state a))

  to_b : (n : ℕ) → n < states (widths_of b) → n < states (widths_of a)
  to_b n h = omega (arith, s.widths)

  carried : (v : Verdict) → Is a v → Is b v
  carried holds h =
      λ p hp x hx t. let q : p < policy_count a = omega (arith, s.policies) in h p q x (to_b x hx) ((same_breaks p x q (to_b x hx)).1 t)
  carried (violated p x) l =
      record {
        a_policy = omega (arith, l.a_policy, s.policies);
        a_state = omega (arith, l.a_state, s.widths);
        broken = (same_breaks p x l.a_policy l.a_state).0 l.broken;
        no_state_below = λ z hz t. l.no_state_below z hz ((same_breaks p z l.a_policy (omega (arith, l.a_state))).1 t);
        no_policy_below = λ q hq z hz t. l.no_policy_below q hq z (to_b z hz) ((same_breaks q z (omega (arith, l.a_policy)) (to_b z hz)).1 t);
      }

  -- they get equal verdicts
  pub same_verdict : verdict a ≡ verdict b
  same_verdict = only b (verdict a) (verdict b) (carried (verdict a) (verdict_meant a)) (verdict_meant b)
