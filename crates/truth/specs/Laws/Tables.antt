-- The computed truth of a formula is true exactly where the formula is.
use Rattle.std.specs.Prelude.{◌≡◌, refl, Bool, false, not, ◌↔◌, ◌⊎◌, ℕ, ◌<◌, get_or}
use Rattle.std.proofs.Common.{sym, inl, inr, ⊎_elim}
use Rattle.std.proofs.Math.Path.{subst, subst⁻¹}
use Rattle.std.proofs.Math.Bool.{true, false≢true}
use Rattle.std.specs.Bool.{beq}
use Rattle.format.specs.Policy.{Formula, absent, BIT, R, E, NOT, AND, OR, SOME, ALL, TC}
use Rattle.format.specs.declared.kinds.Var.{Var}
use Rattle.format.specs.declared.kinds.Var.TheVariants.{X, Y}
use Rattle.walks.specs.Walk.{Walk}
use Rattle.basics.specs.Tabulated.{grid_test}
use Rattle.basics.specs.Laws.Below.{any_iff, all_iff}
use Rattle.walks.specs.Computed.{closed}
use Rattle.walks.specs.Laws.Walks.{map_walk}
use Rattle.walks.specs.Laws.Closing.{closed_iff}
use Rattle.truth.specs.Truth.{Model, value, with_x, with_y, Truth}
use Rattle.truth.specs.Computed.{Table, truth}

-- a table has a model's states, steps and external points
pub record Agrees (m : Model) (t : Table) : Type 0 where
  pub counts : t.count ≡ m.count
  pub steps_agree : (x y : ℕ) → x < m.count → y < m.count → grid_test t.steps x y ≡ true ↔ m.Steps x y
  pub externals_agree : (x : ℕ) → x < m.count → get_or t.externals x false ≡ true ↔ m.External x

pub value-lt : {S : ℕ} (v : Var) {x y : ℕ} → x < S → y < S → value v x y < S
value-lt X hx hy = hx
value-lt Y hx hy = hy

pub with_x-lt : {S : ℕ} (v : Var) {z x : ℕ} → z < S → x < S → with_x v z x < S
with_x-lt X hz hx = hz
with_x-lt Y hz hx = hx

pub with_y-lt : {S : ℕ} (v : Var) {z y : ℕ} → z < S → y < S → with_y v z y < S
with_y-lt X hz hy = hy
with_y-lt Y hz hy = hz

pub not_iff : {P : Type 0} (a : Bool) → a ≡ true ↔ P → not a ≡ true ↔ (P → ⊥)
not_iff true e = (λ n. absurd (false≢true n), λ f. absurd (f (e.0 refl)))
not_iff false e = (λ n p. false≢true (e.1 p), λ f. refl)

and_iff : {P Q : Type 0} (a b : Bool) → a ≡ true ↔ P → b ≡ true ↔ Q → ◌≡◌ {A = Bool} (elim a [ true ↦ b | false ↦ false ]) true ↔ (P × Q)
and_iff true b e f = (λ t. (e.0 refl, f.0 t), λ p. f.1 p.1)
and_iff false b e f = (λ t. absurd (false≢true t), λ p. e.1 p.0)

or_iff : {P Q : Type 0} (a b : Bool) → a ≡ true ↔ P → b ≡ true ↔ Q → ◌≡◌ {A = Bool} (elim a [ true ↦ true | false ↦ b ]) true ↔ (P ⊎ Q)
or_iff true b e f = (λ t. inl (e.0 refl), λ p. refl)
or_iff false b e f = (λ t. inr (f.0 t), λ p. ⊎_elim (λ u. absurd (false≢true (e.1 u))) (λ u. f.1 u) p)

-- two tests that are found to be the same
pub beq_same : (a b : Bool) → beq a b ≡ true → a ≡ b
beq_same true true e = refl
beq_same true false e = sym e
beq_same false true e = e
beq_same false false e = refl

module _ (m : Model) (t : Table) (a : Agrees m t) where
  pub truth_at : (f : Formula) (x y : ℕ) → x < m.count → y < m.count → truth t f x y ≡ true ↔ Truth m f x y
  unfolding truth Truth
  truth_at absent x y hx hy = (λ e. false≢true e, λ e. absurd e)
  truth_at (BIT v i) x y hx hy = (λ e. e, λ e. e)
  truth_at (R u v) x y hx hy = a.steps_agree (value u x y) (value v x y) (value-lt u hx hy) (value-lt v hx hy)
  truth_at (E v) x y hx hy = a.externals_agree (value v x y) (value-lt v hx hy)
  truth_at (NOT f) x y hx hy = not_iff (truth t f x y) (truth_at f x y hx hy)
  truth_at (AND f g) x y hx hy = and_iff (truth t f x y) (truth t g x y) (truth_at f x y hx hy) (truth_at g x y hx hy)
  truth_at (OR f g) x y hx hy = or_iff (truth t f x y) (truth t g x y) (truth_at f x y hx hy) (truth_at g x y hx hy)
  truth_at (SOME f v) x y hx hy =
      let at : (z : ℕ) → z < m.count → truth t f (with_x v z x) (with_y v z y) ≡ true ↔ Truth m f (with_x v z x) (with_y v z y) =
      λ z hz. truth_at f (with_x v z x) (with_y v z y) (with_x-lt v hz hx) (with_y-lt v hz hy) in
      let any = any_iff t.count (λ (z : ℕ). truth t f (with_x v z x) (with_y v z y)) in (
        λ e. let r = any.0 e in let h : r.0 < m.count = subst (λ (s : ℕ). r.0 < s) a.counts r.1 in (r.0, h, (at r.0 h).0 r.2),
        λ r. any.1 (r.0, subst⁻¹ (λ (s : ℕ). r.0 < s) a.counts r.1, (at r.0 r.1).1 r.2),
      )
  truth_at (ALL f v) x y hx hy =
      let at : (z : ℕ) → z < m.count → truth t f (with_x v z x) (with_y v z y) ≡ true ↔ Truth m f (with_x v z x) (with_y v z y) =
      λ z hz. truth_at f (with_x v z x) (with_y v z y) (with_x-lt v hz hx) (with_y-lt v hz hy) in
      let all = all_iff t.count (λ (z : ℕ). truth t f (with_x v z x) (with_y v z y)) in (
        λ e z hz. (at z hz).0 (all.0 e z (subst⁻¹ (λ (s : ℕ). z < s) a.counts hz)),
        λ r. all.1 (λ z hz. let h : z < m.count = subst (λ (s : ℕ). z < s) a.counts hz in (at z h).1 (r z h)),
      )
  truth_at (TC f u v) x y hx hy =
      let closes =
      subst⁻¹ (λ (s : ℕ). grid_test (closed s (truth t f)) (value u x y) (value v x y) ≡ true ↔ Walk m.count (λ i j. truth t f i j ≡ true) (value u x y) (value v x y)) a.counts
      (closed_iff m.count (truth t f) (value u x y) (value v x y) (value-lt u hx hy) (value-lt v hx hy)) in (
        λ e. map_walk (λ i j hi hj s. (truth_at f i j hi hj).0 s) (closes.0 e),
        λ p. closes.1 (map_walk (λ i j hi hj s. (truth_at f i j hi hj).1 s) p),
      )
