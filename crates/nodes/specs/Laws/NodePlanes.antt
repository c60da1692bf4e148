-- The forms that nodes are given, as the truth of a node of each kind.
use Rattle.std.specs.Prelude.{Option, Some, None, ◌≡◌, refl, Bool, true, false, ◌&&◌, ◌||◌, List, ◌↔◌, ◌⊎◌, ℕ, zero, suc, ◌+◌, ◌*◌, ◌≤◌, ◌<◌, replicate}
use Rattle.std.proofs.Common.{sym, ◌∙◌, inl, inr, ⊎_elim, mul-le-mul_right, arith}
use Rattle.std.proofs.Math.Bool.{false≢true}
use Rattle.basics.specs.Bit.{bit_of}
use Rattle.planes.specs.Plane.{bit, plane_size}
use Rattle.planes.specs.Laws.Places.{line_before}
use Rattle.planes.specs.Laws.Lines.{no_bit}
use Rattle.format.specs.Policy.{Formula, node_kind, node_says}
use Rattle.format.specs.declared.kinds.NodeKind.{NodeKind}
use Rattle.format.specs.declared.kinds.NodeKind.TheVariants.{Bit as k_bit, R as k_r, E as k_e, Not as k_not, And as k_and, Or as k_or, Some as k_some, All as k_all, Tc as k_tc, Unknown as k_none}
use Rattle.format.specs.declared.kinds.Var.{Var}
use Rattle.format.specs.declared.kinds.Var.TheVariants.{X}
use Rattle.walks.specs.Laws.Walks.{map_walk}
use Rattle.lines.specs.declared.Op.{Op}
use Rattle.lines.specs.declared.Op.TheVariants.{Not, And, Or}
use Rattle.quantify.specs.declared.Ranging.{Ranging}
use Rattle.truth.specs.Truth.{Model, value, with_x, with_y, Truth}
use Rattle.lines.specs.Shapes.{op_bool, over, Quantifies, op_of, Plane, Source}
use Rattle.lines.specs.Laws.Quantified.{quantifies}
use Rattle.forms.specs.declared.Form.{Form}
use Rattle.forms.specs.declared.Form.TheVariants.{Both}
use Rattle.forms.specs.Forms.{place, Sources, joined, ranged, arranged, Stands, Reaches}
use Rattle.nodes.specs.declared.node.Node.{Node}
use Rattle.nodes.specs.declared.node.Node.TheVariants.{Bit, R, E, Join, Range, Over, Tc, Absent}
use Rattle.nodes.specs.Node.{plane_at, arity, Operand, node_of, operands, Needs, Sound, joins, ranges, says, form_at, joined_at, model_at, Shows, Makeable, NodeMade}
use Rattle.forms.specs.Laws.Forms.{lies_place, stands_as}
use Rattle.truth.specs.Laws.Tables.{not_iff, with_x-lt, with_y-lt}
use Rattle.basics.specs.Laws.Below.{any_iff, all_iff}

-- the plane of an earlier node ends before that of a later one starts
pub plane_before : (pitch j k : ℕ) → j < k → plane_at pitch j + plane_size pitch ≤ plane_at pitch k
plane_before pitch j k h = line_before (j + 2) (k + 2) (plane_size pitch) (omega arith)

-- the first two planes are the steps and their closure
pub plane_after : (pitch k : ℕ) → plane_size pitch + plane_size pitch ≤ plane_at pitch k
plane_after pitch k = let h : 2 ≤ k + 2 = omega arith in omega (arith, mul-le-mul_right (plane_size pitch) h)

-- offsets fit a machine number
pub offset_fits : (pitch k : ℕ) → pitch ≤ 128 → k < 256 → plane_at pitch k ≤ 33816576
offset_fits pitch k h l =
    let s : pitch * 8 ≤ 1024 = omega arith in
    let t : k + 2 ≤ 258 = omega arith in
    omega (arith, mul-le-mul_right pitch s, mul-le-mul_right (plane_size pitch) t)

and_says : {P Q : Type 0} (p q : Bool) → p ≡ true ↔ P → q ≡ true ↔ Q → (p && q) ≡ true ↔ (P × Q)
and_says true q e f = (λ t. (e.0 refl, f.0 t), λ t. f.1 t.1)
and_says false q e f = (λ t. absurd (false≢true t), λ t. e.1 t.0)

or_says : {P Q : Type 0} (p q : Bool) → p ≡ true ↔ P → q ≡ true ↔ Q → (p || q) ≡ true ↔ (P ⊎ Q)
or_says true q e f = (λ t. inl (e.0 refl), λ t. refl)
or_says false q e f = (λ t. inr (f.0 t), λ t. ⊎_elim (λ u. absurd (false≢true (e.1 u))) (λ u. f.1 u) t)

self_says : {P : Type 0} (p : Bool) → p ≡ true ↔ P → (p || p) ≡ true ↔ P
self_says true e = e
self_says false e = e

some_says : {P : ℕ → Type 0} (n : ℕ) (g : ℕ → Bool) → ((z : ℕ) → z < n → g z ≡ true ↔ P z) → over Or n g ≡ true ↔ ((z : ℕ) × (z < n) × P z)
unfolding over
some_says n g e = (
  λ t. let r = (any_iff n g).0 t in (r.0, r.1, (e r.0 r.1).0 r.2),
  λ r. (any_iff n g).1 (r.0, r.1, (e r.0 r.1).1 r.2),
)

all_says : {P : ℕ → Type 0} (n : ℕ) (g : ℕ → Bool) → ((z : ℕ) → z < n → g z ≡ true ↔ P z) → over And n g ≡ true ↔ ((z : ℕ) → z < n → P z)
unfolding over
all_says n g e = (λ t z h. (e z h).0 ((all_iff n g).0 t z h), λ r. (all_iff n g).1 (λ z h. (e z h).1 (r z h)))

-- what a node of a kind says, by its bytes 3 and 4
module _ (a b : ℕ) where
  pub of_says : (kind : NodeKind) (operand : ℕ → Formula) → says (node_of kind a b) operand ≡ node_says kind a b operand
  unfolding node_says
  of_says k_bit operand = refl
  of_says k_r operand = refl
  of_says k_e operand = refl
  of_says k_not operand = refl
  of_says k_and operand = refl
  of_says k_or operand = refl
  of_says k_some operand = refl
  of_says k_all operand = refl
  of_says k_tc operand = refl
  of_says k_none operand = refl

  -- its operands are byte 3, or bytes 3 and 4
  one : (kind : NodeKind) (j : ℕ) → 0 < arity kind → (j ≡ a) ⊎ (j ≡ a) → Operand kind a b j
  one kind j h o = inl (h, ⊎_elim (λ e. e) (λ e. e) o)

  two : (kind : NodeKind) (j : ℕ) → 0 < arity kind → 1 < arity kind → (j ≡ a) ⊎ (j ≡ b) → Operand kind a b j
  two kind j h l o = ⊎_elim (λ e. inl (h, e)) (λ e. inr (l, e)) o

  pub of_operand : (kind : NodeKind) (j : ℕ) → Needs (node_of kind a b) j → Operand kind a b j
  of_operand k_bit j o = absurd o
  of_operand k_r j o = absurd o
  of_operand k_e j o = absurd o
  of_operand k_not j o = one k_not j (omega arith) o
  of_operand k_and j o = two k_and j (omega arith) (omega arith) o
  of_operand k_or j o = two k_or j (omega arith) (omega arith) o
  of_operand k_some j o = one k_some j (omega arith) o
  of_operand k_all j o = one k_all j (omega arith) o
  of_operand k_tc j o = one k_tc j (omega arith) o
  of_operand k_none j o = absurd o

  -- it is sound if BIT names a bit of a number
  pub of_sound : (c : ℕ) → (c ≡ 0 → b < 64) → Sound (node_of (node_kind c) a b)
  unfolding node_kind
  of_sound zero h = h refl
  of_sound (suc zero) h = tt
  of_sound (suc (suc zero)) h = tt
  of_sound (suc (suc (suc zero))) h = tt
  of_sound (suc (suc (suc (suc zero)))) h = tt
  of_sound (suc (suc (suc (suc (suc zero))))) h = tt
  of_sound (suc (suc (suc (suc (suc (suc zero)))))) h = tt
  of_sound (suc (suc (suc (suc (suc (suc (suc zero))))))) h = tt
  of_sound (suc (suc (suc (suc (suc (suc (suc (suc zero)))))))) h = tt
  of_sound (suc (suc (suc (suc (suc (suc (suc (suc (suc c))))))))) h = tt

-- the nodes that a node is made of, a single one twice
module _ (n : Node) (p : ℕ × ℕ) (e : operands n ≡ Some p) where
  pub needs_first : Needs n p.0
  needs_first = rw e (inl refl)

  pub needs_second : Needs n p.1
  needs_second = rw e (inr refl)

  pub needs_only : (j : ℕ) → Needs n j → (j ≡ p.0) ⊎ (j ≡ p.1)
  needs_only j o = rw e at o

pub needs_none : (n : Node) → operands n ≡ None → (j : ℕ) → Needs n j → ⊥
needs_none n e j o = rw e at o

-- what an operation on two tests says, by what they say
join_truth : (m : Model) (t : Op) (p q : Bool) (f g : Formula) (x y : ℕ) → p ≡ true ↔ Truth m f x y → q ≡ true ↔ Truth m g x y → op_bool t p q ≡ true ↔ Truth m (joins t f g) x y
unfolding Truth
join_truth m Not p q f g x y s t = not_iff p s
join_truth m And p q f g x y s t = and_says p q s t
join_truth m Or p q f g x y s t = or_says p q s t

-- what a SOME or ALL says, by what is below it
range_truth : (m : Model) (o : Op) (v : Var) (g : ℕ → ℕ → Bool) (f : Formula) → Quantifies o
    → ((x y : ℕ) → x < m.count → y < m.count → g x y ≡ true ↔ Truth m f x y) → (x y : ℕ) → x < m.count → y < m.count
    → over o m.count (λ z. g (with_x v z x) (with_y v z y)) ≡ true ↔ Truth m (ranges o v f) x y
unfolding Truth
range_truth m Not v g f q s x y hx hy = absurd q
range_truth m And v g f q s x y hx hy = all_says m.count _ (λ z hz. s (with_x v z x) (with_y v z y) (with_x-lt v hz hx) (with_y-lt v hz hy))
range_truth m Or v g f q s x y hx hy = some_says m.count _ (λ z hz. s (with_x v z x) (with_y v z y) (with_x-lt v hz hx) (with_y-lt v hz hy))

module _ (n : Node) (forms : List (Option Form)) (k pitch : ℕ) (closed : Bool) (work : List ℕ) (M : Makeable n forms k pitch closed work) where
  pub own_plane : Plane work pitch (plane_at pitch k)
  own_plane = record { small = M.small; within = M.within }

  steps_source : Source work pitch (plane_at pitch k) 0
  steps_source = record { within = omega (arith, M.within, plane_after pitch k); apart = inl (omega (arith, plane_after pitch k)) }

  closure_source : Source work pitch (plane_at pitch k) (plane_size pitch)
  closure_source = record { within = omega (arith, M.within, plane_after pitch k); apart = inl (plane_after pitch k) }

  pub operand_source : (j : ℕ) → Needs n j → Source work pitch (plane_at pitch k) (place (form_at forms j))
  operand_source j o =
      let h = plane_before pitch j k (M.earlier j o) in
      lies_place (Source work pitch (plane_at pitch k)) pitch (plane_at pitch j) (form_at forms j) (M.lies j o)
      (record { within = omega (arith, M.within); apart = inl h }) steps_source closure_source

  pub joined_sources : (t : Op) (a b : ℕ) → Needs n a → Needs n b → Sources work pitch (plane_at pitch k) (joined_at forms t a b)
  joined_sources t a b p q = record { first = operand_source a p; second = operand_source b q }

  -- an operand is one of the 32 nodes
  pub operand_low : (j : ℕ) → Needs n j → j < 32
  operand_low j o = omega (arith, M.earlier j o, M.few)

module _ (forms : List (Option Form)) (k pitch : ℕ) (ext work : List ℕ) (f : Form) (after : List ℕ) where
  abbrev made_of : Node → Type 0
  made_of n = NodeMade forms n k pitch ext work f after

  abbrev model : Model
  model = model_at pitch ext work

  -- the form that is answered tests g
  abbrev Is : (ℕ → ℕ → Bool) → Type 0
  Is g = Stands g f pitch (plane_at pitch k) work after

  -- what the operands' forms say
  abbrev Told : Node → (ℕ → Formula) → Type 0
  Told n operand = (j : ℕ) → Needs n j → Shows model pitch (form_at forms j) work (operand j)

  -- a form that tests g, which is what the node says
  node_made : (n : Node) (g : ℕ → ℕ → Bool) → Is g
      → ((operand : ℕ → Formula) → Told n operand → (x y : ℕ) → x < pitch * 8 → y < pitch * 8 → g x y ≡ true ↔ Truth model (says n operand) x y)
      → made_of n
  node_made n g S s = record {
    len = S.len;
    lies = S.lies;
    shows = λ operand told. record {
      at = λ x y hx hy.
          let i = s operand told x y hx hy in
          let e = S.here x y hx hy in
          (λ t. i.0 (sym e ∙ t), λ t. e ∙ i.1 t);
    };
    rest = S.rest;
  }

  pub bit_node : (v : Var) (i : ℕ) → Is (λ x y. bit_of (value v x y) i) → made_of (Bit v i)
  unfolding Truth
  bit_node v i S = node_made (Bit v i) _ S (λ operand told x y hx hy. (λ t. t, λ t. t))

  pub step_node : (u v : Var) → Is (arranged u v (Both 0) work pitch) → made_of (R u v)
  unfolding Truth
  step_node u v S = node_made (R u v) _ S (λ operand told x y hx hy. (λ t. t, λ t. t))

  pub external_node : (v : Var) → Is (λ x y. bit ext (value v x y)) → made_of (E v)
  unfolding Truth
  external_node v S = node_made (E v) _ S (λ operand told x y hx hy. (λ t. t, λ t. t))

  pub join_node : (t : Op) (a b : ℕ) → Is (joined (joined_at forms t a b) work pitch) → made_of (Join t a b)
  join_node t a b S =
      node_made (Join t a b) _ S
      (λ operand told x y hx hy. join_truth model t _ _ (operand a) (operand b) x y ((told a (inl refl)).at x y hx hy) ((told b (inr refl)).at x y hx hy))

  pub range_node : (r : Ranging) (a : ℕ) → Is (ranged (op_of r.by) r.over (joined_at forms Or a a) work pitch) → made_of (Range r a)
  range_node r a S =
      node_made (Range r a) _ S
      (λ operand told. range_truth model (op_of r.by) r.over (joined (joined_at forms Or a a) work pitch) (operand a) (quantifies r.by)
      (λ x y hx hy. self_says _ ((told a (inl refl)).at x y hx hy)))

  pub over_node : (r : Ranging) (t : Op) (a b : ℕ) → Is (ranged (op_of r.by) r.over (joined_at forms t a b) work pitch) → made_of (Over r t a b)
  over_node r t a b S =
      node_made (Over r t a b) _ S
      (λ operand told. range_truth model (op_of r.by) r.over (joined (joined_at forms t a b) work pitch) (joins t (operand a) (operand b)) (quantifies r.by)
      (λ x y hx hy. join_truth model t _ _ (operand a) (operand b) x y ((told a (inl refl)).at x y hx hy) ((told b (inr refl)).at x y hx hy)))

  pub closure_node : (a : ℕ) (u v : Var) → Reaches u v (form_at forms a) f pitch (plane_at pitch k) work after → made_of (Tc a u v)
  unfolding Truth
  closure_node a u v P = record {
    len = P.len;
    lies = P.lies;
    shows = λ operand told. record {
      at = λ x y hx hy.
          let s = (told a (inl refl)).at in
          let r = P.here x y hx hy in (
            λ t. map_walk (λ i j hi hj. (s i j hi hj).0) (r.0 t),
            λ t. r.1 (map_walk (λ i j hi hj. (s i j hi hj).1) t),
          );
    };
    rest = P.rest;
  }

  pub no_node : Is (λ x y. bit (replicate 128 0) (value X x y)) → made_of Absent
  unfolding Truth
  no_node S =
      node_made Absent _ (stands_as _ (λ x y. false) f pitch (plane_at pitch k) work after (λ x y hx hy. no_bit 128 x) S)
      (λ operand told x y hx hy. (λ t. false≢true t, λ t. absurd t))
