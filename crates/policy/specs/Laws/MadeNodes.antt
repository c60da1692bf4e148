-- Nodes worked out one after the other.
use Rattle.std.specs.Prelude.{Option, Some, None, IsSome, unwrap_or, ◌≡◌, refl, Bool, List, [], ◌↔◌, ℕ, zero, suc, ◌+◌, ◌-◌, ◌*◌, ◌≤◌, ◌<◌, length, get_or, drop, replicate, set}
use Rattle.std.proofs.Common.{sym, ap, ap₂, subst, ◌∙◌, inl, inr, ⊎_elim, arith, get_or-drop, get_or-set_same, get_or-set_other}
use Rattle.std.proofs.lemmas.Bool.{false≢true}
use Rattle.std.proofs.Math.Decide.{ℕ_discrete, dec_lt}
use Rattle.planes.specs.Plane.{On, plane_size}
use Rattle.planes.specs.Laws.Lines.{plane_kept}
use Rattle.format.specs.Record.{Rec, Net, at}
use Rattle.format.specs.Policy.{Formula, node_kind, first_nodes, formula}
use Rattle.format.specs.Laws.Records.{length_records, byte_of_lem}
use Rattle.noderows.specs.Laws.Formulas.{first_formula}
use Rattle.walks.specs.Laws.Walks.{map_walk}
use Rattle.lines.specs.declared.Op.{Op}
use Rattle.forms.specs.declared.Form.{Form}
use Rattle.forms.specs.declared.Form.TheVariants.{Both}
use Rattle.nodes.specs.declared.node.Node.{Node}
use Rattle.nodes.specs.declared.node.Node.TheVariants.{Join, Range, Over}
use Rattle.quantify.specs.declared.Ranging.{Ranging}
use Rattle.lines.specs.Shapes.{op_of, Outside, Plane}
use Rattle.forms.specs.Forms.{tests, place, Placed, Lies, Reached}
use Rattle.forms.specs.Laws.Forms.{lies_placed, lies_place, form_plane, tests_kept}
use Rattle.nodes.specs.Node.{plane_at, node_of, operands, Needs, joins, ranges, form_at, model_at, Shows, Makeable, NodeMade}
use Rattle.nodes.specs.Laws.NodePlanes.{plane_before, plane_after, of_says, of_operand, of_sound, needs_only, needs_none}
use Rattle.policy.specs.Evaluated.{nodes_at, node_at, Standing, Planned, IsMade, AllLie, PolicyReady, Asked, Worked, Given, NodeSettled, LowestPassing, LowestTrue, Tested}
use Rattle.judgement.specs.Laws.Same.{SameModel, same_truth}

-- two buffers with the same first two planes give the same model, and the second plane is the closure of the first in both
module _ (pitch : ℕ) (ext a b : List ℕ) (stayed : (m : ℕ) → m < plane_at pitch 0 → get_or b m 0 ≡ get_or a m 0) where
  stays : (p : ℕ) → p ≤ plane_size pitch → (x y : ℕ) → x < pitch * 8 → y < pitch * 8 → On a p pitch x y ↔ On b p pitch x y
  stays p h x y hx hy =
      let e = plane_kept p pitch a b (λ m lo hi. stayed m (omega (arith, plane_after pitch 0))) x y hx hy in
      (λ t. e ∙ t, λ t. sym e ∙ t)

  pub same_model : SameModel (model_at pitch ext a) (model_at pitch ext b)
  same_model = record {
    counts = refl;
    steps = λ x y hx hy. stays 0 (omega arith) x y hx hy;
    externals = λ x h. (λ t. t, λ t. t);
  }

  pub still_reached : Reached pitch a → Reached pitch b
  still_reached R x y hx hy =
      let s = stays (plane_size pitch) (omega arith) x y hx hy in
      let r = R x y hx hy in (
        λ t. map_walk (λ i j hi hj u. (stays 0 (omega arith) i j hi hj).0 u) (r.0 (s.1 t)),
        λ w. s.0 (r.1 (map_walk (λ i j hi hj u. (stays 0 (omega arith) i j hi hj).1 u) w)),
      )

  shows_in : (form : Form) (work : List ℕ) (f : Formula) → Shows (model_at pitch ext a) pitch form work f → Shows (model_at pitch ext b) pitch form work f
  shows_in form work f S = record {
    at = λ x y hx hy.
        let t = same_truth (model_at pitch ext a) (model_at pitch ext b) same_model f x y hx hy in
        let s = S.at x y hx hy in
        (λ u. t.0 (s.0 u), λ u. s.1 (t.1 u));
  }

-- a form whose bytes stayed shows what it showed
shows_kept : (m : _) (pitch : ℕ) (form : Form) (a b : List ℕ) (f : Formula) → ((i : ℕ) → place form ≤ i → i < place form + plane_size pitch → get_or b i 0 ≡ get_or a i 0)
    → Shows m pitch form a f → Shows m pitch form b f
shows_kept m pitch form a b f h S = record {
  at = λ x y hx hy.
      let e = tests_kept pitch a b form h x y hx hy in
      let s = S.at x y hx hy in
      (λ t. s.0 (sym e ∙ t), λ t. e ∙ s.1 t);
}

-- node k was made, and its form is kept
pub with_form : (forms : List (Option Form)) (n : Node) (k pitch : ℕ) (ext before : List ℕ) (f : Form) (after : List ℕ) → k < length forms
    → NodeMade forms n k pitch ext before f after → NodeSettled forms n k pitch ext before (set forms k (Some f)) after
with_form forms n k pitch ext before f after h M = record {
  form = f;
  kept = get_or-set_same forms k (Some f) None h;
  made = M;
  others = λ j ne. get_or-set_other forms k j (Some f) None ne;
}

-- the lowest state at which a form that is the truth of a formula passes
lowest_true : (pitch : ℕ) (f : Form) (ext model work : List ℕ) (g : Formula) → Shows (model_at pitch ext model) pitch f work g
    → (r : Option ℕ) → LowestPassing (pitch * 8) (λ x. tests f work pitch x 0) r → LowestTrue (model_at pitch ext model) g r
lowest_true pitch f ext model work g S (Some x) t =
    let h : x < pitch * 8 = t.0 in
    (h, (S.at x 0 h (omega arith)).0 t.1, λ z l u. t.2 z l ((S.at z 0 (omega (arith, l, h)) (omega (arith, h))).1 u))
lowest_true pitch f ext model work g S None t = λ z h u. t z h ((S.at z 0 h (omega (arith, h))).1 u)

-- a form of the last node lies within the buffer
pub last_plane : (store : List ℕ) (start count pitch : ℕ) (closed : Bool) (work after : List ℕ) (f : Form) → length after ≡ length work → PolicyReady store start count pitch closed work → 0 < count
    → Placed pitch (plane_at pitch (count - 1)) f → Plane after pitch (place f)
last_plane store start count pitch closed work after f e R h L =
    let l : count - 1 < count = omega arith in
    form_plane after pitch (plane_at pitch (count - 1)) f L
    (record { small = R.small; within = omega (arith, R.room, e, plane_before pitch (count - 1) count l) })
    (plane_after pitch (count - 1))

-- the one that is kept is held
module _ (store : List ℕ) (start count pitch : ℕ) (ext : List ℕ) (closed : Bool) (work : List ℕ) (m0 m1 : List (Option Form)) (after : List ℕ) (R : PolicyReady store start count pitch closed work) (h : 0 < count)
    (G : Given (nodes_at store start count) pitch ext (count - 1) m0 work m1 after) (f : Form) (e : get_or m1 (count - 1) None ≡ Some f) where
  last_held : Placed pitch (plane_at pitch (count - 1)) f × Shows (model_at pitch ext work) pitch f after (formula (nodes_at store start count) (count - 1))
  last_held =
      let many = length_records count (drop (start * 24) store) in
      G.worked.held (count - 1) (omega (arith, many)) f e

  pub kept_plane : Plane after pitch (place f)
  kept_plane = last_plane store start count pitch closed work after f G.worked.len R h last_held.0

  pub last_tested : (r : Option ℕ) → LowestPassing (pitch * 8) (λ x. tests f after pitch x 0) r → Tested (nodes_at store start count) pitch ext work r after
  last_tested r L =
      let many = length_records count (drop (start * 24) store) in
      let last : count - 1 ≡ length (nodes_at store start count) - 1 = omega (arith, many) in
      record {
        len = G.worked.len;
        lowest =
            subst (λ (i : ℕ). LowestTrue (model_at pitch ext work) (formula (nodes_at store start count) i) r) last
            (lowest_true pitch f ext work after (formula (nodes_at store start count) (count - 1)) last_held.1 r L);
        planes = G.worked.planes;
        behind = G.worked.behind;
      }

-- no node is made
none_made : (n j : ℕ) → get_or {A = Option Form} (replicate n None) j None ≡ None
none_made zero j = refl
none_made (suc n) zero = refl
none_made (suc n) (suc j) = none_made n j

not_none : (q : Option Form) (f : Form) → q ≡ None → q ≡ Some f → ⊥
not_none q f e h = false≢true (subst IsSome (sym h ∙ e) refl)

-- the last node is asked for, where none is made
pub ask_last : (store : List ℕ) (start count : ℕ) (ext : List ℕ) (closed : Bool) (work : List ℕ) (pitch : ℕ) → PolicyReady store start count pitch closed work → 0 < count
    → Asked store start count ext closed work pitch (count - 1) (replicate 32 None)
ask_last store start count ext closed work pitch R h =
    record { ready = R; inside = omega arith; held = λ j l f t. absurd (not_none _ f (none_made 32 j) t) }

-- the nodes that stand in a store
module _ (store : List ℕ) (start count : ℕ) (R : Standing store start count) where
  abbrev nodes : Net
  nodes = nodes_at store start count

  many : length nodes ≡ count
  many = length_records count (drop (start * 24) store)

  module _ (k : ℕ) (inside : k < count) where
    abbrev own : Rec
    own = get_or nodes k []

    own_byte : (i : ℕ) → i < 24 → at own i ≡ get_or store ((start + k) * 24 + i) 0
    own_byte i h =
        let e : start * 24 + (k * 24 + i) ≡ (start + k) * 24 + i = omega arith in
        byte_of_lem count (drop (start * 24) store) k i inside h
        ∙ get_or-drop (start * 24) store (k * 24 + i) 0
        ∙ ap (λ (n : ℕ). get_or store n 0) e

    node_own : node_of (node_kind (at own 2)) (at own 3) (at own 4) ≡ node_at store (start + k)
    node_own = rw (own_byte 2 (omega arith), own_byte 3 (omega arith), own_byte 4 (omega arith)) refl

    record_planned : Planned nodes k (node_of (node_kind (at own 2)) (at own 3) (at own 4))
    unfolding formula
    record_planned = record {
      means = of_says (at own 3) (at own 4) (node_kind (at own 2)) (first_nodes nodes k);
      earlier = λ j o. R.sound.earlier k (omega (arith, inside, many)) j (of_operand (at own 3) (at own 4) (node_kind (at own 2)) j o);
      sound = of_sound (at own 3) (at own 4) (at own 2) (R.sound.bits k (omega (arith, inside, many)));
    }

    -- node k as it stands in its record
    pub own_planned : Planned nodes k (node_at store (start + k))
    own_planned = subst (Planned nodes k) node_own record_planned

  -- a SOME or ALL, k, over a node m
  module _ (k : ℕ) (inside : k < count) (r : Ranging) (m : ℕ) (is : node_at store (start + k) ≡ Range r m) where
    pub upper : Planned nodes k (Range r m)
    upper = subst (Planned nodes k) is (own_planned k inside)

    pub below : m < k
    below = upper.earlier m (inl refl)

    -- that is an operation on p and q
    module _ (t : Op) (p q : ℕ) (joins_is : node_at store (start + m) ≡ Join t p q) where
      lower : Planned nodes m (Join t p q)
      lower = subst (Planned nodes m) joins_is (own_planned m (omega (arith, below, inside)))

      same_below : (j : ℕ) → j < m → first_nodes nodes k j ≡ first_nodes nodes m j
      same_below j h = first_formula nodes k j (omega (arith, h, below)) ∙ sym (first_formula nodes m j h)

      pub over_planned : Planned nodes k (Over r t p q)
      over_planned = record {
        means =
            ap (ranges (op_of r.by) r.over)
            (ap₂ (joins t) (same_below p (lower.earlier p (inl refl))) (same_below q (lower.earlier q (inr refl)))
            ∙ lower.means
            ∙ sym (first_formula nodes k m below))
            ∙ upper.means;
        earlier = λ j h. omega (arith, lower.earlier j h, below);
        sound = tt;
      }

module _ (nodes : Net) (pitch : ℕ) (ext : List ℕ) where
  pub worked_then : (m0 m1 m2 : List (Option Form)) (a b c : List ℕ) → Worked nodes pitch ext m0 a m1 b → Worked nodes pitch ext m1 b m2 c → Worked nodes pitch ext m0 a m2 c
  worked_then m0 m1 m2 a b c W U = record {
    len = U.len ∙ W.len;
    kept = λ j h. U.kept j (W.kept j h);
    held = λ j h f t. let H = U.held j h f t in (H.0, shows_in pitch ext b a (λ m l. sym (W.planes m l)) _ _ _ H.1);
    lies = λ l. U.lies (W.lies l);
    planes = λ m h. U.planes m h ∙ W.planes m h;
    behind = λ m h. U.behind m h ∙ W.behind m h;
  }

module _ (store : List ℕ) (start count : ℕ) (ext : List ℕ) (closed : Bool) (work : List ℕ) (pitch k : ℕ) (m0 : List (Option Form)) (A : Asked store start count ext closed work pitch k m0) where
  abbrev all_nodes : Net
  all_nodes = nodes_at store start count

  all_many : length all_nodes ≡ count
  all_many = length_records count (drop (start * 24) store)

  pub standing : Standing store start count
  standing = record { stored = A.ready.stored; sound = A.ready.sound; few = A.ready.few }

  pub worked_none : Worked all_nodes pitch ext m0 work m0 work
  worked_none = record { len = refl; kept = λ j h. h; held = A.held; lies = λ l. l; planes = λ m h. refl; behind = λ m h. refl }

  -- an operand is asked for
  pub ask : (m1 : List (Option Form)) (j : ℕ) (b : List ℕ) → Worked all_nodes pitch ext m0 work m1 b → j < k → Asked store start count ext closed b pitch j m1
  ask m1 j b W h = record {
    ready = record {
      stored = A.ready.stored;
      sound = A.ready.sound;
      few = A.ready.few;
      small = A.ready.small;
      room = omega (arith, A.ready.room, W.len);
      reached = λ t. still_reached pitch ext work b W.planes (A.ready.reached t);
    };
    inside = omega (arith, A.inside);
    held = λ i l f t. let H = W.held i l f t in (H.0, shows_in pitch ext work b W.planes _ _ _ H.1);
  }

  -- the nodes that a node is made of are made
  pub record OperandsMade (n : Node) (m1 : List (Option Form)) (b : List ℕ) : Type 0 where
    pub worked : Worked all_nodes pitch ext m0 work m1 b
    pub made : (j : ℕ) → Needs n j → IsMade m1 j

  pub none_needed : (n : Node) → operands n ≡ None → OperandsMade n m0 work
  none_needed n e = record { worked = worked_none; made = λ j o. absurd (needs_none n e j o) }

  pub both_made : (n : Node) (p : ℕ × ℕ) → operands n ≡ Some p → (m1 m2 : List (Option Form)) (b c : List ℕ) → Given all_nodes pitch ext p.0 m0 work m1 b → Given all_nodes pitch ext p.1 m1 b m2 c
      → OperandsMade n m2 c
  both_made n p e m1 m2 b c G H = record {
    worked = worked_then all_nodes pitch ext m0 m1 m2 work b c G.worked H.worked;
    made = λ j o. ⊎_elim (λ q. subst (IsMade m2) (sym q) (H.worked.kept p.0 G.made)) (λ q. subst (IsMade m2) (sym q) H.made) (needs_only n p e j o);
  }

  -- node k is made of earlier nodes; what is read of one that is not made is the form of the steps
  module _ (n : Node) (P : Planned all_nodes k n) (m1 : List (Option Form)) (b : List ℕ) (W : Worked all_nodes pitch ext m0 work m1 b) where
    kept_placed : (j : ℕ) → j < length all_nodes → (q : Option Form) → get_or m1 j None ≡ q → Placed pitch (plane_at pitch j) (unwrap_or q (Both 0))
    kept_placed j h (Some f) e = (W.held j h f e).0
    kept_placed j h None e = inr (inl refl)

    operand_placed : (j : ℕ) → Needs n j → Placed pitch (plane_at pitch j) (form_at m1 j)
    operand_placed j o = kept_placed j (omega (arith, P.earlier j o, A.inside, all_many)) (get_or m1 j None) refl

    pub makeable : Makeable n m1 k pitch closed b
    makeable = record {
      few = omega (arith, A.inside, A.ready.few);
      small = A.ready.small;
      within = omega (arith, plane_before pitch k count A.inside, A.ready.room, W.len);
      earlier = P.earlier;
      lies = operand_placed;
      sound = P.sound;
      reached = λ t. still_reached pitch ext work b W.planes (A.ready.reached t);
    }

  -- which are made
  module _ (n : Node) (P : Planned all_nodes k n) (m1 : List (Option Form)) (b : List ℕ) (U : OperandsMade n m1 b) where
    W : Worked all_nodes pitch ext m0 work m1 b
    W = U.worked

    operand_held : (j : ℕ) → Needs n j → Placed pitch (plane_at pitch j) (form_at m1 j) × Shows (model_at pitch ext work) pitch (form_at m1 j) b (formula all_nodes j)
    operand_held j o =
        let m = U.made j o in
        let e = ap (λ (q : Option Form). unwrap_or q (Both 0)) m.1 in
        let H = W.held j (omega (arith, P.earlier j o, A.inside, all_many)) m.0 m.1 in
        (subst (Placed pitch (plane_at pitch j)) (sym e) H.0, subst (λ (f : Form). Shows (model_at pitch ext work) pitch f b (formula all_nodes j)) (sym e) H.1)

    module _ (m2 : List (Option Form)) (c : List ℕ) (S : NodeSettled m1 n k pitch ext b m2 c) where
      operand_shows : (j : ℕ) → Needs n j → Shows (model_at pitch ext b) pitch (form_at m1 j) b (first_nodes all_nodes k j)
      operand_shows j o =
          subst (λ (f : Formula). Shows (model_at pitch ext b) pitch (form_at m1 j) b f) (sym (first_formula all_nodes k j (P.earlier j o)))
          (shows_in pitch ext work b W.planes _ _ _ (operand_held j o).1)

      own_shows : Shows (model_at pitch ext work) pitch S.form c (formula all_nodes k)
      own_shows =
          subst (λ (f : Formula). Shows (model_at pitch ext work) pitch S.form c f) P.means
          (shows_in pitch ext b work (λ m h. sym (W.planes m h)) _ _ _ (S.made.shows (first_nodes all_nodes k) operand_shows))

      -- the plane of another node, and the first two
      beside_own : (j : ℕ) → (j ≡ k → ⊥) → (i : ℕ) → plane_at pitch j ≤ i → i < plane_at pitch j + plane_size pitch → get_or c i 0 ≡ get_or b i 0
      beside_own j ne i lo hi = S.made.rest i (go (dec_lt j k))
        where
          go : Dec (j < k) → Outside pitch (plane_at pitch k) i
          go (yes h) = inl (omega (arith, plane_before pitch j k h))
          go (no g) = let h : k < j = omega (arith, ne) in inr (omega (arith, plane_before pitch k j h))

      before_own : (p : ℕ) → p ≤ plane_size pitch → (i : ℕ) → p ≤ i → i < p + plane_size pitch → get_or c i 0 ≡ get_or b i 0
      before_own p h i lo hi = S.made.rest i (inl (omega (arith, plane_after pitch k)))

      other_form : (j : ℕ) → (j ≡ k → ⊥) → (f : Form) → Placed pitch (plane_at pitch j) f → (i : ℕ) → place f ≤ i → i < place f + plane_size pitch → get_or c i 0 ≡ get_or b i 0
      other_form j ne f L =
          lies_place (λ p. (i : ℕ) → p ≤ i → i < p + plane_size pitch → get_or c i 0 ≡ get_or b i 0) pitch (plane_at pitch j) f L
          (beside_own j ne) (before_own 0 (omega arith)) (before_own (plane_size pitch) (omega arith))

      abbrev HeldAt : ℕ → Form → Type 0
      HeldAt j f = Placed pitch (plane_at pitch j) f × Shows (model_at pitch ext work) pitch f c (formula all_nodes j)

      same_form : (j : ℕ) → (f : Form) → get_or m2 j None ≡ Some f → j ≡ k → S.form ≡ f
      same_form j f t e = ap (λ (q : Option Form). unwrap_or q f) (sym S.kept ∙ ap (λ (i : ℕ). get_or m2 i None) (sym e) ∙ t)

      held_at : (j : ℕ) → j < length all_nodes → (f : Form) → get_or m2 j None ≡ Some f → Dec (j ≡ k) → HeldAt j f
      held_at j h f t (yes e) =
          subst (λ (i : ℕ). HeldAt i f) (sym e) (subst (HeldAt k) (same_form j f t e) (lies_placed S.form pitch (plane_at pitch k) S.made.lies, own_shows))
      held_at j h f t (no e) =
          let H = W.held j h f (sym (S.others j e) ∙ t) in
          (H.0, shows_kept _ pitch f b c _ (other_form j e f H.0) H.1)

      lies_at : AllLie pitch m1 → (j : ℕ) → (f : Form) → get_or m2 j None ≡ Some f → Dec (j ≡ k) → Lies pitch (plane_at pitch j) f
      lies_at l j f t (yes e) = subst (λ (i : ℕ). Lies pitch (plane_at pitch i) f) (sym e) (subst (Lies pitch (plane_at pitch k)) (same_form j f t e) S.made.lies)
      lies_at l j f t (no e) = l j f (sym (S.others j e) ∙ t)

      still_made : (j : ℕ) → IsMade m1 j → Dec (j ≡ k) → IsMade m2 j
      still_made j h (yes e) = (S.form, ap (λ (i : ℕ). get_or m2 i None) e ∙ S.kept)
      still_made j h (no e) = (h.0, S.others j e ∙ h.1)

      pub settled : Given all_nodes pitch ext k m0 work m2 c
      settled = record {
        worked = record {
          len = S.made.len ∙ W.len;
          kept = λ j h. still_made j (W.kept j h) (ℕ_discrete j k);
          held = λ j h f t. held_at j h f t (ℕ_discrete j k);
          lies = λ l j f t. lies_at (W.lies l) j f t (ℕ_discrete j k);
          planes = λ m h. S.made.rest m (inl (omega (arith, plane_after pitch k))) ∙ W.planes m h;
          behind = λ m h.
              let l : plane_at pitch count ≤ m = subst (λ (i : ℕ). plane_at pitch i ≤ m) all_many h in
              S.made.rest m (inr (omega (arith, plane_before pitch k count A.inside))) ∙ W.behind m h;
        };
        made = (S.form, S.kept);
      }
