-- The step plane and the row of external states give the network's model; what is left of the work buffer.
use Rattle.std.specs.Prelude.{◌≡◌, refl, Bool, true, false, Option, List, ◌++◌, ℕ, ◌+◌, ◌-◌, ◌*◌, ◌/◌, ◌^◌, ◌≤◌, ◌<◌, length, get_or, drop, replicate}
use Rattle.std.proofs.Math.Path.{sym, ap₂}
use Rattle.std.proofs.Common.{ap, subst, ◌∙◌, inl, inr, ⊎_elim, mul_assoc, mul-one, mul-le-mul_left, mul-le-mul_right, arith, length-append, length-drop, pow-add, pow_mono, ext_get_or, get_or-append-add, get_or-drop}
use Rattle.std.proofs.lemmas.Bool.{false≢true}
use Rattle.std.proofs.Math.Decide.{dec_lt}
use Rattle.std.proofs.lemmas.List.{length-replicate, get_or-replicate}
use Rattle.std.proofs.Math.ListN.{get_or-append}
use Rattle.planes.specs.Plane.{cell, plane_size}
use Rattle.planes.specs.Lines.{Cleared}
use Rattle.planes.specs.Laws.Lines.{plane_kept}
use Rattle.walks.specs.Laws.Walks.{map_walk}
use Rattle.reaching.specs.Into.{ClosedInto}
use Rattle.format.specs.Record.{Net, records, widths_of}
use Rattle.widths.specs.Widths.{width, states, plane_bytes, within_limits, line_bytes}
use Rattle.format.specs.Policy.{longest}
use Rattle.refusals.specs.Rows.{work_needed}
use Rattle.widths.specs.declared.Widths.{Widths}
use Rattle.scan.specs.declared.Layout.{Layout}
use Rattle.widths.specs.Laws.Limits.{limits}
use Rattle.format.specs.Laws.States.{whole_bytes, few_states}
use Rattle.onestep.specs.Step.{Step, external}
use Rattle.steps.specs.Filled.{Filled}
use Rattle.judgement.specs.declared.Violation.{Violation}
use Rattle.lines.specs.Shapes.{Line, Plane}
use Rattle.nodes.specs.Node.{plane_at}
use Rattle.nodes.specs.Laws.NodePlanes.{plane_after}
use Rattle.scan.specs.Stored.{CleanStore}
use Rattle.verdict.specs.Judge.{verdict_of, Testable, StepsClosed, Searched, Judgeable, Judges}
use Rattle.judgement.specs.Judgement.{verdict, verdict_meant, only}

-- a plane has a row for each state
pub plane_bytes_lem : (w : Widths) → within_limits w ≡ true → plane_bytes w ≡ plane_size (line_bytes w)
unfolding plane_bytes states
plane_bytes_lem w e =
    let n = width w in
    let d : 2 * n ≡ n + n = omega arith in
    let r = 2 ^ n / 8 in
    let q : 2 ^ n ≡ r * 8 = whole_bytes w e in
    let p : 2 ^ (2 * n) ≡ r * 8 * r * 8 =
    ap (λ (i : ℕ). 2 ^ i) d ∙ pow-add 2 n n ∙ ap₂ ◌*◌ q q ∙ sym (mul_assoc (r * 8) r 8) in
    omega (arith, p)

-- the work that a network needs is that of its planes
pub needed : (net : Net) → within_limits (widths_of net) ≡ true → work_needed net ≡ plane_at (line_bytes (widths_of net)) (longest net)
unfolding work_needed
needed net e = ap (λ (n : ℕ). (longest net + 2) * n) (plane_bytes_lem (widths_of net) e)

-- the step plane is among it
pub first_plane : (w k : ℕ) → plane_size w ≤ plane_at w k
first_plane w k = let h : 1 ≤ k + 2 = omega arith in omega (arith, mul-le-mul_right (plane_size w) h)

-- a byte behind k zeros
behind_zeros : (k i : ℕ) (a : List ℕ) → k ≤ i → get_or (replicate k 0 ++ drop k a) i 0 ≡ get_or a i 0
behind_zeros k i a h =
    let e : length (replicate {A = ℕ} k 0) + (i - k) ≡ i = omega (arith, length-replicate {A = ℕ} k 0) in
    let f : k + (i - k) ≡ i = omega arith in
    ap (λ (j : ℕ). get_or (replicate k 0 ++ drop k a) j 0) (sym e)
    ∙ get_or-append-add (replicate k 0) (drop k a) (i - k) 0
    ∙ get_or-drop k a (i - k) 0
    ∙ ap (λ (j : ℕ). get_or a j 0) f

-- the step plane was closed into the second plane
pub steps_closed : (pitch : ℕ) (a b : List ℕ) → ClosedInto 0 (plane_size pitch) pitch a b → StepsClosed pitch a true b
steps_closed pitch a b C = record {
  len = C.len;
  reached = λ t x y hx hy. let r = C.reaches x y hx hy in (λ u. map_walk (λ i j hi hj s. stays i j hi hj ∙ s) (r.0 u), λ w. r.1 (map_walk (λ i j hi hj s. sym (stays i j hi hj) ∙ s) w));
  rest = λ m o. ⊎_elim (λ h. C.under m h) (λ h. C.over m h) o;
}
  where
    stays : (i j : ℕ) → i < pitch * 8 → j < pitch * 8 → cell b 0 pitch i j ≡ cell a 0 pitch i j
    stays = plane_kept 0 pitch a b (λ m lo hi. C.under m (omega arith))

-- the steps are closed in the second plane, and the policies can be tested as before
module _ (end : ℕ) (l : Layout) (bytes : ℕ) (b : List ℕ) (closed : Bool) (c : List ℕ) (S : StepsClosed bytes b closed c) where
  pub closing : (store ext : List ℕ) → Testable end l bytes store ext false b → Testable end l bytes store ext closed c
  closing store ext T = record {
    clean = T.clean;
    small = T.small;
    room = omega (arith, T.room, S.len);
    model = record {
      counts = T.model.counts;
      steps = λ x y hx hy.
          let e = plane_kept 0 bytes b c (λ m lo hi. S.rest m (inl (omega arith))) x y hx hy in
          let s = T.model.steps x y hx hy in
          (λ t. s.0 (sym e ∙ t), λ t. e ∙ s.1 t);
      externals = T.model.externals;
    };
    reached = S.reached;
  }

  pub searched_from : (net : Net) (r : Option Violation) (d : List ℕ) → Searched net bytes c r d → Searched net bytes b r d
  searched_from net r d K = record {
    len = K.len ∙ S.len;
    meant = K.meant;
    behind = λ m h. K.behind m h ∙ S.rest m (inr (omega (arith, plane_after bytes (longest net))));
  }

module _ (end : ℕ) (l : Layout) (store : List ℕ) where
  abbrev net : Net
  net = records end store

  abbrev own : Widths
  own = widths_of net

  module _ (C : CleanStore end l store) where
    within : within_limits own ≡ true
    within = subst (λ (w : Widths). within_limits w ≡ true) C.laid.widths C.laid.limits

    bits : line_bytes own * 8 ≡ states own
    bits = sym (whole_bytes own within)

    pub testable : (ext a b : List ℕ) → work_needed net ≤ length a → Line (external net) (states own) ext → Filled net 0 a b
        → Testable end l (line_bytes own) store ext false b
    unfolding Step
    testable ext a b h R F = record {
      clean = C;
      small = omega (arith, few_states own within);
      room = omega (arith, needed net within, F.len);
      model = record {
        counts = bits;
        steps = λ x y hx hy.
            let e = F.here x y (omega (arith, bits)) (omega (arith, bits)) in
            (λ t. sym e ∙ t, λ t. e ∙ t);
        externals = λ x hx. let e = R.is x (omega (arith, bits)) in (λ t. sym e ∙ t, λ t. e ∙ t);
      };
      reached = λ t. absurd (false≢true t);
    }

    abbrev k : ℕ
    k = work_needed net

    zeros : length (replicate {A = ℕ} k 0) ≡ k
    zeros = length-replicate k 0

    -- what is needed is cleared, and the rest stayed
    module _ (r : Option Violation) (a b c d : List ℕ) (h : k ≤ length a) (F : Filled net 0 a b) (S : Searched net (line_bytes own) b r c) (K : Cleared 0 k c d) where
      size : length d ≡ length (replicate k 0 ++ drop k a)
      size =
          let e = K.len ∙ S.len ∙ F.len in
          e ∙ sym (length-append (replicate k 0) (drop k a) ∙ ap₂ ◌+◌ zeros (length-drop k a) ∙ omega arith)

      at_byte : (i : ℕ) → Dec (i < k) → get_or d i 0 ≡ get_or (replicate k 0 ++ drop k a) i 0
      at_byte i (yes m) =
          let e : 0 + i ≡ i = omega arith in
          ap (λ (n : ℕ). get_or d n 0) (sym e) ∙ K.inside i m
          ∙ sym (get_or-append (replicate k 0) (drop k a) 0 i (omega (arith, zeros)) ∙ get_or-replicate k i 0 0 m)
      at_byte i (no m) =
          let n = needed net within in
          K.over i (omega arith)
          ∙ S.behind i (omega (arith, n))
          ∙ F.over i (omega (arith, n, first_plane (line_bytes own) (longest net), ap (λ (m : ℕ). m * line_bytes own) bits))
          ∙ sym (behind_zeros k i a (omega arith))

      pub left : d ≡ replicate k 0 ++ drop k a
      left = ext_get_or 0 d (replicate k 0 ++ drop k a) size (λ i hi. at_byte i (dec_lt i k))

a_byte : (w : Widths) → within_limits w ≡ true → 1 ≤ plane_bytes w
unfolding plane_bytes
a_byte w e =
    let l = limits w e in
    let h : 3 ≤ 2 * width w = omega arith in
    let p : 8 ≤ 2 ^ (2 * width w) = pow_mono h in
    omega arith

module _ (end : ℕ) (l : Layout) (store work : List ℕ) (J : Judgeable end l store work) where
  abbrev network : Net
  network = records end store

  widths_are : l.widths ≡ widths_of network
  widths_are = J.clean.laid.widths

  amount : (l.longest + 2) * plane_bytes l.widths ≡ work_needed network
  unfolding work_needed
  amount = ap₂ (λ (m : ℕ) (v : Widths). (m + 2) * plane_bytes v) J.clean.laid.longest widths_are

  pub enough : (pb : ℕ) → pb ≡ plane_bytes l.widths → (l.longest + 2) * pb ≤ length work
  enough pb e = omega (arith, ap (λ (n : ℕ). (l.longest + 2) * n) e, amount, J.room)

  pub most_fits : l.longest + 2 ≤ length work
  most_fits =
      let h = mul-le-mul_left (l.longest + 2) (a_byte l.widths J.clean.laid.limits) in
      omega (arith, mul-one (l.longest + 2), enough (plane_bytes l.widths) refl)

  pub step_room : plane_size (line_bytes l.widths) ≤ length work
  step_room =
      let e = plane_bytes_lem l.widths J.clean.laid.limits in
      omega (arith, enough (plane_size (line_bytes l.widths)) (sym e), first_plane (line_bytes l.widths) l.longest)

  module _ (n : ℕ) (e : n ≡ states l.widths) where
    row_is : n / 8 ≡ line_bytes (widths_of network)
    row_is = ap (λ (m : ℕ). m / 8) e ∙ ap line_bytes widths_are

    -- there is a second plane
    pub second_plane : (b : List ℕ) → length b ≡ length work → Plane b (n / 8) (plane_size (n / 8))
    second_plane b s =
        subst (λ (m : ℕ). Plane b m (plane_size m)) (sym (ap (λ (m : ℕ). m / 8) e))
        (record {
          small = omega (arith, few_states l.widths J.clean.laid.limits);
          within = omega (
            arith,
            enough (plane_size (line_bytes l.widths)) (sym (plane_bytes_lem l.widths J.clean.laid.limits)),
            plane_after (line_bytes l.widths) l.longest,
          );
        })

    pub search_ready : (ext b : List ℕ) (closed : Bool) (c : List ℕ) → Line (external network) n ext → Filled network 0 work b → StepsClosed (n / 8) b closed c
        → Testable end l (n / 8) store ext closed c
    search_ready ext b closed c R F S =
        closing end l (n / 8) b closed c S store ext
        (subst (λ (m : ℕ). Testable end l m store ext false b) (sym row_is)
        (testable end l store J.clean ext work b J.room (subst (λ (m : ℕ). Line (external network) m ext) (e ∙ ap states widths_are) R) F))

    pub judged : (k : ℕ) (r : Option Violation) (b : List ℕ) (closed : Bool) (b2 c d : List ℕ) → k ≡ (l.longest + 2) * plane_bytes l.widths → Filled network 0 work b
        → StepsClosed (n / 8) b closed b2 → Searched network (n / 8) b2 r c → Cleared 0 k c d → Judges network work r d
    judged k r b closed b2 c d q F E S2 K = let S = searched_from end l (n / 8) b closed b2 E network r c S2 in record {
      answer = only network (verdict_of r) (verdict network) S.meant (verdict_meant network);
      work =
          left end l store J.clean r work b c d J.room F (subst (λ (m : ℕ). Searched network m b r c) row_is S)
          (subst (λ (m : ℕ). Cleared 0 m c d) (q ∙ amount) K);
    }
