-- What the route call has done, by whether a row refuses and by the route.
use borrow.Author.Tests.{le-ltb, lt-ltb, le-leb, lt-leb}
use mathlib.Core.Path.{◌≡◌, refl, sym, ap, ap₂, subst, ◌∙◌}
use mathlib.Core.Bool.{true}
use mathlib.Core.List.{List}
use mathlib.Core.Logic.{◌↔◌, inl}
use mathlib.Core.Option.{Option, none, some}
use Prim.Native.Nat.{ℕ, ◌+◌, ◌*◌, ◌<◌, ◌≤◌}
use native.Mathlib.Nat.{zero-add}
use native.Mathlib.Decide.{dec_lt}
use native.Mathlib.Omega.{arith}
use lib.ListN.{length, get_or}
use lib.Seq.{ext_get_or}
use Rattle.planes.specs.Plane.{cell, plane_size, Apart}
use Rattle.planes.specs.Lines.{Cleared, Made}
use Rattle.planes.specs.Laws.Lines.{plane_kept}
use Rattle.basics.specs.Lists.{member}
use Rattle.format.specs.Record.{Net, records, widths_of}
use Rattle.widths.specs.Widths.{states, within_limits, plane_bytes, line_bytes}
use Rattle.format.specs.Policy.{longest}
use Rattle.widths.specs.declared.Widths.{Widths}
use Rattle.format.specs.Laws.States.{whole_bytes, few_states}
use Rattle.refusals.specs.Rows.{work_needed}
use Rattle.refusals.specs.Refusal.{check_refusal}
use Rattle.scan.specs.declared.Layout.{Layout}
use Rattle.onestep.specs.Step.{next, Step}
use Rattle.steps.specs.Filled.{Filled}
use Rattle.verdict.specs.Judge.{Judgeable}
use Rattle.nodes.specs.Laws.NodePlanes.{plane_after}
use Rattle.verdict.specs.Laws.JudgedWork.{needed}
use Rattle.book.specs.Check.{cleared}
use Rattle.book.specs.Bytes.{WorkBytes}
use Rattle.book.specs.Laws.Bytes.{cleared_bytes}
use Rattle.std.specs.Prelude.{Option as Counted, Ok}
use Rattle.trails.specs.InNet.{route, route_is_meant, only_answer}
use Rattle.trails.specs.Route.{Is}
use Rattle.trails.specs.Laws.Meant.{is_same}
use Rattle.trails.specs.Answer.{refused, route_answer_of}
use Rattle.trails.specs.Call.{of_route, with_route, RouteCall, network_of, row14, row15, route_row, route_refusal, route_for, route_answer, list_after_call, work_after_call, RoutePromised}
use Rattle.trace.specs.Search.{Searchable, Steps, Drawn, entries, Shown}

-- two lists with the same bytes
same_bytes : (k : ℕ) (a b c : List ℕ) → WorkBytes k a b → WorkBytes k a c → b ≡ c
same_bytes k a b c p q = ext_get_or 0 b c (p.len ∙ sym q.len) (λ i h. at i (dec_lt i k))
  where
    at : (i : ℕ) → Dec (i < k) → get_or b i 0 ≡ get_or c i 0
    at i (yes h) = p.within i h ∙ sym (q.within i h)
    at i (no h) = p.behind i (omega (arith, h)) ∙ sym (q.behind i (omega (arith, h)))

-- a route's count answers for the route
counted_as : (o : Option (List ℕ)) → route_answer_of (Ok (entries o)) ≡ of_route o
counted_as none = refl
counted_as (some l) = refl

module _ (n : ℕ) (l : Layout) (store work : List ℕ) (J : Judgeable n l store work) where
  abbrev net : Net
  net = records n store

  abbrev w : Widths
  w = widths_of net

  widths_are : l.widths ≡ w
  widths_are = J.clean.laid.widths

  within : within_limits w ≡ true
  within = subst (λ (v : Widths). within_limits v ≡ true) widths_are J.clean.laid.limits

  bits : line_bytes w * 8 ≡ states w
  bits = sym (whole_bytes w within)

  -- the work that the code clears
  pub amount : (l.longest + 2) * plane_bytes l.widths ≡ work_needed net
  unfolding work_needed
  amount = ap₂ (λ (m : ℕ) (v : Widths). (m + 2) * plane_bytes v) J.clean.laid.longest widths_are

  -- two planes are always there
  two_planes : plane_size (line_bytes w) + plane_size (line_bytes w) ≤ work_needed net
  two_planes = omega (arith, needed net within, plane_after (line_bytes w) (longest net))

  module _ (pitch : ℕ) (e : pitch ≡ line_bytes l.widths) (b : List ℕ) (F : Filled net 0 work b) where
    line_is : pitch ≡ line_bytes w
    line_is = e ∙ ap line_bytes widths_are

    states_are : pitch * 8 ≡ states w
    states_are = ap (λ (k : ℕ). k * 8) line_is ∙ bits

    room : plane_size pitch + plane_size pitch ≤ work_needed net
    room = subst (λ (k : ℕ). plane_size k + plane_size k ≤ work_needed net) (sym line_is) two_planes

    small : pitch ≤ 128
    small = omega (arith, states_are, few_states w within)

    -- the steps that were filled can be exchanged
    pub exchangeable : Apart 0 (plane_size pitch) pitch (length b)
    exchangeable = record { narrow = small; first = omega (arith, room, J.room, F.len); second = omega (arith, room, J.room, F.len); apart = inl (omega arith) }

    module _ (c : List ℕ) (T : Made (λ x y. cell b 0 pitch y x) pitch (plane_size pitch) (pitch * 8) b c) where
      -- the steps are still those of before
      same_steps : (x y : ℕ) → x < pitch * 8 → y < pitch * 8 → cell c 0 pitch x y ≡ cell b 0 pitch x y
      same_steps = plane_kept 0 pitch b c (λ m lo hi. T.under m (omega arith))

      -- and then be searched
      searchable : Searchable pitch c
      searchable =
          record {
            small = small;
            room = omega (arith, room, J.room, F.len, T.len);
            turned = λ x y hx hy. T.here x y hx hy ∙ sym (same_steps y x hy hx);
          }

      -- from one state to another, into a list with room for the longest route
      pub drawable : (start end : ℕ) (list : List ℕ) → start < states l.widths → end < states l.widths → states l.widths + 1 ≤ length list
          → Searchable pitch c × (start < pitch * 8) × (end < pitch * 8) × (pitch * 8 + 1 ≤ length list)
      drawable start end list h k m =
          let q : pitch * 8 ≡ states l.widths = states_are ∙ ap states (sym widths_are) in
          (searchable, omega (arith, h, q), omega (arith, k, q), omega (arith, m, q))

      -- the steps are the network's
      steps_are : (x y : ℕ) → x < pitch * 8 → y < pitch * 8 → Steps c pitch x y ↔ Step net x y
      unfolding Step
      steps_are x y hx hy =
          let q = same_steps x y hx hy in
          let s = subst (λ (k : ℕ). Steps b k x y ↔ (member y (next net x) ≡ true)) (sym line_is) (λ t. sym f ∙ t, λ t. f ∙ t) in
          (λ t. s.0 (sym q ∙ t), λ t. q ∙ s.1 t)
        where
          f : cell b 0 (line_bytes w) x y ≡ member y (next net x)
          f = F.here x y (omega (arith, states_are)) (omega (arith, states_are, bits))

      -- what the search has found is the network's route
      module _ (start end : ℕ) (list : List ℕ) (count : Counted ℕ) (after : List ℕ) (D : Drawn c pitch start end list count after) where
        answer_is : D.answer ≡ route net start end
        answer_is =
            only_answer net start end D.answer (route net start end)
            (subst (λ (k : ℕ). Is k (Step net) start end D.answer) states_are
            (is_same (pitch * 8) (Steps c pitch) (Step net) steps_are start end D.answer D.meant))
            (route_is_meant net start end)

        list_is : after ≡ with_route (route net start end) list
        list_is = D.written ∙ ap (λ (o : Option (List ℕ)). with_route o list) answer_is

        counted : count ≡ entries (route net start end)
        counted = D.counted ∙ ap entries answer_is

        -- the work that a verdict needs is zero, and the rest as before
        work_is : (k : ℕ) (d : List ℕ) → k ≡ work_needed net → Cleared 0 k c d → d ≡ cleared (work_needed net) work
        work_is k d q C =
            same_bytes (work_needed net) work d (cleared (work_needed net) work) bytes (cleared_bytes (work_needed net) work J.room)
          where
            bytes : WorkBytes (work_needed net) work d
            bytes =
                record {
                  len = C.len ∙ T.len ∙ F.len;
                  within = λ j h. ap (λ (m : ℕ). get_or d m 0) (sym (zero-add j)) ∙ C.inside j (omega (arith, h, q));
                  behind = λ j h.
                      C.over j (omega (arith, h, q))
                      ∙ T.over j (omega (arith, h, room))
                      ∙ F.over j (omega (arith, h, two_planes, ap (λ (m : ℕ). m * line_bytes w) bits));
                }

        pub shown : (k : ℕ) (d : List ℕ) → k ≡ work_needed net → Cleared 0 k c d → Shown net start end work list count after d
        shown k d q C = record { answer = ap (λ (o : Counted ℕ). route_answer_of (Ok o)) counted ∙ counted_as (route net start end); lists = list_is; works = work_is k d q C }

-- the rows of a route call
module _ (c : RouteCall) where
  abbrev count : ℕ
  count = states (widths_of (network_of c))

  -- a refusal leaves the list and the work as they are
  pub route_refused : (number place : ℕ) → some (number, place) ≡ route_refusal c → RoutePromised c (refused number place) c.list c.work
  unfolding route_answer list_after_call work_after_call
  route_refused number place e = record { answered = rw (← e) refl; lists = rw (← e) refl; works = rw (← e) refl }

  pub refused_early : (number place : ℕ) → some (number, place) ≡ check_refusal c.store c.count (length c.work) → some (number, place) ≡ route_refusal c
  unfolding route_refusal
  refused_early number place e = rw (← e) refl

  module _ (passed : check_refusal c.store c.count (length c.work) ≡ none) where
    pub start_outside : count ≤ c.start → some (14, 0) ≡ route_refusal c
    unfolding route_refusal route_row row14
    start_outside h = rw (passed, le-leb count c.start h) refl

    module _ (inside : c.start < count) where
      pub end_outside : count ≤ c.end → some (14, 0) ≡ route_refusal c
      unfolding route_refusal route_row row14
      end_outside h = rw (passed, lt-leb count c.start inside, le-leb count c.end h) refl

      module _ (within : c.end < count) where
        pub list_short : length c.list < count + 1 → some (15, 0) ≡ route_refusal c
        unfolding route_refusal route_row row14 row15
        list_short h = rw (passed, lt-leb count c.start inside, lt-leb count c.end within, lt-ltb (length c.list) (count + 1) h) refl

        no_row : count + 1 ≤ length c.list → none ≡ route_refusal c
        unfolding route_refusal route_row row14 row15
        no_row h = rw (passed, lt-leb count c.start inside, lt-leb count c.end within, le-ltb (length c.list) (count + 1) h) refl

        -- what was shown is promised
        pub route_shown : count + 1 ≤ length c.list → (r : Counted ℕ) (list_after work_after : List ℕ)
            → Shown (network_of c) c.start c.end c.work c.list r list_after work_after → RoutePromised c (route_answer_of (Ok r)) list_after work_after
        unfolding route_answer list_after_call work_after_call route_for
        route_shown h r list_after work_after S =
            let e = no_row h in
            record { answered = rw (← e) S.answer; lists = rw (← e) S.lists; works = rw (← e) S.works }
