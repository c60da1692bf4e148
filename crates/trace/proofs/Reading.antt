-- The forward reading by distances: each state that is written is the route's.
use mathlib.Core.Path.{◌≡◌, refl, sym, ap, subst, ◌∙◌}
use mathlib.Core.Bool.{Bool, true}
use mathlib.Core.List.{List}
use mathlib.Core.Option as M
use mathlib.Core.Option.{none, some}
use Prim.Native.Nat.{ℕ, suc, ◌+◌, ◌-◌, ◌*◌, ◌<◌, ◌≤◌}
use native.Mathlib.Nat.{zero-add, not-suc-le-zero}
use native.Mathlib.Decide.{dec_lt}
use native.Mathlib.Omega.{arith}
use borrow.Author.Count.{below_more}
use lib.ListN.{length, get_or, set, length-set}
use lib.Seq.{get_or-set_same, get_or-set_other}
use Rattle.planes.specs.Plane.{cell}
use Rattle.planes.specs.Lines.{Put}
use Rattle.planes.specs.Laws.LaidBytes.{laid_more}
use Rattle.judgement.specs.Computed.{first_from}
use Rattle.judgement.specs.Laws.FirstState.{FirstPassing, first_is}
use Rattle.std.specs.Prelude.{Option, Some, None, IsSome}
use Rattle.trails.specs.Route.{Route}
use Rattle.trails.specs.Computed.{is_onward, or_count, next_state}
use Rattle.trails.specs.Laws.Meant.{route_short, route_by_lem}
use Rattle.trace.specs.Search.{Steps, NoneNearer, NearerAt, Nearer, route_along, Writable}
use Rattle.trails.specs.Laws.Onward.{onward_iff, onward_at, onward_length}
use Rattle.trails.specs.Laws.Searching.{at_distance, of_distance}

-- the smallest state that passes, or the count of the states
record Least (work : List ℕ) (pitch : ℕ) (ds : List ℕ) (x k y : ℕ) : Type 0 where
  within : y ≤ pitch * 8
  passes : y < pitch * 8 → (cell work 0 pitch x y ≡ true) × (get_or ds y 0 ≡ k)
  least : NoneNearer work pitch ds x k y

-- what the code finds is the next state
least_is : (work : List ℕ) (pitch : ℕ) (ds : List ℕ) (b x k y : ℕ) → 1 ≤ k → x < pitch * 8 → Least work pitch ds x k y
    → y ≡ next_state (pitch * 8) (cell work 0 pitch) ds b k x
unfolding next_state
least_is work pitch ds b x k y hk hx N = go (first_from S 0 test) (first_is S 0 test)
  where
    S : ℕ
    S = pitch * 8

    test : ℕ → Bool
    test = is_onward (cell work 0 pitch) ds b k x

    passes : (z : ℕ) → z < S → cell work 0 pitch x z ≡ true → get_or ds z 0 ≡ k → test z ≡ true
    passes z hz t e = (onward_iff S (Steps work pitch) (cell work 0 pitch) (λ x y hx hy. (λ e. e, λ e. e)) b ds k hx hz).1 (t, of_distance ds b k z hk e)

    fails : (z : ℕ) → z < S → z < y → test z ≡ true → ⊥
    fails z hz h t =
        let q = (onward_iff S (Steps work pitch) (cell work 0 pitch) (λ x y hx hy. (λ e. e, λ e. e)) b ds k hx hz).0 t in
        N.least.none z h q.0 (at_distance ds b k z hk q.1)

    go : (o : M.Option ℕ) → FirstPassing test 0 S o → y ≡ or_count S o
    go none f = at_end (dec_lt y S)
      where
        at_end : Dec (y < S) → y ≡ S
        at_end (yes h) = let p = N.passes h in absurd (f y (omega arith) (omega arith) (passes y h p.0 p.1))
        at_end (no h) = omega (arith, h, N.within)
    go (some z) f = at_first (dec_lt z y) (dec_lt y z)
      where
        hz : z < S
        hz = omega (arith, f.1)

        at_first : Dec (z < y) → Dec (y < z) → y ≡ z
        at_first (yes h) d = absurd (fails z hz h f.2)
        at_first (no h) (yes l) = let p = N.passes (omega arith) in absurd (f.3 y (omega arith) l (passes y (omega arith) p.0 p.1))
        at_first (no h) (no l) = omega (arith, h, l)

pub nearer_is : (work : List ℕ) (pitch : ℕ) (ds : List ℕ) (b x k y : ℕ) → 1 ≤ k → x < pitch * 8 → NearerAt work pitch ds x k y
    → y ≡ next_state (pitch * 8) (cell work 0 pitch) ds b k x
nearer_is work pitch ds b x k y hk hx N =
    least_is work pitch ds b x k y hk hx (record { within = omega (arith, N.within); passes = λ h. (N.steps, N.distance); least = N.least })

pub none_nearer : (work : List ℕ) (pitch : ℕ) (ds : List ℕ) (b x k : ℕ) → 1 ≤ k → x < pitch * 8 → NoneNearer work pitch ds x k (pitch * 8)
    → pitch * 8 ≡ next_state (pitch * 8) (cell work 0 pitch) ds b k x
none_nearer work pitch ds b x k hk hx N =
    least_is work pitch ds b x k (pitch * 8) hk hx (record { within = omega arith; passes = λ h. absurd (omega arith); least = N })

module _ (work : List ℕ) (pitch a b : ℕ) (ds list : List ℕ) (W : Writable work pitch a b ds list) where
  abbrev S : ℕ
  S = pitch * 8

  abbrev d : ℕ
  d = get_or ds a 0

  abbrev states : List ℕ
  states = route_along work pitch ds a b

  -- it is the route
  pub is_route : Route S (Steps work pitch) a b states
  is_route =
      let M = W.measured in
      route_by_lem S (Steps work pitch) (cell work 0 pitch) (λ x y hx hy. (λ e. e, λ e. e)) a b M.far ds M.near W.from W.some

  pub count : length states ≡ d + 1
  count = omega (arith, onward_length S (cell work 0 pitch) ds b d a)

  pub short : d ≤ S
  short = omega (arith, count, route_short S (Steps work pitch) is_route)

  pub below : (i : ℕ) → i ≤ d → get_or states i 0 < S
  below i h = is_route.path.below i (omega (arith, count))

  pub last : get_or states d 0 ≡ b
  last = let e : length states - 1 ≡ d = omega (arith, count) in ap (λ (n : ℕ). get_or states n 0) (sym e) ∙ is_route.path.last

  -- the first i states are written, and x is the last of them
  pub record Writing (x i : ℕ) (now : List ℕ) : Type 0 where
    pub one : 1 ≤ i
    pub bound : i ≤ d
    pub at : get_or states (i - 1) 0 ≡ x
    pub written : Put states 0 i list now

  -- one more entry
  pub entry : (i v : ℕ) (now : List ℕ) → i ≤ d → Put states 0 i list now → v ≡ get_or states i 0 → Put states 0 (i + 1) list (set now i v)
  entry i v now h P e =
      subst (λ (n : ℕ). Put states 0 (i + 1) list (set now n v)) (zero-add i)
      (laid_more _ 0 i (d + 1) list now P (omega arith) (omega (arith, short, W.room)) v e)

  -- the last of them is a state
  pub at_state : (x i : ℕ) (now : List ℕ) → Writing x i now → x < S
  at_state x i now I = subst (λ (n : ℕ). n < S) I.at (below (i - 1) (omega (arith, I.bound)))

  -- the next state of the route
  next_is : (x i : ℕ) (now : List ℕ) → Writing x i now → i < d → next_state S (cell work 0 pitch) ds b (d - i) x ≡ get_or states i 0
  next_is x i now I h =
      ap (next_state S (cell work 0 pitch) ds b (d - i)) (sym I.at)
      ∙ sym (onward_at S (cell work 0 pitch) ds b d a (i - 1) (d - i) (omega (arith, I.one, h)))
      ∙ ap (λ (n : ℕ). get_or states n 0) q
    where
      q : suc (i - 1) ≡ i
      q = omega (arith, I.one)

  pub writing_more : (x i y : ℕ) (now : List ℕ) → Writing x i now → i < d → NearerAt work pitch ds x (d - i) y → Writing y (i + 1) (set now i y)
  writing_more x i y now I h N =
      record {
        one = omega arith;
        bound = omega arith;
        at = ap (λ (n : ℕ). get_or states n 0) p ∙ sym e;
        written = entry i y now (omega arith) I.written e;
      }
    where
      p : i + 1 - 1 ≡ i
      p = omega arith

      e : y ≡ get_or states i 0
      e = nearer_is work pitch ds b x (d - i) y (omega arith) (at_state x i now I) N ∙ next_is x i now I h

  -- there is one
  pub not_none : (x i : ℕ) (now : List ℕ) → Writing x i now → i < d → NoneNearer work pitch ds x (d - i) S → ⊥
  not_none x i now I h N =
      omega (arith, none_nearer work pitch ds b x (d - i) (omega arith) (at_state x i now I) N, next_is x i now I h, below i (omega arith))

  pub some_nearer : (x i : ℕ) (now : List ℕ) → Writing x i now → i < d → (o : Option ℕ) → Nearer work pitch ds x (d - i) o → IsSome o
  some_nearer x i now I h None N = absurd (not_none x i now I h N)
  some_nearer x i now I h (Some y) N = refl

  -- the last entry is the end
  pub written_all : (x i : ℕ) (now : List ℕ) → Writing x i now → d ≤ i → Put states 0 (d + 1) list (set now d b)
  written_all x i now I h =
      let e : i ≡ d = omega (arith, I.bound) in
      entry d b now (omega arith) (subst (λ (n : ℕ). Put states 0 n list now) e I.written) (sym last)

-- the first entry is written before the loop
module _ (work : List ℕ) (pitch a b : ℕ) (ds list : List ℕ) (W : Writable work pitch a b ds list) where
  abbrev started : List ℕ
  started = set list 0 a

  pub still_writable : Writable work pitch a b ds started
  still_writable =
      record {
        plane = W.plane;
        from = W.from;
        to = W.to;
        measured = W.measured;
        some = W.some;
        room = omega (arith, W.room, length-set list 0 a);
      }

  pub writing_start : Writing work pitch a b ds started still_writable a 1 started
  writing_start =
      record {
        one = omega arith;
        bound = W.some;
        at = refl;
        written = record {
          len = refl;
          inside = below_more (λ (j : ℕ). get_or started (0 + j) 0 ≡ get_or (route_along work pitch ds a b) j 0) 0
              (λ j h. absurd (not-suc-le-zero h)) (get_or-set_same list 0 a 0 (omega (arith, W.room)));
          under = λ m h. refl;
          over = λ m h. refl;
        };
      }

  -- the entries behind the route are as before that too
  pub with_first : (n : ℕ) (after : List ℕ) → Put (route_along work pitch ds a b) 0 (n + 1) started after → Put (route_along work pitch ds a b) 0 (n + 1) list after
  with_first n after P =
      record {
        len = P.len ∙ length-set list 0 a;
        inside = P.inside;
        under = λ m k. absurd (not-suc-le-zero k);
        over = λ m k. P.over m k ∙ get_or-set_other list 0 m a 0 (λ q. omega (arith, q, k));
      }
