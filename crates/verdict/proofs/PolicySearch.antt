-- Policies tested one after the other, in ascending order.
use mathlib.Core.Path.{◌≡◌, refl, sym, ap, subst, ◌∙◌}
use mathlib.Core.Bool.{Bool}
use mathlib.Core.List.{List}
use mathlib.Core.Logic.{◌↔◌}
use Prim.Native.Nat.{ℕ, ◌+◌, ◌-◌, ◌*◌, ◌≤◌, ◌<◌}
use native.Mathlib.Nat.{mul-le-mul_right}
use native.Mathlib.Omega.{arith}
use borrow.Author.Count.{below_more}
use native.Mathlib.Decide.{dec_lt}
use lib.ListN.{length, get_or, take, drop}
use Rattle.planes.specs.Plane.{plane_size}
use Rattle.format.specs.Record.{Net, records, widths_of}
use Rattle.widths.specs.Widths.{states}
use Rattle.format.specs.Policy.{formula, nodes_of, policy_count, forbidden, longest}
use Rattle.scan.specs.declared.Layout.{Layout}
use Rattle.format.specs.Laws.Records.{length_records}
use Rattle.std.specs.Prelude.{Some, None}
use Rattle.truth.specs.Truth.{Truth}
use Rattle.judgement.specs.Verdict.{Breaks, Holds, Lowest}
use Rattle.nodes.specs.Node.{plane_at, model_at}
use Rattle.policy.specs.Evaluated.{nodes_at, PolicyReady, Tested}
use Rattle.scan.specs.Stored.{CleanStore}
use Rattle.verdict.specs.Judge.{policy_at, Run, Testable}
use Rattle.judgement.specs.Laws.Same.{same_truth}
use Rattle.policy.specs.Laws.MadeNodes.{same_model, still_reached}
use Rattle.scan.specs.Laws.PassedRecords.{up_to_lem}
use Rattle.verdict.proofs.PolicyRuns.{counted_end, counted_first, first_named, counted_stop, next_named, nodes_are, few_nodes, a_policy, sound_nodes, at_most_longest}
use Rattle.judgement.specs.Model.{model_of}

-- the policies below p, whose nodes stand before record start, are not broken; the buffer keeps its first two planes and what lies behind its planes
pub record Passed (store : List ℕ) (first last end bytes start p : ℕ) (before after : List ℕ) : Type 0 where
  pub from : first ≤ start
  pub up_to : start ≤ last
  pub count : p ≡ policy_count (take start (records end store))
  pub fresh : start < last → policy_at store start ≡ p
  pub unbroken : (q : ℕ) → q < p → (z : ℕ) → z < states (widths_of (records end store)) → Breaks (records end store) q z → ⊥
  pub len : length after ≡ length before
  pub planes : (m : ℕ) → m < plane_at bytes 0 → get_or after m 0 ≡ get_or before m 0
  pub behind : (m : ℕ) → plane_at bytes (longest (records end store)) ≤ m → get_or after m 0 ≡ get_or before m 0

-- the plane of a node is not behind that of a later one
plane_mono : (w j k : ℕ) → j ≤ k → plane_at w j ≤ plane_at w k
plane_mono w j k h = let l : j + 2 ≤ k + 2 = omega arith in mul-le-mul_right (plane_size w) l

module _ (end : ℕ) (l : Layout) (bytes : ℕ) (store ext : List ℕ) (closed : Bool) (work : List ℕ) (T : Testable end l bytes store ext closed work) where
  abbrev net : Net
  net = records (end) store

  C : CleanStore end l store
  C = T.clean

  pub passed_none : Passed store l.nodes l.groups end bytes l.nodes 0 work work
  passed_none = record {
    from = omega arith;
    up_to = (up_to_lem end l store C).0;
    count = sym (counted_first end l store C);
    fresh = first_named end l store C;
    unbroken = λ q h. absurd (omega arith);
    len = refl;
    planes = λ m h. refl;
    behind = λ m h. refl;
  }

  pub stored : end * 24 ≤ length store
  stored = C.room

  module _ (start stop p : ℕ) (b : List ℕ) (P : Passed store l.nodes l.groups end bytes start p work b) (h : start < l.groups) (R : Run store start l.groups stop) where
    abbrev nodes : Net
    nodes = nodes_at store start (stop - start)

    are : nodes_of p net ≡ nodes
    are = nodes_are end l store C start stop p R P.from P.count (P.fresh h)

    many : length nodes ≡ stop - start
    many = length_records (stop - start) (drop (start * 24) store)

    short : plane_at bytes (length nodes) ≤ plane_at bytes (longest net)
    short =
        plane_mono bytes (length nodes) (longest net)
        (omega (arith, ap length are, at_most_longest net p (a_policy end l store C start stop p R P.from P.count (P.fresh h))))

    pub ready : PolicyReady store start (stop - start) bytes closed b
    ready = record {
      stored = omega (arith, stored, R.some, R.up_to, up_to_lem end l store C);
      sound = sound_nodes end l store C start stop p R P.from P.count (P.fresh h);
      few = few_nodes end l store C start stop p R P.from P.count (P.fresh h);
      small = T.small;
      room = omega (arith, short, ap (plane_at bytes) many, T.room, P.len);
      reached = λ t. still_reached bytes ext work b P.planes (T.reached t);
    }

    -- the truth of the forbidden condition, in the buffer's model and in the network's
    breaks : (x : ℕ) → x < bytes * 8 → Truth (model_at bytes ext b) (formula nodes (length nodes - 1)) x 0 ↔ Breaks net p x
    unfolding forbidden
    breaks x hx =
        subst (λ (ns : Net). Truth (model_at bytes ext b) (formula nodes (length nodes - 1)) x 0 ↔ Truth (model_of net) (formula ns (length ns - 1)) x 0) (sym are)
        (let f = formula nodes (length nodes - 1) in
        let s = same_truth (model_at bytes ext work) (model_at bytes ext b) (same_model bytes ext work b P.planes) f x 0 hx (omega arith) in
        let t = same_truth (model_at bytes ext work) (model_of net) T.model f x 0 hx (omega arith) in
        (λ u. t.0 (s.1 u), λ u. s.0 (t.1 u)))

    same_count : bytes * 8 ≡ states (widths_of net)
    same_count = T.model.counts

    module _ (r : _) (c : List ℕ) (D : Tested nodes bytes ext b r c) where
      pub lens : length c ≡ length work
      lens = D.len ∙ P.len

      pub kept_behind : (m : ℕ) → plane_at bytes (longest net) ≤ m → get_or c m 0 ≡ get_or work m 0
      kept_behind m k = D.behind m (omega (arith, short)) ∙ P.behind m k

    -- none breaks policy p: on to the next
    pub passed_more : (c : List ℕ) → Tested nodes bytes ext b None c → Passed store l.nodes l.groups end bytes stop (p + 1) work c
    passed_more c D = record {
      from = omega (arith, P.from, R.some);
      up_to = R.up_to;
      count = let e = counted_stop end l store C start stop p R P.from P.count (P.fresh h) in omega (arith, e);
      fresh = λ k. next_named end l store C start stop p R P.from P.count (P.fresh h) k ∙ omega arith;
      unbroken = below_more (λ (q : ℕ). (z : ℕ) → z < states (widths_of net) → Breaks net q z → ⊥) p P.unbroken
          (λ z k u. let m : z < bytes * 8 = omega (arith, same_count) in D.lowest z m ((breaks z m).1 u));
      len = lens None c D;
      planes = λ m k. D.planes m k ∙ P.planes m k;
      behind = kept_behind None c D;
    }

    -- a state breaks policy p, the lowest
    pub found_lowest : (x : ℕ) (c : List ℕ) → Tested nodes bytes ext b (Some x) c → Lowest net p x
    found_lowest x c D =
        let t = D.lowest in
        let k = t.0 in
        record {
          a_policy = a_policy end l store C start stop p R P.from P.count (P.fresh h);
          a_state = omega (arith, k, same_count);
          broken = (breaks x k).0 t.1;
          no_state_below = λ z m u. t.2 z m ((breaks z (omega (arith, k))).1 u);
          no_policy_below = P.unbroken;
        }

  -- behind all nodes all policies are tested
  pub goes_on : (start p : ℕ) (b : List ℕ) → Passed store l.nodes l.groups end bytes start p work b → p < policy_count net → start < l.groups
  goes_on start p b P h = go (dec_lt start l.groups)
    where
      go : Dec (start < l.groups) → start < l.groups
      go (yes m) = m
      go (no m) =
          let e : start ≡ l.groups = omega (arith, P.up_to) in
          absurd (omega (arith, P.count ∙ ap (λ (i : ℕ). policy_count (take i net)) e ∙ counted_end end l store C))

  pub passed_behind : (start p : ℕ) (b : List ℕ) → Passed store l.nodes l.groups end bytes start p work b → l.groups ≤ start → Holds net
  passed_behind start p b P h q k =
      let e : start ≡ l.groups = omega (arith, P.up_to) in
      let n : p ≡ policy_count net = P.count ∙ ap (λ (i : ℕ). policy_count (take i net)) e ∙ counted_end end l store C in
      P.unbroken q (omega (arith, n))

  pub passed_all : (start p : ℕ) (b : List ℕ) → Passed store l.nodes l.groups end bytes start p work b → p ≡ policy_count net → Holds net
  passed_all start p b P e q k = P.unbroken q (omega (arith, e))
