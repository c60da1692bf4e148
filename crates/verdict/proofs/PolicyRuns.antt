-- The nodes of each policy of a clean network stand together, in ascending order.
use mathlib.Core.Path.{◌≡◌, refl, sym, ap, ap₂, subst, ◌∙◌}
use mathlib.Core.Bool.{Bool, true, false, ◌&&◌, and-false}
use mathlib.Core.List.{List, [], ◌∷◌, ◌++◌}
use mathlib.Core.Logic.{⊎_elim}
use Prim.Native.Nat.{ℕ, zero, suc, ◌+◌, ◌-◌, ◌*◌, ◌≤◌, ◌<◌}
use native.Mathlib.Nat.{not-suc-le-zero}
use native.Mathlib.Decide.{dec_lt, ℕ_discrete}
use native.Mathlib.Omega.{arith}
use borrow.Author.Tests.{eq-eqb, ne_eqb}
use lib.Dec.{eqb}
use lib.ListN.{length, get_or, take, drop, length-take}
use lib.Seq.{slice, length-slice, length-take-le, take-suc, take_all, get_or-take, get_or-drop, drop-drop, ext_get_or}
use Rattle.format.specs.Record.{Rec, Net, at, kind, records}
use Rattle.format.specs.Policy.{nodes_of, policy_count, longest_of, longest}
use Rattle.refusals.specs.Rows.{operands_good}
use Rattle.scan.specs.declared.Layout.{Layout}
use Rattle.format.specs.Laws.Records.{length_records, record_at_lem, byte_of_lem}
use Rattle.basics.specs.Laws.Lists.{keep_slice}
use Rattle.widths.specs.Laws.Limits.{limits}
use Rattle.format.specs.Laws.Policies.{count_more, count_other, count_follows}
use Rattle.policy.specs.Evaluated.{nodes_at, OperandOf, SoundNodes}
use Rattle.scan.specs.Laws.PassedRecords.{NodeRows}
use Rattle.scan.specs.Stored.{CleanStore}
use Rattle.verdict.specs.Judge.{policy_at, Run}
use Rattle.scan.specs.Laws.PassedRecords as clean
use Rattle.verdict.proofs.NodeFields.{earlier_operand, bit_field}

-- policies are counted by their highest number
count_none : (net : Net) → ((i : ℕ) → i < length net → kind (get_or net i []) ≡ 5 → ⊥) → policy_count net ≡ 0
unfolding policy_count
count_none [] h = refl
count_none (r ∷ rs) h = rw (ne_eqb (kind r) 5 (h 0 (omega arith))) (count_none rs (λ i l. h (suc i) (omega arith)))

-- a policy has at most as many nodes as the longest
longest_of_lem : (k : ℕ) (net : Net) (p : ℕ) → p < k → length (nodes_of p net) ≤ longest_of k net
unfolding longest_of
longest_of_lem zero net p h = absurd (not-suc-le-zero h)
longest_of_lem (suc k) net p h = go (ℕ_discrete p k) (longest_of_lem k net p)
  where
    go : Dec (p ≡ k) → (p < k → length (nodes_of p net) ≤ longest_of k net) → length (nodes_of p net) ≤ longest_of (suc k) net
    go (yes e) ih = let q : length (nodes_of p net) ≡ length (nodes_of k net) = ap (λ (i : ℕ). length (nodes_of i net)) e in omega (arith, q)
    go (no n) ih = omega (arith, ih (omega (arith, n)))

pub at_most_longest : (net : Net) (p : ℕ) → p < policy_count net → length (nodes_of p net) ≤ longest net
unfolding longest
at_most_longest net p h = longest_of_lem (policy_count net) net p h

-- records from one place up to another
pub slice_records : (n : ℕ) (store : List ℕ) (a b : ℕ) → a ≤ b → b ≤ n → slice a b (records n store) ≡ nodes_at store a (b - a)
slice_records n store a b h l =
    ext_get_or [] (slice a b (records n store)) (nodes_at store a (b - a)) lengths same
  where
    size : length (slice a b (records n store)) ≡ b - a
    size = length-slice a b (records n store) (omega (arith, length_records n store))

    lengths : length (slice a b (records n store)) ≡ length (nodes_at store a (b - a))
    lengths = size ∙ sym (length_records (b - a) (drop (a * 24) store))

    same : (i : ℕ) → i < length (slice a b (records n store)) → get_or (slice a b (records n store)) i [] ≡ get_or (nodes_at store a (b - a)) i []
    same i hi =
        let k : i < b - a = omega (arith, size) in
        let e : (a + i) * 24 ≡ a * 24 + i * 24 = omega arith in
        get_or-drop a (take b (records n store)) i []
        ∙ get_or-take b (records n store) (a + i) [] (omega arith)
        ∙ record_at_lem n store (a + i) (omega arith)
        ∙ ap (λ (m : ℕ). take 24 (drop m store)) e
        ∙ ap (take 24) (sym (drop-drop (i * 24) (a * 24) store))
        ∙ sym (record_at_lem (b - a) (drop (a * 24) store) i k)

module _ (end : ℕ) (l : Layout) (store : List ℕ) (C : CleanStore end l store) where
  abbrev net : Net
  net = records (end) store

  abbrev rec : ℕ → Rec
  rec i = get_or net i []

  size : length net ≡ end
  size = length_records (end) store

  abbrev counted : ℕ → ℕ
  counted i = policy_count (take i net)

  pub named : (i : ℕ) → i < end → policy_at store i ≡ at (rec i) 1
  named i h = sym (byte_of_lem (end) store i 1 h (omega arith))

  node_kind_lem : (i : ℕ) → l.nodes ≤ i → i < l.groups → kind (rec i) ≡ 5
  node_kind_lem = clean.node_kind_lem end l store C

  other_kind : (i : ℕ) → i < l.nodes → kind (rec i) ≡ 5 → ⊥
  other_kind = clean.other_kind end l store C

  group_kind : (i : ℕ) → l.groups ≤ i → i < end → kind (rec i) ≡ 5 → ⊥
  group_kind = clean.group_kind end l store C

  within : (i : ℕ) → i ≤ l.groups → i ≤ end
  within i h = omega (arith, clean.up_to_lem end l store C)

  rows : (i : ℕ) → l.nodes ≤ i → i < l.groups → NodeRows (take i net) (rec i)
  rows = clean.node_rows end l store C

  -- one record more
  taken : (i : ℕ) → i < end → take (suc i) net ≡ take i net ++ (rec i ∷ [])
  taken i h = take-suc net i [] (omega (arith, size))

  pub counted_at : (i : ℕ) → l.nodes ≤ i → i < l.groups → counted (suc i) ≡ suc (at (rec i) 1)
  counted_at i h k = ap policy_count (taken i (within (suc i) k)) ∙ count_follows (take i net) (rec i) (node_kind_lem i h k) (rows i h k).follows

  counted-suc : (i : ℕ) → i < end → counted i ≤ counted (suc i)
  counted-suc i h = omega (arith, ap policy_count (taken i h), count_more (take i net) (rec i))

  counted_plus : (d i : ℕ) → i + d ≤ end → counted i ≤ counted (i + d)
  counted_plus zero i h = let e : i + 0 ≡ i = omega arith in omega (arith, ap counted e)
  counted_plus (suc d) i h =
      let e : i + suc d ≡ suc (i + d) = omega arith in
      omega (arith, ap counted e, counted_plus d i (omega arith), counted-suc (i + d) (omega arith))

  counted_mono : (i j : ℕ) → i ≤ j → j ≤ end → counted i ≤ counted j
  counted_mono i j h k =
      let e : i + (j - i) ≡ j = omega arith in
      omega (arith, ap counted e, counted_plus (j - i) i (omega arith))

  -- no group counts
  counted_groups : (d : ℕ) → l.groups + d ≤ end → counted (l.groups + d) ≡ counted l.groups
  counted_groups zero h = let e : l.groups + 0 ≡ l.groups = omega arith in ap counted e
  counted_groups (suc d) h =
      let e : l.groups + suc d ≡ suc (l.groups + d) = omega arith in
      let k : l.groups + d < end = omega arith in
      ap counted e ∙ ap policy_count (taken (l.groups + d) k)
      ∙ count_other (take (l.groups + d) net) (rec (l.groups + d)) (group_kind (l.groups + d) (omega arith) k) ∙ counted_groups d (omega arith)

  pub counted_end : counted l.groups ≡ policy_count net
  counted_end =
      let e : l.groups + (end - l.groups) ≡ end = omega (arith, within l.groups (omega arith)) in
      sym (counted_groups (end - l.groups) (omega (arith, e))) ∙ ap counted e ∙ ap policy_count (take_all end net (omega (arith, size)))

  pub counted_first : counted l.nodes ≡ 0
  counted_first = count_none (take l.nodes net) (λ i h e.
      let k : i < l.nodes = omega (arith, length-take l.nodes net) in
      other_kind i k (sym (ap kind (get_or-take l.nodes net i [] k)) ∙ e))

  -- the first policy node is of policy 0
  pub first_named : l.nodes < l.groups → policy_at store l.nodes ≡ 0
  first_named h =
      let c = counted_first in
      ⊎_elim (λ q. absurd (omega (arith, q))) (λ q. named l.nodes (within (suc l.nodes) h) ∙ q ∙ c) (rows l.nodes (omega arith) h).follows

  -- the nodes of policy p, which stand together
  module _ (start stop p : ℕ) (R : Run store start l.groups stop) (from : l.nodes ≤ start) (count : p ≡ counted start) (fresh : policy_at store start ≡ p) where
    inside : (i : ℕ) → start ≤ i → i < stop → at (rec i) 1 ≡ p
    inside i h k = sym (named i (within (suc i) (omega (arith, R.up_to)))) ∙ R.same i h k ∙ fresh

    pub counted_stop : counted stop ≡ suc p
    counted_stop =
        let e : suc (stop - 1) ≡ stop = omega (arith, R.some) in
        ap counted (sym e)
        ∙ counted_at (stop - 1) (omega (arith, R.some)) (omega (arith, R.some, R.up_to))
        ∙ ap suc (inside (stop - 1) (omega (arith, R.some)) (omega (arith, R.some)))

    next : stop < l.groups → at (rec stop) 1 ≡ suc p
    next h =
        let c = counted_stop in
        let k : stop < end = within (suc stop) h in
        ⊎_elim
        (λ q. let e : at (rec stop) 1 ≡ p = omega (arith, q) in absurd (R.ends h (named stop k ∙ e ∙ sym fresh)))
        (λ q. q ∙ c)
        (rows stop (omega (arith, R.some)) h).follows

    pub next_named : stop < l.groups → policy_at store stop ≡ suc p
    next_named h = named stop (within (suc stop) h) ∙ next h

    under : (i : ℕ) → i < start → l.nodes ≤ i → at (rec i) 1 ≡ p → ⊥
    under i h k e =
        omega (arith, counted_at i k (omega (arith, R.some, R.up_to)), counted_mono (suc i) start h (within start (omega (arith, R.some, R.up_to))))

    over : (i : ℕ) → stop ≤ i → i < l.groups → at (rec i) 1 ≡ p → ⊥
    over i h k e = go (ℕ_discrete i stop)
      where
        go : Dec (i ≡ stop) → ⊥
        go (yes q) = let t : at (rec i) 1 ≡ at (rec stop) 1 = ap (λ (n : ℕ). at (rec n) 1) q in omega (arith, t, next (omega (arith, q)))
        go (no n) =
            let m : stop < i = omega (arith, n) in
            let c = counted_at stop (omega (arith, R.some)) (omega arith) in
            let d = counted_mono (suc stop) i m (within i (omega arith)) in
            let t = next (omega arith) in
            ⊎_elim (λ q. omega (arith, q)) (λ q. omega (arith, q)) (rows i (omega (arith, R.some)) k).follows

    abbrev own : Rec → Bool
    own r = eqb (kind r) 5 && eqb (at r 1) p

    own_not : (i : ℕ) → (l.nodes ≤ i → at (rec i) 1 ≡ p → ⊥) → own (rec i) ≡ false
    own_not i h = go (dec_lt i l.nodes)
      where
        go : Dec (i < l.nodes) → own (rec i) ≡ false
        go (yes k) = ap (λ (b : Bool). b && eqb (at (rec i) 1) p) (ne_eqb (kind (rec i)) 5 (other_kind i k))
        go (no k) = ap (λ (b : Bool). eqb (kind (rec i)) 5 && b) (ne_eqb (at (rec i) 1) p (h (omega arith))) ∙ and-false (eqb (kind (rec i)) 5)

    -- no record from stop on
    own_over : (i : ℕ) → stop ≤ i → i < end → own (rec i) ≡ false
    own_over i h k = go (dec_lt i l.groups)
      where
        go : Dec (i < l.groups) → own (rec i) ≡ false
        go (yes m) = own_not i (λ n. over i h m)
        go (no m) = ap (λ (b : Bool). b && eqb (at (rec i) 1) p) (ne_eqb (kind (rec i)) 5 (group_kind i (omega arith) k))

    own_yes : (i : ℕ) → start ≤ i → i < stop → own (rec i) ≡ true
    own_yes i h k =
        ap₂ ◌&&◌ (eq-eqb (kind (rec i)) 5 (node_kind_lem i (omega arith) (omega (arith, R.up_to)))) (eq-eqb (at (rec i) 1) p (inside i h k))

    pub nodes_are : nodes_of p net ≡ nodes_at store start (stop - start)
    unfolding nodes_of
    nodes_are =
        keep_slice own [] net start stop (omega (arith, R.some)) (omega (arith, within stop R.up_to, size))
        (λ i h. own_not i (under i h)) own_yes
        (λ i h k. own_over i h (omega (arith, size)))
        ∙ slice_records (end) store start stop (omega (arith, R.some)) (within stop R.up_to)

    -- of the records before one of its nodes
    earlier_nodes : (j : ℕ) → start ≤ j → j < stop → length (nodes_of p (take j net)) ≡ j - start
    unfolding nodes_of
    earlier_nodes j h k =
        let t : length (take j net) ≡ j = length-take-le j net (omega (arith, within stop R.up_to, size)) in
        ap length
        (keep_slice own [] (take j net) start j h (omega (arith, t))
        (λ i m. ap own (get_or-take j net i [] (omega arith)) ∙ own_not i (under i m))
        (λ i m n. ap own (get_or-take j net i [] n) ∙ own_yes i m (omega arith))
        (λ i m n. absurd (omega (arith, t))))
        ∙ length-slice start j (take j net) (omega (arith, t))

    pub few_nodes : stop - start ≤ 32
    few_nodes =
        let s = R.some in
        let e : start ≤ stop - 1 = omega arith in
        let f = (rows (stop - 1) (omega arith) (omega (arith, R.up_to))).few in
        let q = ap (λ (n : ℕ). length (nodes_of n (take (stop - 1) net))) (inside (stop - 1) e (omega arith)) in
        omega (arith, f, q, earlier_nodes (stop - 1) e (omega arith))

    pub a_policy : p < policy_count net
    a_policy = omega (arith, counted_stop, counted_mono stop l.groups R.up_to (within l.groups (omega arith)), counted_end)

    node_rec : (i : ℕ) → i < stop - start → get_or (nodes_at store start (stop - start)) i [] ≡ rec (start + i)
    node_rec i h =
        ap (λ (x : Net). get_or x i []) (sym (slice_records (end) store start stop (omega (arith, R.some)) (within stop R.up_to)))
        ∙ get_or-drop start (take stop net) i []
        ∙ get_or-take stop net (start + i) [] (omega arith)

    pub sound_nodes : SoundNodes (nodes_at store start (stop - start))
    sound_nodes = record {
      earlier = λ i h j o.
          let k : i < stop - start = omega (arith, many) in
          let r = rec (start + i) in
          let hi : start + i < stop = omega arith in
          let g = (rows (start + i) (omega arith) (omega (arith, R.up_to))).operands in
          let e : length (nodes_of (at r 1) (take (start + i) net)) ≡ i =
          ap (λ (n : ℕ). length (nodes_of n (take (start + i) net))) (inside (start + i) (omega arith) hi)
          ∙ earlier_nodes (start + i) (omega arith) hi ∙ omega arith in
          earlier_operand (at r 2) (at r 3) (at r 4) i (subst (λ (n : ℕ). operands_good (at r 2) (at r 3) (at r 4) n ≡ true) e g) j
          (subst (λ (x : Rec). OperandOf x j) (node_rec i k) o);
      bits = λ i h z.
          let k : i < stop - start = omega (arith, many) in
          let q = node_rec i k in
          let hi : start + i < l.groups = omega (arith, R.up_to) in
          let b = bit_field l.widths (rec (start + i)) (node_kind_lem (start + i) (omega arith) hi) (clean.fields end l store C (start + i) (omega (arith, clean.some_first end l store C)) (within (suc (start + i)) hi)) (ap (λ (x : Rec). at x 2) (sym q) ∙ z) in
          omega (arith, b, ap (λ (x : Rec). at x 4) q, (limits l.widths C.laid.limits).bits);
    }
      where
        many : length (nodes_at store start (stop - start)) ≡ stop - start
        many = length_records (stop - start) (drop (start * 24) store)
