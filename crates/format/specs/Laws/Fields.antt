-- Fields of a record: read from a rule's body, bytes 1 to 20; by the record's kind; action by action; and zero bytes one at a time.
use Rattle.std.specs.Prelude.{◌≡◌, refl, Bool, ◌&&◌, List, ◌∷◌, ◌⊎◌, ℕ, zero, suc, ◌+◌, ◌-◌, ◌*◌, ◌^◌, ◌≤◌, ◌<◌, eqb, ltb, length, get_or, take, drop}
use Rattle.std.proofs.Math.Path.{sym}
use Rattle.std.proofs.Common.{ap, ap₂, ◌∙◌, inl, inr, one-add, lit<, lit≤, length-drop, length-take-le, get_or-take, get_or-drop}
use Rattle.std.proofs.Math.Bool.{true, false, and-false}
use Rattle.std.proofs.lemmas.Bool.{false≢true}
use native.Mathlib.Omega.{arith}
use Rattle.std.proofs.Math.Decide.{dec_lt}
use borrow.Author.Tests.{eq-eqb, eqb-true, ltb-true, leb-true, lt-ltb, le-ltb, le-leb, lt-leb}
use Rattle.std.specs.Int.Bits.{bit_or}
use Rattle.std.proofs.Math.Dec.{leb}
use Rattle.std.proofs.Math.Seq.{slice-cons, slice_empty}
use Rattle.basics.specs.Bit.{bit_of}
use Rattle.basics.specs.Laws.Bits.{bit_or_lem, bit-zero, bits_ext}
use Rattle.basics.specs.Laws.Tests.{same_test, true_of, not_both, and_both, and_left, and_right, both, or_none}
use Rattle.basics.specs.Lists.{all}
use Rattle.format.specs.Record.{priority, Rec, most_policies, at, kind, record_kind, command_kind, action_kind}
use Rattle.format.specs.declared.kinds.ActionKind.TheVariants.{Unknown as k_no_action}
use Rattle.format.specs.Group.{bucket_value, bucket_care, bucket_kind, bucket_target, target_kind}
use Rattle.format.specs.declared.kinds.TargetKind.TheVariants.{Unknown as k_no_target}
use Rattle.format.specs.Version.{version_good}
use Rattle.format.specs.Pattern.{pattern_good}
use Rattle.format.specs.Policy.{node_kind}
use Rattle.format.specs.Fields.{zeros, used_good, unused_good, action_bytes_good, action_good, actions_good, point_good, match_good, node_good, used_bucket, bucket_good, buckets_good, fields_good, command_good}
use Rattle.basics.specs.Laws.Lists.{from_fails, from_passes}
use Rattle.widths.specs.declared.Widths.{Widths}

-- a byte after the kind byte
after_kind : (b : List ℕ) (n k : ℕ) → n ≡ suc k → at (0 ∷ b) n ≡ get_or b k 0
after_kind b n k e = ap (λ (m : ℕ). get_or (0 ∷ b) m 0) e

-- the bytes of a rule's body are the record's
pub body_at : (r : Rec) (n : ℕ) → 0 < n → n ≤ 20 → at (0 ∷ take 20 (drop 1 r)) n ≡ at r n
body_at r zero l h = absurd (omega arith)
body_at r (suc k) l h =
    get_or-take 20 (drop 1 r) k 0 (omega arith) ∙ get_or-drop 1 r k 0 ∙ ap (λ (n : ℕ). get_or r n 0) (one-add k)

-- a body has 20 bytes
pub body_length : (r : Rec) → length r ≡ 24 → length (take 20 (drop 1 r)) ≡ 20
body_length r h = length-take-le 20 (drop 1 r) (simp length-drop (omega arith))

-- a match read from the body is the record's
pub match_body : (w : Widths) (r : Rec) → match_good w (0 ∷ take 20 (drop 1 r)) ≡ match_good w r
unfolding match_good
match_body w r =
    simp (body_at r 1 (lit< tt) (lit≤ tt), body_at r 4 (lit< tt) (lit≤ tt), body_at r 5 (lit< tt) (lit≤ tt), body_at r 6 (lit< tt) (lit≤ tt), body_at r 7 (lit< tt) (lit≤ tt))

-- a priority read from the body is the record's
pub priority_body : (r : Rec) → priority (0 ∷ take 20 (drop 1 r)) ≡ priority r
unfolding priority
priority_body r = simp (body_at r 2 (lit< tt) (lit≤ tt), body_at r 3 (lit< tt) (lit≤ tt))

-- an action goes by its three bytes alone
action_of : (w : Widths) (r : Rec) (count i : ℕ) → action_good w r count i ≡ action_bytes_good w (at r (9 + 3 * i)) (at r (10 + 3 * i)) (at r (11 + 3 * i)) count i
unfolding action_good
action_of w r count i = refl

-- an action has the bytes of the body
action_body : (w : Widths) (r : Rec) (count i : ℕ) → i < 4 → action_good w (0 ∷ take 20 (drop 1 r)) count i ≡ action_good w r count i
action_body w r count i h =
    rw (action_of w (0 ∷ take 20 (drop 1 r)) count i, action_of w r count i)
    (simp (body_at r (9 + 3 * i) (omega arith) (omega arith), body_at r (10 + 3 * i) (omega arith) (omega arith), body_at r (11 + 3 * i) (omega arith) (omega arith)))

-- an action by the bytes of a body: one that is used, and one that is not
module _ (w : Widths) (b : List ℕ) (count i : ℕ) where
  in_body : action_good w (0 ∷ b) count i ≡ action_bytes_good w (get_or b (8 + 3 * i) 0) (get_or b (8 + 3 * i + 1) 0) (get_or b (8 + 3 * i + 2) 0) count i
  in_body =
      rw (action_of w (0 ∷ b) count i)
      (simp (after_kind b (9 + 3 * i) (8 + 3 * i) (omega arith), after_kind b (10 + 3 * i) (8 + 3 * i + 1) (omega arith), after_kind b (11 + 3 * i) (8 + 3 * i + 2) (omega arith)))

  pub action_used : i < count → action_good w (0 ∷ b) count i ≡ used_good w (get_or b (8 + 3 * i) 0) (get_or b (8 + 3 * i + 1) 0) (get_or b (8 + 3 * i + 2) 0) (eqb (suc i) count)
  unfolding action_bytes_good
  action_used h = rw in_body (rw (lt-ltb i count h, action_bytes_good))

  pub action_unused : count ≤ i → action_good w (0 ∷ b) count i ≡ unused_good (get_or b (8 + 3 * i) 0) (get_or b (8 + 3 * i + 1) 0) (get_or b (8 + 3 * i + 2) 0)
  unfolding action_bytes_good
  action_unused h = rw in_body (rw (le-ltb i count h, action_bytes_good))

-- actions read from the body are the record's
pub actions_body : (w : Widths) (r : Rec) → actions_good w (0 ∷ take 20 (drop 1 r)) ≡ actions_good w r
unfolding actions_good
actions_body w r =
    simp
    (body_at r 8 (lit< tt) (lit≤ tt), action_body w r (at r 8) 0 (lit< tt), action_body w r (at r 8) 1 (lit< tt), action_body w r (at r 8) 2 (lit< tt), action_body w r (at r 8) 3 (lit< tt))

-- one of four tests fails, after any test
one_fails : (b : Bool) (f : ℕ → Bool) (i : ℕ) → i < 4 → f i ≡ false → (b && f 0 && f 1 && f 2 && f 3) ≡ false
one_fails b f zero h e = simp (e, and-false)
one_fails b f (suc zero) h e = simp (e, and-false)
one_fails b f (suc (suc zero)) h e = simp (e, and-false)
one_fails b f (suc (suc (suc zero))) h e = simp (e, and-false)
one_fails b f (suc (suc (suc (suc i)))) h e = absurd (omega arith)

-- the actions fail by their count or by one of them, and pass where all pass
module _ (w : Widths) (r : Rec) where
  pub count_low : at r 8 < 1 → actions_good w r ≡ false
  unfolding actions_good
  count_low h = rw (lt-leb 1 (at r 8) h)

  pub count_high : 4 < at r 8 → actions_good w r ≡ false
  unfolding actions_good
  count_high h = rw (lt-leb (at r 8) 4 h, and-false)

  pub action_fails : (i : ℕ) → i < 4 → action_good w r (at r 8) i ≡ false → actions_good w r ≡ false
  unfolding actions_good
  action_fails i h e = one_fails (leb 1 (at r 8) && leb (at r 8) 4) (action_good w r (at r 8)) i h e

  pub actions_pass : 1 ≤ at r 8 → at r 8 ≤ 4 → ((i : ℕ) → i < 4 → action_good w r (at r 8) i ≡ true) → actions_good w r ≡ true
  unfolding actions_good
  actions_pass l h f =
      simp (le-leb 1 (at r 8) l, le-leb (at r 8) 4 h, f 0 (lit< tt), f 1 (lit< tt), f 2 (lit< tt), f 3 (lit< tt))

-- no action has another kind than 1, 2, 3 and 4
pub no_action : (k : ℕ) → (k ≡ 1 → ⊥) → (k ≡ 2 → ⊥) → (k ≡ 3 → ⊥) → (k ≡ 4 → ⊥) → action_kind k ≡ k_no_action
unfolding action_kind
no_action zero a b c d = refl
no_action (suc zero) a b c d = absurd (a refl)
no_action (suc (suc zero)) a b c d = absurd (b refl)
no_action (suc (suc (suc zero))) a b c d = absurd (c refl)
no_action (suc (suc (suc (suc zero)))) a b c d = absurd (d refl)
no_action (suc (suc (suc (suc (suc k))))) a b c d = refl

-- no target has another kind than 1 and 2
pub no_target : (k : ℕ) → (k ≡ 1 → ⊥) → (k ≡ 2 → ⊥) → target_kind k ≡ k_no_target
unfolding target_kind
no_target zero a b = refl
no_target (suc zero) a b = absurd (a refl)
no_target (suc (suc zero)) a b = absurd (b refl)
no_target (suc (suc (suc k))) a b = refl

-- the buckets fail by their count or by one of them, and pass where all pass
module _ (w : Widths) (r : Rec) where
  pub buckets_low : at r 8 < 1 → buckets_good w r ≡ false
  unfolding buckets_good
  buckets_low h = rw (lt-leb 1 (at r 8) h)

  pub buckets_high : 3 < at r 8 → buckets_good w r ≡ false
  unfolding buckets_good
  buckets_high h = rw (lt-leb (at r 8) 3 h, and-false)

  pub bucket_fails : (j : ℕ) → j < 3 → bucket_good w r (at r 8) j ≡ false → buckets_good w r ≡ false
  unfolding buckets_good
  bucket_fails j h e = rw (from_fails (bucket_good w r (at r 8)) 0 3 j (omega arith) h e, and-false)

  pub buckets_pass : 1 ≤ at r 8 → at r 8 ≤ 3 → ((j : ℕ) → j < 3 → bucket_good w r (at r 8) j ≡ true) → buckets_good w r ≡ true
  unfolding buckets_good
  buckets_pass l h f = rw (le-leb 1 (at r 8) l, le-leb (at r 8) 3 h) (from_passes (bucket_good w r (at r 8)) 0 3 (λ j l h. f j h))

-- no node has a kind above 8
pub no_node : (w : Widths) (k a b : ℕ) → 9 ≤ k → node_good w k a b ≡ false
unfolding node_good node_kind
no_node w k a b h =
    let e : k ≡ suc (suc (suc (suc (suc (suc (suc (suc (suc (k - 9))))))))) = omega arith in
    ap (λ (n : ℕ). node_good w n a b) e

-- a bucket that is used, and one that is not
module _ (w : Widths) (r : Rec) (count j : ℕ) where
  pub bucket_used : j < count → bucket_good w r count j ≡ used_bucket w (at r 2) (bucket_value r j) (bucket_care r j) (bucket_kind r j) (bucket_target r j)
  unfolding bucket_good
  bucket_used h = rw (lt-ltb j count h, bucket_good)

  pub bucket_unused : count ≤ j → bucket_good w r count j ≡ zeros (9 + 4 * j) (12 + 4 * j) r
  unfolding bucket_good
  bucket_unused h = rw (le-ltb j count h, bucket_good)

-- the fields of a record by its kind
module _ (w : Widths) (r : Rec) where
  pub widths_fields : kind r ≡ 1 → fields_good w r ≡ (version_good (at r 4) && zeros 5 23 r)
  unfolding fields_good record_kind
  widths_fields e = rw e

  pub link_fields : kind r ≡ 2 → fields_good w r ≡ (point_good w (at r 1) (at r 2) && point_good w (at r 3) (at r 4) && zeros 5 23 r)
  unfolding fields_good record_kind
  link_fields e = rw e

  pub miss_fields : kind r ≡ 3 → fields_good w r ≡ (ltb (at r 1) (2 ^ w.w) && zeros 2 7 r && actions_good w r && zeros 21 23 r)
  unfolding fields_good record_kind
  miss_fields e = rw e

  pub rule_fields : kind r ≡ 4 → fields_good w r ≡ (match_good w r && actions_good w r && zeros 21 23 r)
  unfolding fields_good record_kind
  rule_fields e = rw e

  -- the actions of a miss and of a rule
  pub miss_actions : kind r ≡ 3 → fields_good w r ≡ true → actions_good w r ≡ true
  miss_actions e g =
      and_right (ltb (at r 1) (2 ^ w.w) && zeros 2 7 r) (actions_good w r)
      (and_left (ltb (at r 1) (2 ^ w.w) && zeros 2 7 r && actions_good w r) (zeros 21 23 r) (sym (miss_fields e) ∙ g))

  pub rule_actions : kind r ≡ 4 → fields_good w r ≡ true → actions_good w r ≡ true
  rule_actions e g = and_right (match_good w r) (actions_good w r) (and_left (match_good w r && actions_good w r) (zeros 21 23 r) (sym (rule_fields e) ∙ g))

  pub node_fields_lem : kind r ≡ 5 → fields_good w r ≡ (leb (at r 1) most_policies && node_good w (at r 2) (at r 3) (at r 4) && zeros 5 23 r)
  unfolding fields_good record_kind
  node_fields_lem e = rw e

  pub group_fields : kind r ≡ 9 → fields_good w r ≡ (ltb (at r 1) (2 ^ w.w) && leb (at r 2) 15 && zeros 3 7 r && buckets_good w r && zeros 21 23 r)
  unfolding fields_good record_kind
  group_fields e = rw e

  -- the switch, the number and the buckets of a group
  pub group_parts : kind r ≡ 9 → fields_good w r ≡ true → (at r 1 < 2 ^ w.w) × (at r 2 ≤ 15) × (buckets_good w r ≡ true)
  group_parts e g =
      let names = ltb (at r 1) (2 ^ w.w) && leb (at r 2) 15 in
      let all-parts = and_left (names && zeros 3 7 r && buckets_good w r) (zeros 21 23 r) (sym (group_fields e) ∙ g) in
      let first = and_left names (zeros 3 7 r) (and_left (names && zeros 3 7 r) (buckets_good w r) all-parts) in (
        ltb-true _ _ (and_left (ltb (at r 1) (2 ^ w.w)) (leb (at r 2) 15) first),
        leb-true (at r 2) 15 (and_right (ltb (at r 1) (2 ^ w.w)) (leb (at r 2) 15) first),
        and_right (names && zeros 3 7 r) (buckets_good w r) all-parts,
      )

-- the fields of a command by its kind
module _ (w : Widths) (c : Rec) where
  pub change_fields : (kind c ≡ 6) ⊎ (kind c ≡ 7) → command_good w c ≡ (match_good w c && (actions_good w c && zeros 21 23 c))
  unfolding command_good command_kind
  change_fields (inl e) = rw e
  change_fields (inr e) = rw e

  pub delete_fields : kind c ≡ 8 → command_good w c ≡ (match_good w c && zeros 8 23 c)
  unfolding command_good command_kind
  delete_fields e = rw e

-- an OR is zero where both are
no_bits : (a : ℕ) → ((i : ℕ) → bit_of a i ≡ false) → 0 ≡ a
no_bits a h = bits_ext 0 a (λ i. bit-zero i ∙ sym (h i))

pub or_zero : (a b : ℕ) → eqb (bit_or a b) 0 ≡ (eqb a 0 && eqb 0 b)
or_zero a b =
    same_test _ _
    (λ e. and_both _ _ (eq-eqb a 0 (sym (no_bits a (λ i. (none e i).0)))) (eq-eqb 0 b (no_bits b (λ i. (none e i).1))))
    (λ e. let q = both (eqb a 0) (eqb 0 b) e in eq-eqb (bit_or a b) 0 (ap₂ bit_or (eqb-true a 0 q.0) (sym (eqb-true 0 b q.1))))
  where
    none : eqb (bit_or a b) 0 ≡ true → (i : ℕ) → (bit_of a i ≡ false) × (bit_of b i ≡ false)
    none e i = or_none (bit_of a i) (bit_of b i) (sym (bit_or_lem a b i) ∙ ap (λ (m : ℕ). bit_of m i) (eqb-true (bit_or a b) 0 e) ∙ bit-zero i)

-- no byte, and one more byte
pub zeros_none : (m : ℕ) (r : Rec) → zeros (suc m) m r ≡ true
unfolding zeros all
zeros_none m r = rw (slice_empty (suc m) r)

pub zeros_more : (k m : ℕ) (r : Rec) → k ≤ m → m < length r → zeros k m r ≡ (eqb 0 (at r k) && zeros (suc k) m r)
unfolding zeros all
zeros_more k m r h l = rw (slice-cons k (suc m) r 0 (omega arith) (omega arith))

-- one of the zero bytes
pub zero_byte : (d k m : ℕ) (r : Rec) → k + d ≤ m → m < length r → zeros k m r ≡ true → at r (k + d) ≡ 0
zero_byte zero k m r h l e =
    let q : k + 0 ≡ k = omega arith in
    ap (at r) q ∙ sym (eqb-true 0 (at r k) (and_left (eqb 0 (at r k)) (zeros (suc k) m r) (sym (zeros_more k m r (omega arith) l) ∙ e)))
zero_byte (suc d) k m r h l e =
    let q : k + suc d ≡ suc k + d = omega arith in
    ap (at r) q ∙ zero_byte d (suc k) m r (omega arith) l (and_right (eqb 0 (at r k)) (zeros (suc k) m r) (sym (zeros_more k m r (omega arith) l) ∙ e))

-- each action is good where all are, and each bucket
module _ (w : Widths) (r : Rec) where
  pub action_each : actions_good w r ≡ true → (i : ℕ) → i < 4 → action_good w r (at r 8) i ≡ true
  action_each e i h = true_of _ (λ q. not_both e (action_fails w r i h q))

  pub bucket_each : buckets_good w r ≡ true → (j : ℕ) → j < 3 → bucket_good w r (at r 8) j ≡ true
  bucket_each e j h = true_of _ (λ q. not_both e (bucket_fails w r j h q))

  -- an action that runs a group names one below 16
  pub action_group : (count i : ℕ) → action_good w r count i ≡ true → at r (9 + 3 * i) ≡ 4 → at r (10 + 3 * i) < 16
  unfolding action_good action_bytes_good action_kind
  action_group count i e k = go (ltb i count) (rw k at e)
    where
      go : (b : Bool)
          → elim b as (λ x. Bool) [ true ↦ used_good w 4 (at r (10 + 3 * i)) (at r (11 + 3 * i)) (eqb (suc i) count) | false ↦ unused_good 4 (at r (10 + 3 * i)) (at r (11 + 3 * i)) ] ≡ true
          → at r (10 + 3 * i) < 16
      go true e = let h = leb-true (at r (10 + 3 * i)) 15 (and_left (leb (at r (10 + 3 * i)) 15) (eqb (at r (11 + 3 * i)) 0) e) in omega arith
      go false e = absurd (false≢true e)

  -- a bucket that goes on to a group goes to one lower than its own
  pub bucket_lower : length r ≡ 24 → (count j : ℕ) → j < 3 → bucket_good w r count j ≡ true → bucket_kind r j ≡ 2 → bucket_target r j < at r 2
  unfolding target_kind
  bucket_lower l count j h e k = go (dec_lt j count)
    where
      go : Dec (j < count) → bucket_target r j < at r 2
      go (yes u) =
          ltb-true (bucket_target r j) (at r 2)
          (and_right (pattern_good w.h (bucket_value r j) (bucket_care r j)) (ltb (bucket_target r j) (at r 2)) (rw k at (sym (bucket_used w r count j u) ∙ e)))
      go (no u) =
          let q : 9 + 4 * j + 2 ≡ 11 + 4 * j = omega arith in
          let z = sym (ap (at r) q) ∙ zero_byte 2 (9 + 4 * j) (12 + 4 * j) r (omega arith) (omega arith) (sym (bucket_unused w r count j (omega arith)) ∙ e) in
          absurd (omega (arith, z, k))
