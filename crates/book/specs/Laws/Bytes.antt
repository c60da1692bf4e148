-- The bytes that the two calls leave, from the lists that they promise.
use Rattle.std.proofs.Math.Path.{◌≡◌, sym, ap, subst⁻¹}
use Rattle.std.specs.Prelude.{refl, List, [], ◌++◌, ℕ, ◌+◌, ◌-◌, ◌*◌, ◌/◌, ◌%◌, ◌<◌, ◌≤◌, drop, replicate}
use Rattle.std.proofs.Common.{◌∙◌, length-drop, get_or-drop, get_or-append-add}
use Rattle.std.proofs.Math.Option.{none, some}
use native.Mathlib.Omega.{arith}
use Rattle.std.proofs.Math.ListN.{length, get_or, length-append, get_or-append}
use Rattle.std.proofs.lemmas.List.{length-replicate, get_or-replicate}
use Rattle.format.specs.Record.{Rec, Net, most_records, store_bytes, at, records, flat}
use Rattle.refusals.specs.Rows.{work_needed}
use Rattle.refusals.specs.Refusal.{Refusal, check_refusal, command_refusal}
use Rattle.format.specs.Laws.Records.{Whole, length_flat, byte_of_lem}
use Rattle.judgement.specs.Verdict.{Verdict, holds, violated}
use Rattle.judgement.specs.Judgement.{verdict}
use Rattle.book.specs.Answer.{CheckAnswer, CommandAnswer}
use Rattle.effect.specs.Apply.{would_leave}
use Rattle.book.specs.Check.{unless, of_verdict, check_answer, cleared, check_work, CheckPromised}
use Rattle.book.specs.Reference.{Installed, network, stored, judged, outcome_of, command_work}
use Rattle.book.specs.Command.{Call, call, start_of, Promised, left}
use Rattle.book.specs.Bytes.{StoreBytes, WorkBytes, CheckBytes, CommandBytes}
use Rattle.book.specs.Laws.Store.{stored_records}
use Rattle.book.specs.Laws.Refusals.{checks, passed, goes_on}
use Rattle.book.specs.Laws.Outcomes.{outcome_by}

-- a byte behind the first of two lists
byte_behind : (xs ys : List ℕ) (j : ℕ) → length xs ≤ j → get_or (xs ++ ys) j 0 ≡ get_or ys (j - length xs) 0
byte_behind xs ys j h =
    let e : j ≡ length xs + (j - length xs) = omega arith in
    ap (λ (m : ℕ). get_or (xs ++ ys) m 0) e ∙ get_or-append-add xs ys (j - length xs) 0

-- a byte behind those that are dropped
byte_dropped : (k : ℕ) (l : List ℕ) (i j : ℕ) → k + i ≡ j → get_or (drop k l) i 0 ≡ get_or l j 0
byte_dropped k l i j e = get_or-drop k l i 0 ∙ ap (λ (m : ℕ). get_or l m 0) e

-- k zeros, then the bytes of a list from byte m on
module _ (k m : ℕ) (l : List ℕ) where
  abbrev zeros_then : List ℕ
  zeros_then = replicate k 0 ++ drop m l

  zeros_length : m ≤ length l → length zeros_then ≡ k + (length l - m)
  zeros_length h = length-append (replicate k 0) (drop m l) ∙ omega (arith, length-replicate {A = ℕ} k 0, length-drop m l)

  zeros_within : (j : ℕ) → j < k → get_or zeros_then j 0 ≡ 0
  zeros_within j h = get_or-append (replicate k 0) (drop m l) 0 j (omega (arith, length-replicate {A = ℕ} k 0)) ∙ get_or-replicate k j 0 0 h

  zeros_behind : (j i : ℕ) → k ≤ j → m + (j - k) ≡ i → get_or zeros_then j 0 ≡ get_or l i 0
  zeros_behind j i h e =
      byte_behind (replicate k 0) (drop m l) j (omega (arith, length-replicate {A = ℕ} k 0))
      ∙ byte_dropped m l (j - length (replicate k 0)) i (omega (arith, length-replicate {A = ℕ} k 0))

-- the store with a network in it
module _ (net : Net) (store : List ℕ) (whole : Whole net) (few : length net ≤ most_records) (long : store_bytes ≤ length store) where
  abbrev pad : ℕ
  pad = store_bytes - length (flat net)

  bytes_are : length (flat net) ≡ length net * 24
  bytes_are = length_flat net whole

  pub stored_bytes : StoreBytes net (length net) store (stored net store)
  unfolding stored
  stored_bytes =
      record {
        counted = refl;
        len =
            length-append (flat net) (zeros_then pad store_bytes store) ∙ omega (arith, bytes_are, zeros_length pad store_bytes store long);
        in_records = λ j h.
            let e : j ≡ j / 24 * 24 + j % 24 = omega arith in
            ap (λ (m : ℕ). get_or (stored net store) m 0) e
            ∙ sym (byte_of_lem (length net) (stored net store) (j / 24) (j % 24) (omega arith) (omega arith))
            ∙ ap (λ (n : Net). at (get_or n (j / 24) []) (j % 24)) (stored_records net store whole);
        up_to_15768 = λ j h b.
            byte_behind (flat net) (zeros_then pad store_bytes store) j (omega (arith, bytes_are))
            ∙ zeros_within pad store_bytes store (j - length (flat net)) (omega (arith, bytes_are));
        behind = λ j h.
            byte_behind (flat net) (zeros_then pad store_bytes store) j (omega (arith, bytes_are))
            ∙ zeros_behind pad store_bytes store (j - length (flat net)) j (omega (arith, bytes_are)) (omega (arith, bytes_are));
      }

-- the work buffer with the length that is needed cleared
pub cleared_bytes : (k : ℕ) (work : List ℕ) → k ≤ length work → WorkBytes k work (cleared k work)
unfolding cleared
cleared_bytes k work h =
    record { len = zeros_length k k work h ∙ omega arith; within = zeros_within k k work; behind = λ j b. zeros_behind k k work j j b (omega arith) }

-- a verdict is no refusal
not_refused : (v : Verdict) (number place : ℕ) → of_verdict v ≡ CheckAnswer.refused number place → ⊥
not_refused holds number place e = let z : ◌≡◌ {A = ℕ} 0 1 = cc in omega arith
not_refused (violated p x) number place e = let z : ◌≡◌ {A = ℕ} 0 1 = cc in omega arith

-- the check call
pub check_bytes : (store : List ℕ) (n : ℕ) (work : List ℕ) (answer : CheckAnswer) (after : List ℕ) → CheckPromised store n work answer after
    → CheckBytes store n work answer after
unfolding check_answer check_work
check_bytes store n work answer after c =
    subst⁻¹ (λ (a : CheckAnswer). CheckBytes store n work a after) c.answered
    (subst⁻¹ (CheckBytes store n work (check_answer store n (length work))) c.works
    (go (check_refusal store n (length work)) refl (verdict (records n store))))
  where
    go : (r : Refusal) → check_refusal store n (length work) ≡ r → (v : Verdict)
        → CheckBytes store n work (unless r CheckAnswer.refused (of_verdict v)) (unless r (λ number place. work) (cleared (work_needed (records n store)) work))
    go (some f) e v = record { work_judged = λ q. absurd (q f.0 f.1 refl); work_refused = λ k p q. refl }
    go none e v =
        record {
          work_judged = λ q. cleared_bytes _ work (checks store n (length work) e).enough;
          work_refused = λ k p q. absurd (not_refused v k p q);
        }

-- the command call, by whether it is refused and by its verdict
module _ (i : Installed) (c : Rec) (work : List ℕ) where
  abbrev leaves : Refusal → Verdict → Call
  leaves r v =
      let o = outcome_by i c r v in
      call i.bytes i.count work c o.answer o.after.bytes (unless r (λ number place. work) (cleared (work_needed (network i)) work))

  leaves_bytes : (r : Refusal) → command_refusal i.bytes i.count (length work) c ≡ r → (v : Verdict) → CommandBytes (leaves r v)
  unfolding judged
  leaves_bytes (some f) e v =
      record {
        store_forwarded = λ m q. let z : ◌≡◌ {A = ℕ} 0 1 = cc in absurd (omega arith);
        store_blocked = λ p x q. refl;
        store_refused = λ k p q. refl;
        work_judged = λ q. absurd (q f.0 f.1 refl);
        work_refused = λ k p q. refl;
      }
  leaves_bytes none e holds =
      let net = would_leave c (network i) in
      let p = passed i.bytes i.count (length work) c e in
      let g = goes_on i.bytes i.count (length work) c e in
      record {
        store_forwarded = λ m q.
            let same : m ≡ length net = cc in
            subst⁻¹ (λ (m : ℕ). StoreBytes net m i.bytes (stored net i.bytes)) same
            (stored_bytes net i.bytes g.whole g.few p.check.arguments.long);
        store_blocked = λ p x q. let z : ◌≡◌ {A = ℕ} 0 1 = cc in absurd (omega arith);
        store_refused = λ k p q. let z : ◌≡◌ {A = ℕ} 0 1 = cc in absurd (omega arith);
        work_judged = λ q. cleared_bytes _ work p.check.enough;
        work_refused = λ k p q. let z : ◌≡◌ {A = ℕ} 0 1 = cc in absurd (omega arith);
      }
  leaves_bytes none e (violated p x) =
      record {
        store_forwarded = λ m q. let z : ◌≡◌ {A = ℕ} 0 1 = cc in absurd (omega arith);
        store_blocked = λ p x q. refl;
        store_refused = λ k p q. let z : ◌≡◌ {A = ℕ} 0 1 = cc in absurd (omega arith);
        work_judged = λ q. cleared_bytes _ work (passed i.bytes i.count (length work) c e).check.enough;
        work_refused = λ k p q. let z : ◌≡◌ {A = ℕ} 0 1 = cc in absurd (omega arith);
      }

-- a call with another answer, store after and work after
abbrev with_left : Call → CommandAnswer → List ℕ → List ℕ → Call
with_left c answer store_after work_after = call c.store c.count c.work c.given answer store_after work_after

-- the command call
pub command_bytes : (c : Call) → Promised c → CommandBytes c
unfolding outcome_of command_work
command_bytes c d =
    let o = outcome_of (start_of c) c.given (length c.work) in
    subst⁻¹ (λ (a : CommandAnswer). CommandBytes (with_left c a c.store_after c.work_after)) d.answered
    (subst⁻¹ (λ (s : List ℕ). CommandBytes (with_left c o.answer s c.work_after)) d.stores
    (subst⁻¹ (λ (w : List ℕ). CommandBytes (with_left c o.answer o.after.bytes w)) d.works
    (leaves_bytes (start_of c) c.given c.work (command_refusal c.store c.count (length c.work) c.given) refl (verdict (left c)))))
