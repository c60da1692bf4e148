-- What a rule says is said by its body, bytes 1 to 20 of its record.
use Rattle.std.specs.Prelude.{◌≡◌, refl, List, [], ◌∷◌, ℕ, zero, suc, ◌+◌, ◌-◌, ◌*◌, ◌<◌, ◌≤◌, length, get_or, take, drop}
use Rattle.std.proofs.Common.{sym, ap, ◌∙◌, not-suc-le-zero, arith, length-drop, get_or-take, get_or-drop, take-take, drop-drop, length-take-le}
use Rattle.format.specs.Record.{Rec, at, priority, records}
use Rattle.widths.specs.declared.Widths.{Widths}
use Rattle.format.specs.Laws.Records.{record_at_lem, byte_of_lem}
use Rattle.onestep.specs.Chosen.{Arrival, rule_matches}
use Rattle.onestep.specs.ByBytes.{of_body, rank_of}

-- n bytes of a store from the second byte of record i
abbrev pub body_at : List ℕ → ℕ → ℕ → List ℕ
body_at s i n = take (i * 24 + 1 + n - (i * 24 + 1)) (drop (i * 24 + 1) s)

after_first : (l : List ℕ) → drop 1 (take 24 l) ≡ take 23 (drop 1 l)
after_first [] = refl
after_first (x ∷ xs) = refl

-- bytes 1 to n of two records are the same
abbrev pub SameTo : ℕ → Rec → Rec → Type 0
SameTo n r q = (k : ℕ) → 1 ≤ k → k ≤ n → at r k ≡ at q k

module _ (m : ℕ) (s : List ℕ) (i : ℕ) (h : i < m) (n : ℕ) (t : n ≤ 20) where
  pub body_of : SameTo n (of_body (body_at s i n)) (get_or (records m s) i [])
  body_of zero l u = absurd (not-suc-le-zero l)
  body_of (suc k) l u =
      let e : i * 24 + 1 + k ≡ i * 24 + suc k = omega arith in
      get_or-take (i * 24 + 1 + n - (i * 24 + 1)) (drop (i * 24 + 1) s) k 0 (omega arith)
      ∙ get_or-drop (i * 24 + 1) s k 0
      ∙ ap (λ (j : ℕ). get_or s j 0) e
      ∙ sym (byte_of_lem m s i (suc k) h (omega arith))

  pub body_is : n ≡ 20 → body_at s i n ≡ take 20 (drop 1 (get_or (records m s) i []))
  body_is e =
      let q : i * 24 + 1 + n - (i * 24 + 1) ≡ 20 = omega arith in
      ap (λ (k : ℕ). take k (drop (i * 24 + 1) s)) q
      ∙ sym (ap (λ (r : Rec). take 20 (drop 1 r)) (record_at_lem m s i h)
      ∙ ap (take 20) (after_first (drop (i * 24) s))
      ∙ take-take 20 23 (drop 1 (drop (i * 24) s)) (omega arith)
      ∙ ap (take 20) (drop-drop 1 (i * 24) s))

  pub body_length : m * 24 ≤ length s → length (body_at s i n) ≡ n
  body_length g =
      let e : i * 24 + 1 + n - (i * 24 + 1) ≡ n = omega arith in
      length-take-le (i * 24 + 1 + n - (i * 24 + 1)) (drop (i * 24 + 1) s) (omega (arith, length-drop (i * 24 + 1) s)) ∙ e

module _ (w : Widths) (r q : Rec) (same : SameTo 20 r q) where
  pub rank_same : (a : Arrival) → rank_of w a r ≡ rank_of w a q
  unfolding rank_of rule_matches priority
  rank_same a =
      rw (
        same 1 (omega arith) (omega arith),
        same 2 (omega arith) (omega arith),
        same 3 (omega arith) (omega arith),
        same 4 (omega arith) (omega arith),
        same 5 (omega arith) (omega arith),
        same 6 (omega arith) (omega arith),
        same 7 (omega arith) (omega arith),
      )

  pub priority_same : priority r ≡ priority q
  unfolding priority
  priority_same = rw (same 2 (omega arith) (omega arith), same 3 (omega arith) (omega arith))

-- a byte of a record by its body
pub body_byte : (b : List ℕ) (j k : ℕ) → k ≡ suc j → at (of_body b) k ≡ get_or b j 0
body_byte b j k e = ap (λ (m : ℕ). get_or (0 ∷ b) m 0) e
