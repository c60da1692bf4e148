-- The bytes of records that are put one after the other.
use mathlib.Core.Path.{◌≡◌, refl, sym, ap, ap₂, ◌∙◌}
use mathlib.Core.List.{List, ◌∷◌, ◌++◌, append_assoc}
use Prim.Native.Nat.{ℕ, zero, suc, ◌+◌, ◌-◌, ◌*◌, ◌≤◌}
use native.Mathlib.Omega.{arith}
use lib.ListN.{length, take, drop, replicate, length-append, length-drop}
use lib.Seq.{take_all, take-add, take_at, drop_at, length-take-le}
use borrow.Rule.Slice.PartMut.{put_mid}
use Rattle.std.proofs.lemmas.Slice.{take-put_mid}
use Rattle.std.proofs.lemmas.List.{length-replicate}
use Rattle.format.specs.Record.{Rec, Net, most_records, store_bytes, records, flat}
use Rattle.format.specs.Laws.Records.{flat_append, length_records, records_split}
use Rattle.commands.specs.Effect.{padded, filled, spliced, joined}

flat_records : (n : ℕ) (s : List ℕ) → flat (records n s) ≡ take (n * 24) s
unfolding flat records
flat_records zero s = refl
flat_records (suc n) s =
    let e : 24 + n * 24 ≡ suc n * 24 = omega arith in
    ap (λ (l : List ℕ). take 24 s ++ l) (flat_records n (drop 24 s)) ∙ sym (take-add 24 (n * 24) s) ∙ ap (λ (m : ℕ). take m s) e

-- the first records of a store, and those from a number on
module _ (s : List ℕ) (n : ℕ) where
  records_take : (i : ℕ) → i ≤ n → take i (records n s) ≡ records i s
  records_take i h = ap (take i) (records_split s n i h) ∙ take_at (records i s) (records (n - i) (drop (i * 24) s)) i (length_records i s)

  pub records_drop : (j : ℕ) → j ≤ n → drop j (records n s) ≡ records (n - j) (drop (j * 24) s)
  records_drop j h = ap (drop j) (records_split s n j h) ∙ drop_at (records j s) (records (n - j) (drop (j * 24) s)) j (length_records j s)

  flat_take : (i : ℕ) → i ≤ n → flat (take i (records n s)) ≡ take (i * 24) s
  flat_take i h = ap flat (records_take i h) ∙ flat_records i s

  pub flat_drop : (j : ℕ) → j ≤ n → flat (drop j (records n s)) ≡ take (n * 24 - j * 24) (drop (j * 24) s)
  flat_drop j h =
      let e : (n - j) * 24 ≡ n * 24 - j * 24 = omega arith in
      ap flat (records_drop j h) ∙ flat_records (n - j) (drop (j * 24) s) ∙ ap (λ (m : ℕ). take m (drop (j * 24) s)) e

  -- the bytes of the records from a number on
  pub part_length : (j : ℕ) → j ≤ n → n * 24 ≤ length s → length (take (n * 24 - j * 24) (drop (j * 24) s)) ≡ n * 24 - j * 24
  part_length j h l = length-take-le (n * 24 - j * 24) (drop (j * 24) s) (omega (arith, length-drop (j * 24) s))

  pub length_spliced : (i j : ℕ) (r : Rec) → i ≤ n → length (spliced (records n s) i j r) ≡ i + 1 + (n - j)
  length_spliced i j r h =
      let l = length_records n s in
      length-append (take i (records n s)) (r ∷ drop j (records n s))
      ∙ omega (arith, l, length-take-le i (records n s) (omega arith), length-drop j (records n s))

  pub length_joined : (i j : ℕ) → i ≤ n → length (joined (records n s) i j) ≡ i + (n - j)
  length_joined i j h =
      let l = length_records n s in
      length-append (take i (records n s)) (drop j (records n s))
      ∙ omega (arith, l, length-take-le i (records n s) (omega arith), length-drop j (records n s))

  -- so few records as a network has are those that it is made of
  pub few_spliced : {net : Net} (i j : ℕ) (r : Rec) → net ≡ spliced (records n s) i j r → i ≤ n → length net ≤ most_records → i + 1 + (n - j) ≤ most_records
  few_spliced i j r e h few = omega (arith, ap length e, length_spliced i j r h)

  pub few_joined : {net : Net} (i j : ℕ) → net ≡ joined (records n s) i j → i ≤ n → length net ≤ most_records → i + (n - j) ≤ most_records
  few_joined i j e h few = omega (arith, ap length e, length_joined i j h)

-- bytes that are written after those in front, and zeros after them
pub finished : (b copied zeros : List ℕ) (at end k m : ℕ) → length b ≡ store_bytes → end ≡ at + length copied → end ≤ store_bytes → zeros ≡ replicate (store_bytes - end) 0
    → end ≤ length (put_mid at k b copied) → length (put_mid end m (put_mid at k b copied) zeros) ≡ store_bytes
    → put_mid end m (put_mid at k b copied) zeros ≡ padded (take at b ++ copied)
unfolding padded
finished b copied zeros at end k m w e h z l q =
    let c : length zeros ≡ store_bytes - end = ap length z ∙ length-replicate (store_bytes - end) 0 in
    let f : end ≡ length (take at b ++ copied) = omega (arith, length-append (take at b) copied, length-take-le at b (omega arith)) in
    sym (take_all store_bytes (put_mid end m (put_mid at k b copied) zeros) (omega arith))
    ∙ take-put_mid end m (put_mid at k b copied) zeros store_bytes (omega arith) l
    ∙ ap₂ (λ (x : List ℕ) (y : List ℕ). x ++ y) (take-put_mid at k b copied end e (omega arith)) z
    ∙ ap (λ (n : ℕ). take at b ++ copied ++ replicate (store_bytes - n) 0) f

module _ (store b₁ : List ℕ) (n i j : ℕ) (order : (i ≤ j) × (j ≤ n)) (same : take (i * 24) b₁ ≡ take (i * 24) store) where
  -- the records in front
  front : take (i * 24) b₁ ≡ flat (take i (records n store))
  front = same ∙ sym (flat_take store n i (omega arith))

  pub joined_bytes : (b : List ℕ) → b ≡ padded (take (i * 24) b₁ ++ flat (drop j (records n store))) → b ≡ filled (joined (records n store) i j)
  joined_bytes b e =
      e ∙ ap padded (ap (λ (x : List ℕ). x ++ flat (drop j (records n store))) front ∙ sym (flat_append (take i (records n store)) (drop j (records n store))))

  pub spliced_bytes : (r w b₂ b : List ℕ) → w ≡ r → take (i * 24 + 24) b₂ ≡ take (i * 24) b₁ ++ w → b ≡ padded (take (i * 24 + 24) b₂ ++ flat (drop j (records n store)))
      → b ≡ filled (spliced (records n store) i j r)
  unfolding flat
  spliced_bytes r w b₂ b q v e =
      e
      ∙ ap padded
      (ap (λ (x : List ℕ). x ++ flat (drop j (records n store))) (v ∙ ap₂ (λ (x : List ℕ) (y : List ℕ). x ++ y) front q)
      ∙ append_assoc (flat (take i (records n store))) r (flat (drop j (records n store)))
      ∙ sym (flat_append (take i (records n store)) (r ∷ drop j (records n store))))
