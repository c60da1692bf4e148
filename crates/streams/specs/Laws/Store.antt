-- Records put into a store one after the other.
use Rattle.std.specs.Prelude.{◌≡◌, refl, List, [], ◌∷◌, ◌++◌, ℕ, ◌+◌, ◌-◌, ◌*◌, ◌≤◌, length, drop, replicate}
use Rattle.std.proofs.Common.{sym, ap, ap₂, ◌∙◌, append-nil, arith, length-append, take_at, drop_at, drop-drop}
use Rattle.std.proofs.lemmas.List.{length-replicate, replicate-append-replicate}
use Rattle.format.specs.Record.{Rec, Net, store_bytes, most_records, flat}
use Rattle.format.specs.NetK.{in_store}
use Rattle.format.specs.Laws.Records.{Whole, length_flat, flat_append}
use Rattle.streams.specs.Reading.{with_record, with_records}

flat_more : (net : Net) (r : Rec) → flat (net ++ (r ∷ [])) ≡ flat net ++ r
unfolding flat
flat_more net r = flat_append net (r ∷ []) ∙ ap (λ (l : List ℕ). flat net ++ l) (append-nil r)

-- no record is put in
pub with_none : (store : List ℕ) → with_records [] store ≡ store
unfolding with_records flat
with_none store = refl

-- a record that is put behind the records of a network
pub with_more : (net : Net) (r : Rec) (store : List ℕ) → Whole net → with_record r (length net) (with_records net store) ≡ with_records (net ++ (r ∷ [])) store
unfolding with_record with_records
with_more net r store w =
    let rest = drop (length net * 24) store in
    let size = length_flat net w in
    let e : length net * 24 + 24 ≡ length (net ++ (r ∷ [])) * 24 = omega (arith, length-append net (r ∷ [])) in
    ap₂ (λ (x y : List ℕ). x ++ r ++ y) (take_at (flat net) rest (length net * 24) size)
    (sym (drop-drop 24 (length net * 24) (flat net ++ rest))
    ∙ ap (drop 24) (drop_at (flat net) rest (length net * 24) size)
    ∙ drop-drop 24 (length net * 24) store
    ∙ ap (λ (k : ℕ). drop k store) e)
    ∙ ap (λ (x : List ℕ). x ++ drop (length (net ++ (r ∷ [])) * 24) store) (sym (flat_more net r))

-- zeros without the first k
drop_zeros : (k m : ℕ) → k ≤ m → drop {A = ℕ} k (replicate m 0) ≡ replicate (m - k) 0
drop_zeros k m h =
    let e : m ≡ k + (m - k) = omega arith in
    ap (λ (j : ℕ). drop {A = ℕ} k (replicate j 0)) e
    ∙ ap (drop k) (sym (replicate-append-replicate k (m - k) 0))
    ∙ drop_at (replicate k 0) (replicate (m - k) 0) k (length-replicate k 0)

-- in a store of zeros that is a network in its store
pub with_in_zeros : (net : Net) → Whole net → length net ≤ most_records → with_records net (in_store []) ≡ in_store net
unfolding with_records in_store flat
with_in_zeros net w few =
    let e : store_bytes - length net * 24 ≡ store_bytes - length (flat net) = omega (arith, length_flat net w) in
    ap (λ (l : List ℕ). flat net ++ l) (drop_zeros (length net * 24) store_bytes (omega arith) ∙ ap (λ (k : ℕ). replicate k 0) e)
