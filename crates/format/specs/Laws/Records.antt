-- Laws of records and their bytes, and of the records of a store: by number, one more, those before and those from a number on.
use Rattle.std.specs.Prelude.{◌≡◌, refl, List, [], ◌∷◌, ◌++◌, ℕ, zero, suc, ◌+◌, ◌-◌, ◌*◌, ◌<◌, ◌≤◌, length, get_or, take, drop}
use Rattle.std.proofs.Common.{sym, ap, ap₂, ◌∙◌, append_assoc, not-suc-le-zero, le_of_suc-le-suc, arith, length-append, length-drop, take_at, drop_at, drop-drop, get_or-take, get_or-drop, length-take-le}
use Rattle.std.proofs.Math.Path.{subst⁻¹}
use Rattle.format.specs.Record.{Rec, Net, at, kind, records, flat}
use Rattle.format.specs.Search.{record_at, records_after}

-- each record has its 24 bytes
abbrev pub Whole : Net → Type 0
Whole [] = Unit {0}
Whole (r ∷ rs) = (length r ≡ 24) × Whole rs

-- the records of a store that has them are whole, and as many as were asked for
pub records_whole : (n : ℕ) (store : List ℕ) → n * 24 ≤ length store → Whole (records n store)
unfolding records
records_whole zero s h = tt
records_whole (suc n) s h =
    (length-take-le 24 s (omega arith), records_whole n (drop 24 s) (subst⁻¹ (λ (m : ℕ). n * 24 ≤ m) (length-drop 24 s) (omega arith)))

pub length_records : (n : ℕ) (store : List ℕ) → length (records n store) ≡ n
unfolding records
length_records zero s = refl
length_records (suc n) s = ap suc (length_records n (drop 24 s))

pub length_flat : (net : Net) → Whole net → length (flat net) ≡ length net * 24
unfolding flat
length_flat [] w = refl
length_flat (r ∷ rs) w = length-append r (flat rs) ∙ omega (arith, w.0, length_flat rs w.1)

pub flat_append : (xs ys : Net) → flat (xs ++ ys) ≡ flat xs ++ flat ys
unfolding flat
flat_append [] ys = refl
flat_append (x ∷ xs) ys = ap (λ (l : List ℕ). x ++ l) (flat_append xs ys) ∙ sym (append_assoc x (flat xs) (flat ys))

-- reading back the bytes of a list of records gives the list, whatever follows them
pub flat_back : (net : Net) (rest : List ℕ) → Whole net → records (length net) (flat net ++ rest) ≡ net
unfolding records flat
flat_back [] t w = refl
flat_back (r ∷ rs) t w =
    subst⁻¹ (λ (l : List ℕ). ◌≡◌ {A = Net} (take 24 l ∷ records (length rs) (drop 24 l)) (r ∷ rs)) (append_assoc r (flat rs) t)
    (ap₂ {C = Net} ◌∷◌ (take_at r (flat rs ++ t) 24 w.0)
    (ap (λ (l : List ℕ). records (length rs) l) (drop_at r (flat rs ++ t) 24 w.0) ∙ flat_back rs t w.1))

-- the first i records, and those from number i on
pub records_split : (s : List ℕ) (n i : ℕ) → i ≤ n → records n s ≡ records i s ++ records (n - i) (drop (i * 24) s)
unfolding records
records_split s n zero h = let e : n ≡ n - 0 = omega arith in ap (λ (m : ℕ). records m s) e
records_split s zero (suc i) h = absurd (not-suc-le-zero h)
records_split s (suc n) (suc i) h =
    let e : n - i ≡ suc n - suc i = omega arith in
    let f : 24 + i * 24 ≡ suc i * 24 = omega arith in
    let q : drop (i * 24) (drop 24 s) ≡ drop (suc i * 24) s = drop-drop (i * 24) 24 s ∙ ap (λ (m : ℕ). drop m s) f in
    ap (λ (l : Net). take 24 s ∷ l)
    (records_split (drop 24 s) n i (le_of_suc-le-suc h) ∙ ap₂ (λ (m : ℕ) (l : List ℕ). records i (drop 24 s) ++ records m l) e q)

-- record i, and those after it
pub records_left : (s : List ℕ) (n i : ℕ) → i < n → records (n - i) (drop (i * 24) s) ≡ record_at s i ∷ records_after n s i
unfolding records
records_left s n i h =
    let a : n - i ≡ suc (n - (i + 1)) = omega arith in
    let b : i * 24 + 24 ≡ (i + 1) * 24 = omega arith in
    let q : drop 24 (drop (i * 24) s) ≡ drop ((i + 1) * 24) s = drop-drop 24 (i * 24) s ∙ ap (λ (k : ℕ). drop k s) b in
    rw (a, q)

pub records_more : (s : List ℕ) (i : ℕ) → records (i + 1) s ≡ records i s ++ (record_at s i ∷ [])
unfolding records
records_more s i =
    let e : i + 1 - i ≡ 1 = omega arith in
    records_split s (i + 1) i (omega arith) ∙ ap (λ (m : ℕ). records i s ++ records m (drop (i * 24) s)) e

pub part_is : (s : List ℕ) (i : ℕ) → take (i * 24 + 24 - i * 24) (drop (i * 24) s) ≡ record_at s i
part_is s i =
    let e : i * 24 + 24 - i * 24 ≡ 24 = omega arith in
    ap (λ (k : ℕ). take k (drop (i * 24) s)) e

pub record_length : (s : List ℕ) (i : ℕ) → i * 24 + 24 ≤ length s → length (record_at s i) ≡ 24
record_length s i h = length-take-le 24 (drop (i * 24) s) (omega (arith, length-drop (i * 24) s))

-- a byte of a record
pub record_byte : (s : List ℕ) (i k : ℕ) → k < 24 → at (record_at s i) k ≡ get_or s (i * 24 + k) 0
record_byte s i k h = get_or-take 24 (drop (i * 24) s) k 0 h ∙ get_or-drop (i * 24) s k 0

pub record_kind_lem : (s : List ℕ) (i : ℕ) → kind (record_at s i) ≡ get_or s (i * 24) 0
record_kind_lem s i = let e : i * 24 + 0 ≡ i * 24 = omega arith in record_byte s i 0 (omega arith) ∙ ap (λ (k : ℕ). get_or s k 0) e

-- joined records are whole if each part is
pub whole_join : (xs ys : Net) → Whole xs → Whole ys → Whole (xs ++ ys)
whole_join [] ys a b = b
whole_join (x ∷ xs) ys a b = (a.0, whole_join xs ys a.1 b)

pub whole_parts : (xs ys : Net) → Whole (xs ++ ys) → Whole xs × Whole ys
whole_parts [] ys a = (tt, a)
whole_parts (x ∷ xs) ys a = let t = whole_parts xs ys a.1 in ((a.0, t.0), t.1)

-- record i of n records of a store, and its bytes
pub record_at_lem : (n : ℕ) (s : List ℕ) (i : ℕ) → i < n → get_or (records n s) i [] ≡ record_at s i
unfolding records
record_at_lem zero s i h = absurd (not-suc-le-zero h)
record_at_lem (suc n) s zero h = refl
record_at_lem (suc n) s (suc i) h =
    let e : 24 + i * 24 ≡ suc i * 24 = omega arith in
    record_at_lem n (drop 24 s) i (le_of_suc-le-suc h) ∙ ap (take 24) (drop-drop (i * 24) 24 s ∙ ap (λ (k : ℕ). drop k s) e)

pub byte_of_lem : (n : ℕ) (s : List ℕ) (i k : ℕ) → i < n → k < 24 → at (get_or (records n s) i []) k ≡ get_or s (i * 24 + k) 0
byte_of_lem n s i k h l = ap (λ (r : Rec). at r k) (record_at_lem n s i h) ∙ record_byte s i k l
