-- The records from one place up to another, and those of a kind where they stand together.
use Rattle.std.proofs.Common.{eqb-true, sym, ap, ap₂, subst, ◌∙◌, append-nil, add-one, arith, take-append-drop, length-take, length-drop, drop-cons, get_or-take, get_or-drop, length-take-le}
use Rattle.std.specs.Prelude.{◌≡◌, refl, Bool, true, false, cond, [], ◌∷◌, ◌++◌, ℕ, zero, suc, ◌+◌, ◌-◌, ◌<◌, ◌≤◌, eqb, length, get_or, take, drop}
use Rattle.basics.specs.Lists.{keep}
use Rattle.format.specs.Record.{Rec, Net, kind, of_kind}
use Rattle.basics.specs.Laws.Lists.{keep_append, keep_none}

-- the records from place i up to place e
abbrev pub part : Net → ℕ → ℕ → Net
part net i e = take (e - i) (drop i net)

pub part_more : (net : Net) (i e : ℕ) → i < e → e ≤ length net → part net i e ≡ get_or net i [] ∷ part net (i + 1) e
part_more net i e h l =
    let q : e - i ≡ suc (e - (i + 1)) = omega arith in
    ap (λ (k : ℕ). take k (drop i net)) q
    ∙ ap (take (suc (e - (i + 1)))) (drop-cons net i [] (omega arith) ∙ ap (λ (k : ℕ). get_or net i [] ∷ drop k net) (sym (add-one i)))

pub part_none : (net : Net) (i e : ℕ) → e ≤ i → part net i e ≡ []
part_none net i e h =
    let q : e - i ≡ 0 = omega arith in
    ap (λ (k : ℕ). take k (drop i net)) q

pub part_at : (net : Net) (i e k : ℕ) → i + k < e → get_or (part net i e) k [] ≡ get_or net (i + k) []
part_at net i e k h = get_or-take (e - i) (drop i net) k [] (omega arith) ∙ get_or-drop i net k []

-- where a test fails before place a and from place b on, those that pass it stand between
pub keep_part : (f : Rec → Bool) (net : Net) (a b : ℕ) → a ≤ b
    → ((i : ℕ) → i < a → f (get_or net i []) ≡ false) → ((i : ℕ) → b ≤ i → i < length net → f (get_or net i []) ≡ false)
    → keep f net ≡ keep f (part net a b)
keep_part f net a b h under over =
    ap (keep f) (sym (take-append-drop a net) ∙ ap (λ (x : Net). take a net ++ x) (sym (take-append-drop (b - a) (drop a net))))
    ∙ keep_append f (take a net) (part net a b ++ drop (b - a) (drop a net))
    ∙ ap₂ {C = Net} ◌++◌ (keep_none f [] (take a net) front) (keep_append f (part net a b) (drop (b - a) (drop a net)) ∙ ap (λ (x : Net). keep f (part net a b) ++ x) (keep_none f [] (drop (b - a) (drop a net)) back))
    ∙ append-nil (keep f (part net a b))
  where
    front : (i : ℕ) → i < length (take a net) → f (get_or (take a net) i []) ≡ false
    front i t = let l : i < a = omega (arith, length-take a net) in ap f (get_or-take a net i [] l) ∙ under i l

    back : (i : ℕ) → i < length (drop (b - a) (drop a net)) → f (get_or (drop (b - a) (drop a net)) i []) ≡ false
    back i t =
        let e : a + (b - a + i) ≡ b + i = omega arith in
        ap f (get_or-drop (b - a) (drop a net) i [] ∙ get_or-drop a net (b - a + i) [] ∙ ap (λ (k : ℕ). get_or net k []) e)
        ∙ over (b + i) (omega arith) (omega (arith, length-drop (b - a) (drop a net), length-drop a net))

-- what was kept passes the test
kept : (f : Rec → Bool) (net : Net) (i : ℕ) → i < length (keep f net) → f (get_or (keep f net) i []) ≡ true
unfolding keep
kept f [] i h = absurd (omega arith)
kept f (r ∷ rs) i h = go (f r) refl i h (λ j l. kept f rs j l)
  where
    go : (b : Bool) → f r ≡ b → (i : ℕ) → i < length (cond b (r ∷ keep f rs) (keep f rs))
        → ((j : ℕ) → j < length (keep f rs) → f (get_or (keep f rs) j []) ≡ true)
        → f (get_or (cond b (r ∷ keep f rs) (keep f rs)) i []) ≡ true
    go true e zero l ih = e
    go true e (suc i) l ih = ih i (omega arith)
    go false e i l ih = ih i l

-- so the records of a part that has those of a kind are of that kind
pub kind_at : (k : ℕ) (net : Net) (a b i : ℕ) → of_kind k net ≡ part net a b → b ≤ length net → a ≤ i → i < b → kind (get_or net i []) ≡ k
unfolding of_kind
kind_at k net a b i e l h u =
    let q : a + (i - a) ≡ i = omega arith in
    let n : length (part net a b) ≡ b - a = length-take-le (b - a) (drop a net) (omega (arith, length-drop a net)) in
    let t = kept (λ r. eqb (kind r) k) net (i - a) (omega (arith, ap length e)) in
    eqb-true (kind (get_or net i [])) k
    (subst (λ (j : ℕ). eqb (kind (get_or net j [])) k ≡ true) q
    (sym (ap (λ (r : Rec). eqb (kind r) k) (ap (λ (x : Net). get_or x (i - a) []) e ∙ part_at net a b (i - a) (omega arith))) ∙ t))
