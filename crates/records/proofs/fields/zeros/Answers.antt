use Rattle.std.proofs.Common.{◌≡◌, ◌&&◌, ◌≤◌, ◌+◌, ◌-◌, ℕ, suc, List, [], ◌∷◌, rules, eqb, take, drop, bit_or, ap, sym, ◌∙◌, arith}
use Rattle.std.proofs.Math.Bool.{and-true, and_assoc}
use Rattle.std.specs.List.{fold}
use Rattle.std.proofs.iter.runs.Made.{chains}
use Rattle.std.proofs.lemmas.List.{drop-take}
use Rattle.basics.specs.Lists.{all}
use Rattle.format.specs.Fields.{zeros}
use Rattle.format.specs.Laws.Fields.{or_zero}
use Rattle.records.proofs.fields.zeros.Goals as goal

-- an OR of many is zero where all are
ored : (xs : List ℕ) (a : ℕ) → eqb (fold bit_or a xs) 0 ≡ (eqb a 0 && all (eqb 0) xs)
unfolding all
ored [] a = sym (and-true (eqb a 0))
ored (x ∷ xs) a = rw (ored xs (bit_or a x), or_zero a x) (and_assoc (eqb a 0) (eqb 0 x) (all (eqb 0) xs))

-- the bytes that are ORed
bytes : (k m : ℕ) (r : List ℕ) → k ≤ m → all (eqb 0) (take (m + 1 - k) (drop k r)) ≡ zeros k m r
unfolding zeros
bytes k m r h =
    let e : k + (m + 1 - k) ≡ suc m = omega arith in
    ap (all (eqb 0)) (sym (drop-take k (m + 1 - k) r) ∙ ap (λ (n : ℕ). drop k (take n r)) e)

pub returns : goal.returns
returns c =
    let a = c.args in
    let e : c.fold.result ≡ fold bit_or 0 (take (a.last + 1 - a.first) (drop a.first a.r.now)) = search (rules, chains) in
    ap (λ (n : ℕ). eqb n 0) e ∙ ored (take (a.last + 1 - a.first) (drop a.first a.r.now)) 0 ∙ bytes a.first a.last a.r.now c.requires.0
