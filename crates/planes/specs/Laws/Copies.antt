-- Bytes that are laid into a buffer, as lists.
use Rattle.std.specs.Prelude.{◌≡◌, refl, List, ◌++◌, ℕ, ◌+◌, ◌-◌, ◌<◌, ◌≤◌, length, take, drop, get_or, replicate}
use Rattle.std.proofs.Common.{sym, ap, ap₂, ◌∙◌, arith, length-drop, take-append-drop, take_all, take-add, length-take-le, get_or-take, get_or-drop, ext_get_or}
use Rattle.std.proofs.lemmas.List.{length-replicate, get_or-replicate}
use Rattle.planes.specs.Lines.{Laid, Cleared, Put}

-- the bytes of s are laid at `at`
module _ (f : ℕ → ℕ) (at : ℕ) (s b b' : List ℕ) (same : (i : ℕ) → i < length s → f i ≡ get_or s i 0) (fits : at + length s ≤ length b) (u : Laid f at (length s) b b') where
  before : take at b' ≡ take at b
  before =
      let l : length (take at b') ≡ at = length-take-le at b' (omega (arith, u.len)) in
      ext_get_or 0 (take at b') (take at b) (l ∙ sym (length-take-le at b (omega arith)))
      (λ i t.
      let q : i < at = omega (arith, l) in
      get_or-take at b' i 0 q ∙ u.under i q ∙ sym (get_or-take at b i 0 q))

  here : take (length s) (drop at b') ≡ s
  here =
      let l : length (take (length s) (drop at b')) ≡ length s = length-take-le (length s) (drop at b') (omega (arith, length-drop at b', u.len)) in
      ext_get_or 0 (take (length s) (drop at b')) s l
      (λ i t.
      let q : i < length s = omega (arith, l) in
      get_or-take (length s) (drop at b') i 0 q ∙ get_or-drop at b' i 0 ∙ u.inside i q ∙ same i q)

  pub laid_upto : take (at + length s) b' ≡ take at b ++ s
  laid_upto = take-add at (length s) b' ∙ ap₂ {C = List ℕ} ◌++◌ before here

  after : drop (at + length s) b' ≡ drop (at + length s) b
  after =
      ext_get_or 0 (drop (at + length s) b') (drop (at + length s) b)
      (length-drop (at + length s) b' ∙ ap (λ (m : ℕ). m - (at + length s)) u.len ∙ sym (length-drop (at + length s) b))
      (λ i t. get_or-drop (at + length s) b' i 0 ∙ u.over (at + length s + i) (omega arith) ∙ sym (get_or-drop (at + length s) b i 0))

  pub laid_is : b' ≡ take at b ++ s ++ drop (at + length s) b
  laid_is = sym (take-append-drop (at + length s) b') ∙ ap₂ {C = List ℕ} ◌++◌ laid_upto after

-- bytes that are put
module _ {at : ℕ} {b b' : List ℕ} (s : List ℕ) (u : Put s at (length s) b b') (fits : at + length s ≤ length b) where
  pub put_upto : take (at + length s) b' ≡ take at b ++ s
  put_upto = laid_upto (λ j. get_or s j 0) at s b b' (λ i h. refl) fits u

  pub put_is : b' ≡ take at b ++ s ++ drop (at + length s) b
  put_is = laid_is (λ j. get_or s j 0) at s b b' (λ i h. refl) fits u

-- all of a buffer is put
pub put_whole : {b b' : List ℕ} (s : List ℕ) → Put s 0 (length s) b b' → length b ≡ length s → b' ≡ s
put_whole {b' = b'} s u h = sym (take_all (0 + length s) b' (omega (arith, u.len))) ∙ put_upto s u (omega arith)

-- bytes that are cleared are zeros
pub cleared_upto : {at k : ℕ} {b b' : List ℕ} → Cleared at k b b' → at + k ≤ length b → take (at + k) b' ≡ take at b ++ replicate k 0
cleared_upto {at} {k} {b} {b'} u h =
    let l = length-replicate {A = ℕ} k 0 in
    rw l at (laid_upto (λ j. 0) at (replicate k 0) b b' (λ i t. sym (get_or-replicate k i 0 0 (omega (arith, l)))) (omega (arith, l)) (rw l u))
