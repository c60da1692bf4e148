-- A tabulated relation is the relation.
use Rattle.std.specs.Prelude.{◌≡◌, Bool, false, List, [], ℕ, zero, suc, ◌+◌, ◌<◌, get_or}
use Rattle.std.proofs.Common.{sym, ap, ap₂, ◌∙◌, add-zero, zero-add, add-suc, suc-add, le_of_suc-le-suc, not-suc-le-zero}
use Rattle.basics.specs.Tabulated.{grid_test, tab, grid}

pub tab_at {ℓ} : {A : Type ℓ} (n i : ℕ) (f : ℕ → A) (j : ℕ) (d : A) → j < n → get_or (tab n i f) j d ≡ f (i + j)
unfolding tab
tab_at zero i f j d h = absurd (not-suc-le-zero h)
tab_at (suc n) i f zero d h = ap f (sym (add-zero i))
tab_at (suc n) i f (suc j) d h = tab_at n (suc i) f j d (le_of_suc-le-suc h) ∙ ap f (suc-add i j ∙ sym (add-suc i j))

pub grid_at : (S : ℕ) (r : ℕ → ℕ → Bool) (i j : ℕ) → i < S → j < S → grid_test (grid S r) i j ≡ r i j
unfolding grid grid_test
grid_at S r i j hi hj =
    ap (λ (l : List Bool). get_or l j false) (tab_at S 0 (λ (a : ℕ). tab S 0 (λ (b : ℕ). r a b)) i [] hi)
    ∙ tab_at S 0 (λ (b : ℕ). r (0 + i) b) j false hj
    ∙ ap₂ r (zero-add i) (zero-add j)
