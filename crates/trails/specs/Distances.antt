-- How far states are from the end b, in a list of distances, and what one round of the search adds to them.
use Rattle.std.specs.Prelude.{◌≡◌, List, ◌⊎◌, ℕ, zero, suc, ◌<◌, ◌≤◌, length, get_or}
use Rattle.trails.specs.Laws.Leading.{Leads}

-- by the distances ds, x is k steps away from b
abbrev pub Away : List ℕ → ℕ → ℕ → ℕ → Type 0
Away ds b zero x = x ≡ b
Away ds b (suc k) x = get_or ds x 0 ≡ suc k

module _ (S : ℕ) (R : ℕ → ℕ → Type 0) (b : ℕ) where
  -- k steps lead from x to b
  abbrev pub In : ℕ → ℕ → Type 0
  In k x = (l : List ℕ) × (length l ≡ k) × Leads S R b x l

  -- ds has for each state the fewest steps to b, at least one, if there are so few as k; else 0
  pub record Near (k : ℕ) (ds : List ℕ) : Type 0 where
    pub up_to : (x : ℕ) → x < S → get_or ds x 0 ≤ k
    pub leads : (x : ℕ) → x < S → 1 ≤ get_or ds x 0 → In (get_or ds x 0) x
    pub found : (x i : ℕ) → x < S → 1 ≤ i → i ≤ k → In i x → (1 ≤ get_or ds x 0) × (get_or ds x 0 ≤ i)

  -- a state without a distance now has k + 1, if it steps to a state below n that is k steps away; every other is as before
  pub record Farther (k n : ℕ) (before after : List ℕ) : Type 0 where
    pub kept : (y : ℕ) → y < S → 1 ≤ get_or before y 0 → get_or after y 0 ≡ get_or before y 0
    pub reached : (y x : ℕ) → y < S → get_or before y 0 ≡ 0 → x < n → Away before b k x → R y x → get_or after y 0 ≡ suc k
    pub only : (y : ℕ) → y < S → get_or before y 0 ≡ 0
        → (get_or after y 0 ≡ 0) ⊎ ((get_or after y 0 ≡ suc k) × ((x : ℕ) × (x < S) × Away before b k x × R y x))
