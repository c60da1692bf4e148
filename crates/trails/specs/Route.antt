-- What a route is, over any relation on the states below a count.
use Rattle.std.specs.Prelude.{◌≡◌, List, ℕ, suc, ◌-◌, ◌<◌, ◌≤◌, length, get_or}
use Rattle.std.proofs.Math.Option.{Option, none, some}
use Rattle.walks.specs.Walk.{Walk}

-- the list is a path from a to b: both ends included, one or more steps, all of them states, each stepping to the next
pub record Trail (count : ℕ) (R : ℕ → ℕ → Type 0) (a b : ℕ) (l : List ℕ) : Type 0 where
  pub two : 2 ≤ length l
  pub first : get_or l 0 0 ≡ a
  pub last : get_or l (length l - 1) 0 ≡ b
  pub below : (i : ℕ) → i < length l → get_or l i 0 < count
  pub steps : (i : ℕ) → suc i < length l → R (get_or l i 0) (get_or l (suc i) 0)

-- at the first place where the lists differ, l has the smaller state
pub record Before (l m : List ℕ) : Type 0 where
  pub place : ℕ
  pub inside : place < length l
  pub same : (i : ℕ) → i < place → get_or l i 0 ≡ get_or m i 0
  pub smaller : get_or l place 0 < get_or m place 0

-- the list is the route: a path with the fewest steps, and no path of as many is before it
pub record Route (count : ℕ) (R : ℕ → ℕ → Type 0) (a b : ℕ) (l : List ℕ) : Type 0 where
  pub path : Trail count R a b l
  pub fewest : (m : List ℕ) → Trail count R a b m → length l ≤ length m
  pub smallest : (m : List ℕ) → Trail count R a b m → length m ≡ length l → Before m l → ⊥

-- the answer that is meant: the route, or none if no walk leads from a to b
abbrev pub Is : (count : ℕ) (R : ℕ → ℕ → Type 0) (a b : ℕ) → Option (List ℕ) → Type 0
Is count R a b none = Walk count R a b → ⊥
Is count R a b (some l) = Route count R a b l
