-- Even policies: every way from a policy's last node down to an R passes an even number of NOTs.
use Rattle.std.specs.Prelude.{◌≡◌, ◌↔◌, ℕ, suc, ◌%◌, ◌<◌}
use Rattle.format.specs.Policy.{Formula, R, NOT, AND, OR, SOME, ALL, TC}
use Rattle.format.specs.declared.kinds.Var.{Var}
use Rattle.truth.specs.Truth.{Model}

-- a way from a formula's last node down to an R, by the number of NOTs that it passes
pub data Way : Formula → ℕ → Type 0 where
  here : {u v : Var} → Way (R u v) 0
  under_NOT : {f : Formula} {n : ℕ} → Way f n → Way (NOT f) (suc n)
  left_AND : {f g : Formula} {n : ℕ} → Way f n → Way (AND f g) n
  right_AND : {f g : Formula} {n : ℕ} → Way g n → Way (AND f g) n
  left_OR : {f g : Formula} {n : ℕ} → Way f n → Way (OR f g) n
  right_OR : {f g : Formula} {n : ℕ} → Way g n → Way (OR f g) n
  under_SOME : {f : Formula} {v : Var} {n : ℕ} → Way f n → Way (SOME f v) n
  under_ALL : {f : Formula} {v : Var} {n : ℕ} → Way f n → Way (ALL f v) n
  under_TC : {f : Formula} {u v : Var} {n : ℕ} → Way f n → Way (TC f u v) n

-- every way from the last node down to an R passes an even number of NOTs
abbrev pub Even : Formula → Type 0
Even f = (n : ℕ) → Way f n → n % 2 ≡ 0

-- every way from the last node down to an R passes an odd number of NOTs
abbrev pub Odd : Formula → Type 0
Odd f = (n : ℕ) → Way f n → n % 2 ≡ 1

-- the steps of m are among those of k; states and external points are the same
pub record Within (m k : Model) : Type 0 where
  pub counts : m.count ≡ k.count
  pub steps : (x y : ℕ) → x < m.count → y < m.count → m.Steps x y → k.Steps x y
  pub externals : (x : ℕ) → x < m.count → m.External x ↔ k.External x
