-- What a formula means, at a value of X and a value of Y.
use Rattle.std.specs.Prelude.{◌≡◌, true, ◌⊎◌, ℕ, ◌<◌}
use Rattle.basics.specs.Bit.{bit_of}
use Rattle.format.specs.Policy.{Formula, absent, BIT, R, E, NOT, AND, OR, SOME, ALL, TC}
use Rattle.format.specs.declared.kinds.Var.{Var}
use Rattle.format.specs.declared.kinds.Var.TheVariants.{X, Y}
use Rattle.walks.specs.Walk.{Walk}

-- a model of the policy logic: the states, their steps, and those whose point is external
pub record Model : Type 1 where
  pub count : ℕ
  pub Steps : ℕ → ℕ → Type 0
  pub External : ℕ → Type 0

-- the value of a variable
abbrev pub value : Var → ℕ → ℕ → ℕ
value X x y = x
value Y x y = y

-- the value of X where v has the value z and the other variable is as it was
abbrev pub with_x : Var → ℕ → ℕ → ℕ
with_x X z x = z
with_x Y z x = x

-- the value of Y where v has the value z and the other variable is as it was
abbrev pub with_y : Var → ℕ → ℕ → ℕ
with_y X z y = y
with_y Y z y = z

-- a formula is true with X = x, Y = y
unfoldable pub Truth : Model → Formula → ℕ → ℕ → Type 0
Truth m absent x y = ⊥
Truth m (BIT v i) x y = bit_of (value v x y) i ≡ true
Truth m (R u v) x y = m.Steps (value u x y) (value v x y)
Truth m (E v) x y = m.External (value v x y)
Truth m (NOT f) x y = Truth m f x y → ⊥
Truth m (AND f g) x y = Truth m f x y × Truth m g x y
Truth m (OR f g) x y = Truth m f x y ⊎ Truth m g x y
Truth m (SOME f v) x y = (z : ℕ) × (z < m.count) × Truth m f (with_x v z x) (with_y v z y)
Truth m (ALL f v) x y = (z : ℕ) → z < m.count → Truth m f (with_x v z x) (with_y v z y)
Truth m (TC f u v) x y = Walk m.count (Truth m f) (value u x y) (value v x y)
