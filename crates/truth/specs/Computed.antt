-- The truth of a formula, computed: what is proved of it stands in Laws.
use Rattle.std.specs.Prelude.{Bool, true, false, not, List, ℕ, get_or}
use Rattle.basics.specs.Below.{any_below, all_below}
use Rattle.basics.specs.Bit.{bit_of}
use Rattle.format.specs.Policy.{Formula, absent, BIT, R, E, NOT, AND, OR, SOME, ALL, TC}
use Rattle.basics.specs.Tabulated.{Grid, grid_test}
use Rattle.walks.specs.Computed.{closed}
use Rattle.truth.specs.Truth.{value, with_x, with_y}

-- a model, tabulated
pub record Table : Type 0 where
  pub count : ℕ
  pub steps : Grid
  pub externals : List Bool

-- the truth of a formula; a closure is computed once, before the values of X and Y come
unfoldable pub truth : Table → Formula → ℕ → ℕ → Bool
truth t absent = λ x y. false
truth t (BIT v i) = λ x y. bit_of (value v x y) i
truth t (R u v) = λ x y. grid_test t.steps (value u x y) (value v x y)
truth t (E v) = λ x y. get_or t.externals (value v x y) false
truth t (NOT f) = let a = truth t f in λ x y. not (a x y)
truth t (AND f g) =
    let a = truth t f in
    let b = truth t g in
    λ x y. elim (a x y) [ true ↦ b x y | false ↦ false ]
truth t (OR f g) =
    let a = truth t f in
    let b = truth t g in
    λ x y. elim (a x y) [ true ↦ true | false ↦ b x y ]
truth t (SOME f v) = let a = truth t f in λ x y. any_below t.count (λ z. a (with_x v z x) (with_y v z y))
truth t (ALL f v) = let a = truth t f in λ x y. all_below t.count (λ z. a (with_x v z x) (with_y v z y))
truth t (TC f u v) = let c = closed t.count (truth t f) in λ x y. grid_test c (value u x y) (value v x y)
