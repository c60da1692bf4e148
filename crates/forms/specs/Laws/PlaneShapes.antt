-- Planes and lines of a buffer of the same length.
use Rattle.std.specs.Prelude.{◌≡◌, refl, List, ℕ, zero, suc, ◌*◌, ◌≤◌, length}
use Rattle.std.proofs.Common.{one-mul, mul-le-mul_right, arith}
use Rattle.planes.specs.Plane.{plane_size}
use Rattle.format.specs.Policy.{var_of}
use Rattle.format.specs.declared.kinds.Var.TheVariants.{Y}
use Rattle.lines.specs.Shapes.{Plane, Source}

-- a byte other than 0 names Y
pub other_var : (v : ℕ) → (v ≡ 0 → ⊥) → var_of v ≡ Y
other_var zero h = absurd (h refl)
other_var (suc v) h = refl

-- a line is no longer than its plane
pub line_small : (pitch : ℕ) → pitch ≤ plane_size pitch
line_small zero = omega arith
line_small (suc p) = let h : 1 ≤ suc p * 8 = omega arith in omega (arith, mul-le-mul_right (suc p) h, one-mul (suc p))

pub source_in : (a l : List ℕ) (pitch base p : ℕ) → length l ≡ length a → Source a pitch base p → Source l pitch base p
source_in a l pitch base p e S = record { within = omega (arith, S.within); apart = S.apart }

pub plane_in : (a l : List ℕ) (pitch p : ℕ) → length l ≡ length a → Plane a pitch p → Plane l pitch p
plane_in a l pitch p e P = record { small = P.small; within = omega (arith, P.within) }
