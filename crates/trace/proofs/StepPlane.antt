-- The step plane at the front of the work buffer, as the code reads it.
use mathlib.Core.Path.{◌≡◌, ap, ◌∙◌}
use mathlib.Core.List.{List}
use Prim.Native.Nat.{ℕ, ◌+◌, ◌*◌, ◌<◌, ◌≤◌}
use native.Mathlib.Omega.{arith}
use Rattle.std.specs.List.{between}
use Rattle.std.proofs.lemmas.List.Edits.{length-between}
use lib.ListN.{length}
use mathlib.Core.Bool.{Bool}
use Rattle.words.specs.Laws.Seeking.{part_bit}
use Rattle.trace.specs.Search.{LineOf}
use Rattle.planes.specs.Plane.{bit, cell, plane_size}
use Rattle.planes.specs.Laws.Places.{line_before}

-- the bytes of a state's line are within its plane
pub line_in : (pitch x : ℕ) → x < pitch * 8 → x * pitch + pitch ≤ plane_size pitch
line_in pitch x h = line_before x (pitch * 8) pitch h

-- the bit that is read is the step
pub step_bit : (work : List ℕ) (pitch x y : ℕ) → bit work (x * pitch * 8 + y) ≡ cell work 0 pitch x y
step_bit work pitch x y = let e : x * pitch ≡ 0 + x * pitch = omega arith in ap (λ (n : ℕ). bit work (n * 8 + y)) e

-- a part of the buffer is a line, where its bits are those
pub line_is : (bytes line : List ℕ) (at pitch : ℕ) (f : ℕ → Bool) → line ≡ between at (at + pitch) bytes → at + pitch ≤ length bytes
    → ((y : ℕ) → y < pitch * 8 → bit bytes (at * 8 + y) ≡ f y) → LineOf f pitch line
line_is bytes line at pitch f e h b = rw e (record {
  width = omega (arith, length-between bytes at (at + pitch) h);
  bits = λ y hy. part_bit bytes at (at + pitch) y (omega arith) ∙ b y hy;
})
