-- `lines::over_bytes` meets its contract. The loop's invariant: the bits of c test what the bits of the j bytes passed do.
use mathlib.Core.Path.{◌≡◌}
use Prim.Native.Nat.{ℕ, ◌*◌}
use Rattle.basics.specs.Bit.{bit_of}
use Rattle.lines.specs.Shapes.{over, op_of, bits_of}
use Rattle.lines.proofs.over_bytes.Given as goal

abbrev pub invariant-loop-j : goal.invariant-loop-j
invariant-loop-j g l = (f : ℕ → ℕ) → ((j v : ℕ) → goal.F-post g l.get j v → v ≡ f j) → over (op_of l.q) 8 (bit_of l.c) ≡ over (op_of l.q) (l.j * 8) (bits_of f)
