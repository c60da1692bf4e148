-- Bytes that are read while others are laid one by one.
use mathlib.Core.Path.{◌≡◌}
use mathlib.Core.List.{List}
use mathlib.Core.Logic.{⊎_elim}
use Prim.Native.Nat.{ℕ, ◌+◌, ◌<◌}
use native.Mathlib.Omega.{arith}
use lib.ListN.{get_or}
use Rattle.planes.specs.Lines.{Laid}
use Rattle.lines.specs.Shapes.{Span}

-- where j bytes are laid, byte j of a span is as before
pub span_kept : (f : ℕ → ℕ) (len to a j : ℕ) (before now : List ℕ) → Span before len to a → Laid f to j before now → j < len → get_or now (a + j) 0 ≡ get_or before (a + j) 0
span_kept f len to a j before now S L h = ⊎_elim (λ q. L.under (a + j) (omega arith)) (λ q. L.over (a + j) (omega arith)) S.ahead
