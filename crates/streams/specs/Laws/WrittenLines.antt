-- A line that is made part by part.
use Rattle.std.proofs.Common.{sym, ap, ◌∙◌, append_assoc, arith, length-append, length-take-le}
use Rattle.std.specs.Prelude.{List, ◌++◌, ℕ, ◌+◌, ◌^◌, ◌≤◌, ◌<◌, length, take}
use Rattle.streams.specs.Text.{decimal}
use Rattle.streams.specs.Written.{TextAdded, Written}
use Rattle.streams.specs.Laws.Decimal.{at_most_20}

-- a part behind a part
pub then : {t u b b₁ b₂ : List ℕ} {at r s : ℕ} → TextAdded t at b b₁ r → TextAdded u r b₁ b₂ s → TextAdded (t ++ u) at b b₂ s
then {t} {u} {b} {at = at} a c =
    record {
      size = c.size ∙ omega (arith, a.size, length-append t u);
      within = c.within;
      len = c.len ∙ a.len;
      line = c.line ∙ ap (λ (l : List ℕ). l ++ u) a.line ∙ append_assoc (take at b) t u;
    }

-- the whole line
pub line_written : {t b b₁ : List ℕ} {r : ℕ} → TextAdded t 0 b b₁ r → Written t b₁ r
line_written {b₁ = b₁} {r} a = record { counts = (a.within, sym (length-take-le r b₁ a.within)); line = a.line }

-- behind a machine word there are 60 bytes of the 80 left
pub room : {n r : ℕ} {b b₁ : List ℕ} → TextAdded (decimal n) 0 b b₁ r → n < 2 ^ 64 → 80 ≤ length b → r + 60 ≤ length b₁
room {n} a h k = omega (arith, a.size, a.len, at_most_20 n h)
