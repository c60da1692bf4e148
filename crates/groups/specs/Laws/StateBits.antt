-- The bit of a state in a line, in whichever direction, and room for it with another header.
use Rattle.std.proofs.Common.{subst, arith}
use Rattle.std.specs.Prelude.{◌≡◌, true, List, [], ◌∷◌, ℕ, ◌+◌, ◌*◌, ◌/◌, ◌^◌, ◌<◌, ◌≤◌, length}
use Rattle.planes.specs.Lines.{BitSet}
use Rattle.widths.specs.Widths.{within_limits, line_bytes}
use Rattle.format.specs.State.{state}
use Rattle.format.specs.Laws.States.{state-lt, whole_bytes}
use Rattle.widths.specs.declared.Widths.{Widths}
use Rattle.planes.specs.Adds.{Added}
use Rattle.groups.specs.Sent.{Sends}
use Rattle.planes.specs.Laws.AddedBits.{added_one}

-- so it is later, with another header
pub sends_on : (w : Widths) (line sw h k : ℕ) (a b : List ℕ) → length b ≡ length a → k < 2 ^ w.h → Sends w line sw h a → Sends w line sw k b
sends_on w line sw h k a b e l S = record { ready = record { limits = S.ready.limits; room = omega (arith, S.ready.room); header = l }; switch = S.switch }

-- the bit of a state, where n is its number
module _ (w : Widths) (limits : within_limits w ≡ true) (line d sw q h n : ℕ) (hd : d < 2) (hs : sw < 2 ^ w.w) (hq : q < 2 ^ w.p) (hh : h < 2 ^ w.h)
    (is : n ≡ state w d sw q h) where
  has_bit : n < line_bytes w * 8
  has_bit = omega (arith, is, state-lt w d sw q h hd hs hq hh, whole_bytes w limits)

  pub has_byte : (a : List ℕ) → line + line_bytes w ≤ length a → line + n / 8 < length a
  has_byte a r = omega (arith, has_bit)

  pub state_added : (a b : List ℕ) → BitSet (line * 8 + n) a b → Added (state w d sw q h ∷ []) line (line_bytes w) a b
  state_added a b S = subst (λ (m : ℕ). Added (m ∷ []) line (line_bytes w) a b) is (added_one line (line_bytes w) n a b S has_bit)
