-- The bits of copies, and ports without the arrival port.
use Rattle.std.proofs.Common.{eq-eqb, ne_eqb, arith}
use Rattle.std.specs.Prelude.{◌≡◌, Bool, true, not, List, [], ◌∷◌, ℕ, ◌+◌, ◌*◌, ◌/◌, ◌^◌, ◌<◌, length}
use Rattle.std.proofs.Math.Path.{ap}
use Rattle.std.proofs.Math.Bool.{cond}
use Rattle.planes.specs.Lines.{BitSet}
use Rattle.basics.specs.Lists.{keep}
use Rattle.widths.specs.Widths.{within_limits, line_bytes}
use Rattle.format.specs.State.{state}
use Rattle.format.specs.Laws.States.{state-lt, whole_bytes, few_states}
use Rattle.widths.specs.declared.Widths.{Widths}
use Rattle.planes.specs.Adds.{Added}
use Rattle.onestep.specs.Departing.{except}
use Rattle.groups.specs.Sent.{Sends}
use Rattle.planes.specs.Laws.AddedBits.{added_one}

-- a copy that departs at port q has its bit in the line
module _ (w : Widths) (line sw q h : ℕ) (a : List ℕ) (S : Sends w line sw h a) (hq : q < 2 ^ w.p) where
  has_bit : state w 1 sw q h < line_bytes w * 8
  has_bit =
      let limits = S.ready.limits in
      omega (arith, state-lt w 1 sw q h (omega arith) S.switch hq S.ready.header, whole_bytes w limits)

  pub has_byte : line + state w 1 sw q h / 8 < length a
  has_byte = omega (arith, has_bit, S.ready.room)

  pub copy_added : (b : List ℕ) → BitSet (line * 8 + state w 1 sw q h) a b → Added (state w 1 sw q h ∷ []) line (line_bytes w) a b
  copy_added b B = added_one line (line_bytes w) _ a b B has_bit

-- a line of its own has room for a copy of the frame
pub own_line : (w : Widths) (sw h : ℕ) (line : List ℕ) → within_limits w ≡ true → length line ≡ 128 → h < 2 ^ w.h → sw < 2 ^ w.w → Sends w 0 sw h line
own_line w sw h line limits e lh ls =
    record { ready = record { limits = limits; room = omega (arith, e, whole_bytes w limits, few_states w limits); header = lh }; switch = ls }

-- one port, and the arrival port
module _ (p q : ℕ) where
  pub except_same : q ≡ p → except p (q ∷ []) ≡ []
  unfolding except keep
  except_same e = ap (λ (t : Bool). cond (not t) (q ∷ []) []) (eq-eqb q p e)

  pub except_other : (q ≡ p → ⊥) → except p (q ∷ []) ≡ q ∷ []
  unfolding except keep
  except_other n = ap (λ (t : Bool). cond (not t) (q ∷ []) []) (ne_eqb q p n)
