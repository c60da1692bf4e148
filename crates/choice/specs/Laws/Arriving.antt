-- Arriving states have places in the tables of who leads.
use Rattle.std.specs.Prelude.{◌≡◌, true, ◌/◌}
use Rattle.std.proofs.Common.{sym, subst, ◌∙◌}
use Rattle.std.proofs.Math.Path.{ap}
use Prim.Native.Nat.{ℕ, suc, ◌+◌, ◌*◌, ◌^◌, ◌<◌}
use Rattle.std.proofs.Math.Nat.{pow-suc}
use native.Mathlib.Omega.{arith}
use Rattle.format.specs.State.{state, header_of, port_of, switch_of, direction_of}
use Rattle.widths.specs.Widths.{states, within_limits}
use Rattle.format.specs.Laws.States.{state-lt, few_states, header_lt, port_lt, switch_lt, state_of_lem}
use Rattle.widths.specs.declared.Widths.{Widths}
use Rattle.states.specs.declared.Frame.{Frame}
use Rattle.states.specs.Frames.{FitsIn}
use Rattle.choice.specs.Leads.{most_arriving}

-- of the states those that arrive are the first half
pub arriving_half : (w : Widths) (sw p h : ℕ) → sw < 2 ^ w.w → p < 2 ^ w.p → h < 2 ^ w.h → state w 0 sw p h < states w / 2
unfolding state states
arriving_half w sw p h hs hp hh =
    let e : 1 + w.h + w.p + w.w ≡ suc (w.h + w.p + w.w) = omega arith in
    let q : 2 ^ (1 + w.h + w.p + w.w) ≡ 2 ^ (w.h + w.p + w.w) * 2 = ap (λ (n : ℕ). 2 ^ n) e ∙ pow-suc 2 (w.h + w.p + w.w) in
    omega (arith, state-lt w 1 sw p h (omega arith) hs hp hh, q)

module _ (w : Widths) (limits : within_limits w ≡ true) where
  pub arriving-lt : (sw p h : ℕ) → sw < 2 ^ w.w → p < 2 ^ w.p → h < 2 ^ w.h → state w 0 sw p h < most_arriving
  arriving-lt sw p h hs hp hh = omega (arith, arriving_half w sw p h hs hp hh, few_states w limits)

  -- a number whose direction is 0 is that of the arriving state of its parts
  module _ (s : ℕ) (e : direction_of w s ≡ 0) where
    pub arriving_of : state w 0 (switch_of w s) (port_of w s) (header_of w s) ≡ s
    arriving_of = ap (λ (d : ℕ). state w d (switch_of w s) (port_of w s) (header_of w s)) (sym e) ∙ state_of_lem w s

    pub arrives-lt : s < most_arriving
    arrives-lt = subst (λ (n : ℕ). n < most_arriving) arriving_of (arriving-lt (switch_of w s) (port_of w s) (header_of w s) (switch_lt w s) (port_lt w s) (header_lt w s))

  pub frame-lt : (frame : Frame) → FitsIn w frame → state w 0 frame.switch frame.port frame.header < most_arriving
  frame-lt frame F = arriving-lt frame.switch frame.port frame.header F.switch F.port F.header
