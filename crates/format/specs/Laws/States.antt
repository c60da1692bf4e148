-- Laws of the numbers of packet states, over the widths.
use Rattle.std.specs.Prelude.{◌≡◌, true, ℕ, ◌+◌, ◌-◌, ◌*◌, ◌/◌, ◌%◌, ◌^◌, ◌<◌, ◌≤◌}
use Rattle.std.proofs.Math.Path.{sym, ap, ap₂, subst⁻¹}
use Rattle.std.proofs.Common.{subst, ◌∙◌, pow_pos, pow_mono, shr-shr}
use Rattle.std.proofs.Math.Nat.{mod-lt}
use native.Mathlib.Omega.{arith}
use Rattle.std.proofs.Math.Arith.{digits_lt}
use Rattle.std.proofs.Math.Pow.{pow-add, shr_lt, split, high, low}
use Rattle.widths.specs.Widths.{width, states, within_limits}
use Rattle.format.specs.State.{state, header_of, port_of, switch_of, direction_of}
use Rattle.widths.specs.declared.Widths.{Widths}
use Rattle.widths.specs.Laws.Limits.{limits}

digits : (d s p h H P W : ℕ) → d * (H * P * W) + s * (H * P) + p * H + h ≡ ((d * W + s) * P + p) * H + h
digits d s p h H P W = omega arith

product : (H P W : ℕ) → 2 * H * P * W ≡ 2 * W * P * H
product H P W = omega arith

module _ (w : Widths) where
  abbrev H : ℕ
  H = 2 ^ w.h

  abbrev P : ℕ
  P = 2 ^ w.p

  abbrev W : ℕ
  W = 2 ^ w.w

  -- the number of a state, part after part
  pub state_digits : (d sw p h : ℕ) → state w d sw p h ≡ ((d * 2 ^ w.w + sw) * 2 ^ w.p + p) * 2 ^ w.h + h
  unfolding state
  state_digits d sw p h =
      ap₂ (λ (x y : ℕ). d * x + sw * y + p * H + h)
      (pow-add 2 (w.h + w.p) w.w ∙ ap (λ (x : ℕ). x * W) (pow-add 2 w.h w.p))
      (pow-add 2 w.h w.p)
      ∙ digits d sw p h H P W

  states_product : states w ≡ 2 * W * P * H
  unfolding states
  states_product =
      pow-add 2 (1 + w.h + w.p) w.w
      ∙ ap (λ (x : ℕ). x * W) (pow-add 2 (1 + w.h) w.p ∙ ap (λ (x : ℕ). x * P) (pow-add 2 1 w.h))
      ∙ product H P W

  -- a state has a number below their count
  pub state-lt : (d sw p h : ℕ) → d < 2 → sw < 2 ^ w.w → p < 2 ^ w.p → h < 2 ^ w.h → state w d sw p h < states w
  state-lt d sw p h hd hs hp hh =
      subst⁻¹ (λ (x : ℕ). x < states w) (state_digits d sw p h)
      (subst⁻¹ (λ (x : ℕ). ((d * W + sw) * P + p) * H + h < x) states_product
      (digits_lt (digits_lt (digits_lt hd hs) hp) hh))

  -- the parts of a number
  pub header_lt : (s : ℕ) → header_of w s < 2 ^ w.h
  unfolding header_of
  header_lt s = mod-lt s (pow_pos w.h)

  pub port_lt : (s : ℕ) → port_of w s < 2 ^ w.p
  unfolding port_of
  port_lt s = mod-lt (s / H) (pow_pos w.p)

  pub switch_lt : (s : ℕ) → switch_of w s < 2 ^ w.w
  unfolding switch_of
  switch_lt s = mod-lt (s / 2 ^ (w.h + w.p)) (pow_pos w.w)

  pub direction_lt : (s : ℕ) → s < states w → direction_of w s < 2
  unfolding states direction_of
  direction_lt s h =
      let e : width w ≡ 1 + (w.h + w.p + w.w) = omega arith in
      shr_lt 1 (w.h + w.p + w.w) (subst (λ (x : ℕ). s < 2 ^ x) e h)

  -- the parts of a state's number are the state's
  module _ (d sw p h : ℕ) (hs : sw < 2 ^ w.w) (hp : p < 2 ^ w.p) (hh : h < 2 ^ w.h) where
    above_header : state w d sw p h / H ≡ (d * W + sw) * P + p
    above_header = ap (λ (x : ℕ). x / H) (state_digits d sw p h) ∙ high ((d * W + sw) * P + p) w.h hh

    above_port : state w d sw p h / 2 ^ (w.h + w.p) ≡ d * W + sw
    above_port =
        sym (shr-shr (state w d sw p h) w.h w.p)
        ∙ ap (λ (x : ℕ). x / P) above_header
        ∙ high (d * W + sw) w.p hp

    pub header_of_lem : header_of w (state w d sw p h) ≡ h
    unfolding header_of
    header_of_lem = ap (λ (x : ℕ). x % H) (state_digits d sw p h) ∙ low ((d * W + sw) * P + p) w.h hh

    pub port_of_lem : port_of w (state w d sw p h) ≡ p
    unfolding port_of
    port_of_lem = ap (λ (x : ℕ). x % P) above_header ∙ low (d * W + sw) w.p hp

    pub switch_of_lem : switch_of w (state w d sw p h) ≡ sw
    unfolding switch_of
    switch_of_lem = ap (λ (x : ℕ). x % W) above_port ∙ low d w.w hs

    pub direction_of_lem : direction_of w (state w d sw p h) ≡ d
    unfolding direction_of
    direction_of_lem =
        sym (shr-shr (state w d sw p h) (w.h + w.p) w.w)
        ∙ ap (λ (x : ℕ). x / W) above_port
        ∙ high d w.w hs

  -- a number is the state of its parts
  pub state_of_lem : (s : ℕ) → state w (direction_of w s) (switch_of w s) (port_of w s) (header_of w s) ≡ s
  unfolding header_of port_of switch_of direction_of
  state_of_lem s =
      state_digits (s / 2 ^ (w.h + w.p + w.w)) (s / 2 ^ (w.h + w.p) % W) (s / H % P) (s % H)
      ∙ ap (λ (x : ℕ). ((x * W + s / 2 ^ (w.h + w.p) % W) * P + s / H % P) * H + s % H) (sym (shr-shr s (w.h + w.p) w.w))
      ∙ ap (λ (x : ℕ). (x * P + s / H % P) * H + s % H) (split (s / 2 ^ (w.h + w.p)) w.w ∙ sym (shr-shr s w.h w.p))
      ∙ ap (λ (x : ℕ). x * H + s % H) (split (s / H) w.p)
      ∙ split s w.h

-- the states fill whole bytes
pub whole_bytes : (w : Widths) → within_limits w ≡ true → states w ≡ states w / 8 * 8
unfolding states
whole_bytes w e =
    let l = limits w e in
    let q : width w - 3 + 3 ≡ width w = omega arith in
    subst (λ (m : ℕ). 2 ^ m ≡ 2 ^ m / 8 * 8) q
    (subst (λ (p : ℕ). p ≡ p / 8 * 8) (sym (pow-add 2 (width w - 3) 3)) (omega arith))

-- there are at most 1024
pub few_states : (w : Widths) → within_limits w ≡ true → states w ≤ 1024
unfolding states
few_states w e = pow_mono {j = 10} (limits w e).bits
