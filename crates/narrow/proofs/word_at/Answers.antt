-- `narrow::word_at` meets its contract.
use mathlib.Core.Path.{refl, sym, ap, ◌∙◌}
use mathlib.Core.List.{[], ◌∷◌}
use Prim.Native.Nat.{ℕ, ◌/◌, ◌%◌, ◌<◌}
use native.Mathlib.Omega.{arith}
use lib.ListN.{get_or}
use Rattle.basics.specs.Bit.{bit_of}
use Rattle.planes.specs.Laws.Places.{bit_at}
use Rattle.narrow.proofs.WordLines.{joined_bit, four_same, four_small}
use Rattle.narrow.proofs.word_at.Goals as goal

pub returns : goal.returns
returns c = λ i h.
    let p = c.args.p.now in
    let a = c.byte_at.result in
    let b = c.byte_at-2.result in
    let d = c.byte_at-3.result in
    let e = c.byte_at-4.result in
    let small : (j : ℕ) → get_or (a ∷ b ∷ d ∷ e ∷ []) j 0 < 256 = four_small p c.args.at c.args.pitch a b d e (omega arith) (omega arith) (omega arith) (omega arith) in
    joined_bit c.from_le_bytes.result i (a ∷ b ∷ d ∷ e ∷ []) refl small c.from_le_bytes.ensures (omega (arith, h, c.requires.1))
    ∙ ap (λ (v : ℕ). bit_of v (i % 8))
    (four_same p c.args.at c.args.pitch a b d e c.byte_at.ensures c.byte_at-2.ensures c.byte_at-3.ensures c.byte_at-4.ensures c.requires.1 (i / 8) (omega (arith, h)))
    ∙ sym (bit_at _ _ i)
