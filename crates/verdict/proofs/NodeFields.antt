-- What rows 5 and 9 say of a policy node: its operands are earlier nodes, and BIT names a bit of a state.
use mathlib.Core.Path.{◌≡◌, sym, subst, ◌∙◌}
use mathlib.Core.Bool.{true, ◌&&◌, false≢true}
use mathlib.Core.Logic.{◌⊎◌, ⊎_elim}
use Prim.Native.Nat.{ℕ, zero, suc, ◌<◌}
use native.Mathlib.Omega.{arith}
use borrow.Author.Tests.{ltb-true}
use lib.Dec.{leb, ltb}
use Rattle.basics.specs.Laws.Tests.{and_left, and_right}
use Rattle.format.specs.Record.{Rec, most_policies, at, kind}
use Rattle.widths.specs.Widths.{width}
use Rattle.format.specs.Policy.{node_kind}
use Rattle.refusals.specs.Rows.{operands_good}
use Rattle.format.specs.Fields.{node_good, fields_good, zeros}
use Rattle.format.specs.Laws.Fields.{node_fields_lem}
use Rattle.widths.specs.declared.Widths.{Widths}
use Rattle.nodes.specs.Node.{Operand}

-- operands that are earlier, by the kind of the node
pub earlier_operand : (k a b i : ℕ) → operands_good k a b i ≡ true → (j : ℕ) → Operand (node_kind k) a b j → j < i
unfolding operands_good node_kind
earlier_operand k a b i g j o = go k g o
  where
    first : ltb a i ≡ true → (0 < 1) × (j ≡ a) → j < i
    first t p = omega (arith, ltb-true a i t, p.1)

    both : (ltb a i && ltb b i) ≡ true → ((0 < 2) × (j ≡ a)) ⊎ ((1 < 2) × (j ≡ b)) → j < i
    both t o =
        ⊎_elim (λ p. omega (arith, ltb-true a i (and_left (ltb a i) (ltb b i) t), p.1))
        (λ p. omega (arith, ltb-true b i (and_right (ltb a i) (ltb b i) t), p.1)) o

    only : ltb a i ≡ true → ((0 < 1) × (j ≡ a)) ⊎ ((1 < 1) × (j ≡ b)) → j < i
    only t o = ⊎_elim (λ p. first t p) (λ p. absurd (omega (arith, p.0))) o

    none : ((0 < 0) × (j ≡ a)) ⊎ ((1 < 0) × (j ≡ b)) → j < i
    none o = ⊎_elim (λ p. absurd (omega (arith, p.0))) (λ p. absurd (omega (arith, p.0))) o

    go : (k : ℕ) → operands_good k a b i ≡ true → Operand (node_kind k) a b j → j < i
    go zero g o = none o
    go (suc zero) g o = none o
    go (suc (suc zero)) g o = none o
    go (suc (suc (suc zero))) g o = only g o
    go (suc (suc (suc (suc zero)))) g o = both g o
    go (suc (suc (suc (suc (suc zero))))) g o = both g o
    go (suc (suc (suc (suc (suc (suc zero)))))) g o = only g o
    go (suc (suc (suc (suc (suc (suc (suc zero))))))) g o = only g o
    go (suc (suc (suc (suc (suc (suc (suc (suc zero)))))))) g o = only g o
    go (suc (suc (suc (suc (suc (suc (suc (suc (suc k))))))))) g o = absurd (false≢true g)

-- a BIT node names a bit of a state
bit_good : (w : Widths) (a b : ℕ) → node_good w 0 a b ≡ true → b < width w
unfolding node_good node_kind
bit_good w a b g = ltb-true b (width w) (and_right (leb a 1) (ltb b (width w)) g)

pub bit_field : (w : Widths) (r : Rec) → kind r ≡ 5 → fields_good w r ≡ true → at r 2 ≡ 0 → at r 4 < width w
bit_field w r e h z =
    let n = node_good w (at r 2) (at r 3) (at r 4) in
    let g : (leb (at r 1) most_policies && n && zeros 5 23 r) ≡ true = sym (node_fields_lem w r e) ∙ h in
    let t : n ≡ true = and_right (leb (at r 1) most_policies) n (and_left (leb (at r 1) most_policies && n) (zeros 5 23 r) g) in
    bit_good w (at r 3) (at r 4) (subst (λ (k : ℕ). node_good w k (at r 3) (at r 4) ≡ true) z t)
