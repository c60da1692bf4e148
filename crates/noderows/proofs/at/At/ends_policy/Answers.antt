use borrow.Author.Tests.{eq-eqb}
use Rattle.std.proofs.Common.{◌≡◌, Bool, true, false, not, ◌&&◌, ◌||◌, List, ℕ, ◌+◌, ◌-◌, ◌*◌, ◌<◌, eqb, get_or, refl, sym, ap, ◌∙◌, arith}
use Rattle.std.proofs.lemmas.Bool.{false≢true}
use Rattle.format.specs.Record.{records}
use Rattle.format.specs.Search.{record_at, records_after}
use Rattle.refusals.specs.Rows.{ends_policy}
use Rattle.format.specs.Laws.Records.{records_left, record_kind_lem, record_byte}
use Rattle.noderows.proofs.at.At.ends_policy.Goals.{then-self, else-self}
use Rattle.noderows.proofs.at.At.ends_policy.Goals as goal

apart : (b c : Bool) → not (b && c) ≡ (not b || not c)
apart true c = refl
apart false c = refl

-- what the next record says, where there is one
by_next : (s : List ℕ) (n i : ℕ) → i < n → (i + 1 ≡ n → ⊥)
    → ends_policy (record_at s i) (records_after n s i) ≡ (not (eqb (get_or s (i * 24 + 24) 0) 5) || not (eqb (get_or s (i * 24 + 24 + 1) 0) (get_or s (i * 24 + 1) 0)))
unfolding ends_policy
by_next s n i l h =
    let e : (i + 1) * 24 ≡ i * 24 + 24 = omega arith in
    ap (ends_policy (record_at s i)) (records_left s n (i + 1) (omega (arith, l, h)))
    ∙ rw (record_kind_lem s (i + 1), record_byte s (i + 1) 1 (omega arith), record_byte s i 1 (omega arith), e) (apart _ _)

-- and where there is none
at_end : (s : List ℕ) (n i : ℕ) → i + 1 ≡ n → ends_policy (record_at s i) (records_after n s i) ≡ true
unfolding ends_policy records
at_end s n i h =
    let e : n - (i + 1) ≡ 0 = omega arith in
    rw e

pub returns-then-self-next-ne5 : goal.returns-then-self-next-ne5
returns-then-self-next-ne5 c =
    let at = c.args.self.now in
    elim c.if-self.branch [
      | then-self w ↦ w.value-is ∙ eq-eqb _ _ w.if-self.true ∙ sym (at_end at.store.now at.n at.i w.if-self.true)
      | else-self w ↦ c.if-self-next-ne5.true ∙ sym (by_next at.store.now at.n at.i at.within w.if-self.false ∙ rw (sym w.value-is ∙ c.if-self-next-ne5.true))
    ]

pub returns-else-self-next-ne5 : goal.returns-else-self-next-ne5
returns-else-self-next-ne5 c =
    let at = c.args.self.now in
    elim c.if-self.branch [
      | then-self w ↦ absurd (false≢true (sym c.if-self-next-ne5.false ∙ w.value-is ∙ eq-eqb _ _ w.if-self.true))
      | else-self w ↦ sym (by_next at.store.now at.n at.i at.within w.if-self.false ∙ rw (sym w.value-is ∙ c.if-self-next-ne5.false))
    ]
