use Rattle.std.proofs.Common.{◌≡◌, Bool, true, false, not, ◌||◌, ◌++◌, ◌∷◌, ◌⊎◌, inl, inr, leb, refl, sym, ap, ◌∙◌, arith}
use Rattle.std.proofs.lemmas.Bool.{false≢true}
use Rattle.widths.specs.Laws.Limits.{limits}
use Rattle.format.specs.Record.{kind}
use Rattle.format.specs.Fields.{fields_good}
use Rattle.format.specs.Group.{buckets_there}
use Rattle.format.specs.Laws.Records.{record_length}
use Rattle.format.specs.Laws.NamedGroups.{buckets_named}
use Rattle.refusals.specs.Rows.{out_of_order, row16}
use Rattle.recordrow.specs.Laws.RecordRows.{group_row}
use Rattle.recordrow.specs.Turn.{before_turn, at_turn, after_turn}
use Rattle.recordrow.specs.declared.turn.Turn.{Turn}
use Rattle.recordrow.proofs.Turns.{named}
use Rattle.recordrow.proofs.turn.Turn.group_faulty.Goals.{then-not-group_good, else-not-group_good, then-out_of_order, else-out_of_order}
use Rattle.recordrow.proofs.turn.Turn.group_faulty.Goals as goal

-- a value by a test, and by another where that fails
abbrev Either : Bool → Bool → Bool → Type 0
Either a b v = ((a ≡ true) × (v ≡ a)) ⊎ ((a ≡ false) × (v ≡ b))

either : (a b v : Bool) → Either a b v → v ≡ (a || b)
either true b v (inl h) = h.1
either false b v (inl h) = absurd (false≢true h.0)
either true b v (inr h) = absurd (false≢true (sym h.0))
either false b v (inr h) = h.1

-- the first three tests of the code by their values, and the fourth
module _ (t : Turn) (group : kind (at_turn t) ≡ 9) where
  abbrev good : Bool
  good = fields_good t.seen.widths (at_turn t)

  abbrev last : Bool
  last = not (buckets_there (before_turn t ++ (at_turn t ∷ after_turn t)) (at_turn t))

  module _ (one two full : Bool) (first : Either (not good) (out_of_order (before_turn t) (at_turn t)) one) (second : Either one full two) where
    value : two ≡ ((not good || out_of_order (before_turn t) (at_turn t)) || full)
    value = either one _ two second ∙ ap (λ (b : Bool). b || full) (either (not good) _ one first)

    sound : two ≡ false → good ≡ true
    sound h = go good _ _ (sym value ∙ h)
      where
        go : (g o m : Bool) → ((not g || o) || m) ≡ false → g ≡ true
        go false o m q = absurd (false≢true (sym q))
        go true o m q = refl

  module _ (one two : Bool) (first : Either (not good) (out_of_order (before_turn t) (at_turn t)) one) (second : Either one (leb 16 t.seen.groups.count) two) where
    tested : two ≡ ((not good || out_of_order (before_turn t) (at_turn t)) || leb 16 t.seen.groups.count)
    tested = value one two _ first second

    met : two ≡ true → two ≡ row16 (before_turn t) (at_turn t) (after_turn t)
    met h = h ∙ sym (group_row _ _ t.known _ (after_turn t) group ∙ go good _ _ (sym tested ∙ h))
      where
        go : (g o m : Bool) → ((not g || o) || m) ≡ true → (not g || o || m || last) ≡ true
        go false o m q = refl
        go true true m q = refl
        go true false true q = refl
        go true false false q = absurd (false≢true q)

    unmet : two ≡ false → last ≡ row16 (before_turn t) (at_turn t) (after_turn t)
    unmet h = sym (group_row _ _ t.known _ (after_turn t) group ∙ go good _ _ (sym tested ∙ h))
      where
        go : (g o m : Bool) → ((not g || o) || m) ≡ false → (not g || o || m || last) ≡ last
        go false o m q = absurd (false≢true (sym q))
        go true true m q = absurd (false≢true (sym q))
        go true false true q = absurd (false≢true (sym q))
        go true false false q = refl

pub buckets_there-requires : goal.buckets_there-requires
buckets_there-requires c =
    let t = c.args.self.now in
    let is = rw c.record-r.ensures.is at c.group_good.ensures in
    let whole = record_length t.at.store.now t.at.i (omega (arith, t.at.room, t.at.within)) in
    let good =
    sound t c.requires.0 c.if-not-group_good.value c.if-out_of_order.value (leb 16 t.seen.groups.count)
    (
    elim c.if-not-group_good.branch [
      | then-not-group_good w ↦ inl (ap not (sym is ∙ w.if-not-group_good.true), w.value-is ∙ ap not is)
      | else-not-group_good w ↦ inr (ap not (sym is ∙ w.if-not-group_good.false), w.value-is ∙ rw c.record-r.ensures.is at w.out_of_order.ensures _ t.known.groups)
    ]
    ) (
    elim c.if-out_of_order.branch [
      | then-out_of_order w ↦ inl (w.if-out_of_order.true, w.value-is)
      | else-out_of_order w ↦ inr (w.if-out_of_order.false, w.value-is)
    ]
    ) c.if-self-ge-MOST_GROUPS.false in
    rw c.record-r.ensures.is (buckets_named _ (limits _ (t.known.limits c.requires.1)) _ whole c.requires.0 good)

pub returns-then-self-ge-MOST_GROUPS-clause-is : goal.returns-then-self-ge-MOST_GROUPS-clause-is
returns-then-self-ge-MOST_GROUPS-clause-is c =
    let t = c.args.self.now in
    let is = rw c.record-r.ensures.is at c.group_good.ensures in
    met t c.requires.0 c.if-not-group_good.value c.if-out_of_order.value
    (
    elim c.if-not-group_good.branch [
      | then-not-group_good w ↦ inl (ap not (sym is ∙ w.if-not-group_good.true), w.value-is ∙ ap not is)
      | else-not-group_good w ↦ inr (ap not (sym is ∙ w.if-not-group_good.false), w.value-is ∙ rw c.record-r.ensures.is at w.out_of_order.ensures _ t.known.groups)
    ]
    ) (
    elim c.if-out_of_order.branch [
      | then-out_of_order w ↦ inl (w.if-out_of_order.true, w.value-is)
      | else-out_of_order w ↦ inr (w.if-out_of_order.false, w.value-is)
    ]
    ) c.if-self-ge-MOST_GROUPS.true

pub returns-else-self-ge-MOST_GROUPS-clause-is : goal.returns-else-self-ge-MOST_GROUPS-clause-is
returns-else-self-ge-MOST_GROUPS-clause-is c =
    let t = c.args.self.now in
    let is = rw c.record-r.ensures.is at c.group_good.ensures in
    ap not (rw c.record-r.ensures.is at c.buckets_there.ensures _ (named t))
    ∙ unmet t c.requires.0 c.if-not-group_good.value c.if-out_of_order.value
    (
    elim c.if-not-group_good.branch [
      | then-not-group_good w ↦ inl (ap not (sym is ∙ w.if-not-group_good.true), w.value-is ∙ ap not is)
      | else-not-group_good w ↦ inr (ap not (sym is ∙ w.if-not-group_good.false), w.value-is ∙ rw c.record-r.ensures.is at w.out_of_order.ensures _ t.known.groups)
    ]
    ) (
    elim c.if-out_of_order.branch [
      | then-out_of_order w ↦ inl (w.if-out_of_order.true, w.value-is)
      | else-out_of_order w ↦ inr (w.if-out_of_order.false, w.value-is)
    ]
    ) c.if-self-ge-MOST_GROUPS.false
