-- The groups of a network that no row refuses ascend strictly, by switch and then by number: so no two are the same group.
use Rattle.std.proofs.Common.{eqb-true, ltb-true, lt-ltb, sym, subst₂, ◌∙◌, inl, inr, ⊎_elim, arith, length-append}
use Rattle.std.proofs.lemmas.Bool.{not-false}
use Rattle.std.specs.Prelude.{◌≡◌, refl, Bool, true, false, ◌&&◌, [], ◌∷◌, ◌++◌, ◌⊎◌, ℕ, ◌+◌, ◌-◌, ◌<◌, eqb, ltb, length, get_or}
use Rattle.std.proofs.Math.Path.{subst⁻¹}
use Rattle.std.proofs.Math.Option.{none}
use Rattle.std.proofs.Math.Decide.{ℕ_discrete, dec_lt}
use Rattle.std.proofs.Math.ListN.{get_or-append}
use Rattle.std.proofs.lemmas.List.{get_or_at}
use Rattle.basics.specs.Laws.Tests.{both, or_cases}
use Rattle.basics.specs.Lists.{keep}
use Rattle.format.specs.Record.{Rec, Net, at, kind, of_kind}
use Rattle.basics.specs.Laws.Lists.{keep_in, keep_out}
use Rattle.format.specs.Laws.Kinds.{is_group_record}
use Rattle.refusals.specs.Rows.{ascends, last_group, out_of_order}
use Rattle.refusals.specs.Refusal.{file_row}
use Rattle.refusals.specs.Laws.Passing.{Passes, group_ascends, and_test, clean_all}

-- one group stands before another
abbrev pub Precedes : Rec → Rec → Type 0
Precedes q r = (at q 1 < at r 1) ⊎ ((at q 1 ≡ at r 1) × (at q 2 < at r 2))

-- that is what the test says
pub ascends_precedes : (q r : Rec) → ascends q r ≡ true → Precedes q r
unfolding ascends
ascends_precedes q r e =
    ⊎_elim (λ a. inl (ltb-true (at q 1) (at r 1) a)) (λ b. let t = both (eqb (at q 1) (at r 1)) (ltb (at q 2) (at r 2)) b in inr (eqb-true _ _ t.0, ltb-true _ _ t.1))
    (or_cases (ltb (at q 1) (at r 1)) (eqb (at q 1) (at r 1) && ltb (at q 2) (at r 2)) e)

-- one before another before a third stands before that
precedes_trans : (p q r : Rec) → Precedes p q → Precedes q r → Precedes p r
precedes_trans p q r (inl a) (inl b) = inl (omega arith)
precedes_trans p q r (inl a) (inr b) = inl (omega (arith, b.0))
precedes_trans p q r (inr a) (inl b) = inl (omega (arith, a.0))
precedes_trans p q r (inr a) (inr b) = inr (a.0 ∙ b.0, omega (arith, a.1, b.1))

-- each of some groups stands before every later one
abbrev pub Ascending : Net → Type 0
Ascending groups = (i j : ℕ) → i < j → j < length groups → Precedes (get_or groups i []) (get_or groups j [])

-- with a group more, before which the last one stands
ascending_more : (groups : Net) (r : Rec) → Ascending groups → (0 < length groups → Precedes (get_or groups (length groups - 1) []) r) → Ascending (groups ++ (r ∷ []))
ascending_more groups r A last i j h l = go (dec_lt j (length groups))
  where
    size : length (groups ++ (r ∷ [])) ≡ length groups + 1
    size = length-append groups (r ∷ [])

    old : (k : ℕ) → k < length groups → get_or (groups ++ (r ∷ [])) k [] ≡ get_or groups k []
    old k q = get_or-append groups (r ∷ []) [] k q

    to_last : i < length groups → Precedes (get_or groups i []) r
    to_last q = by (ℕ_discrete i (length groups - 1))
      where
        by : Dec (i ≡ length groups - 1) → Precedes (get_or groups i []) r
        by (yes e) = subst⁻¹ (λ (k : ℕ). Precedes (get_or groups k []) r) e (last (omega arith))
        by (no e) = precedes_trans (get_or groups i []) (get_or groups (length groups - 1) []) r (A i (length groups - 1) (omega (arith, e)) (omega arith)) (last (omega arith))

    go : Dec (j < length groups) → Precedes (get_or (groups ++ (r ∷ [])) i []) (get_or (groups ++ (r ∷ [])) j [])
    go (yes q) = subst₂ Precedes (sym (old i (omega arith))) (sym (old j q)) (A i j h q)
    go (no q) =
        let e : length groups ≡ j = omega (arith, size) in
        subst₂ Precedes (sym (old i (omega arith))) (sym (get_or_at groups r [] [] j e)) (to_last (omega arith))

-- one record more
step : (before : Net) (r : Rec) (after : Net) → Ascending (of_kind 9 before) → Passes before r after → Ascending (of_kind 9 (before ++ (r ∷ [])))
unfolding of_kind out_of_order last_group
step before r after A p = go (is_group_record r) refl
  where
    go : (b : Bool) → is_group_record r ≡ b → Ascending (keep is_group_record (before ++ (r ∷ [])))
    go true k =
        subst⁻¹ Ascending (keep_in is_group_record before r k)
        (ascending_more (keep is_group_record before) r A
        (λ h. ascends_precedes _ r (not-false _ (and_test _ _ (group_ascends before r after p (eqb-true (kind r) 9 k)) (lt-ltb 0 _ h)))))
    go false k = subst⁻¹ Ascending (keep_out is_group_record before r k) A

-- the groups of a network that no row refuses ascend
pub groups_ascend : (net : Net) → file_row [] net ≡ none → Ascending (of_kind 9 net)
unfolding of_kind keep
groups_ascend net e = clean_all (λ before. Ascending (of_kind 9 before)) step [] net (λ i j h l. absurd (omega arith)) e
