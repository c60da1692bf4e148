-- What follows from what a piece is.
use Rattle.std.proofs.Common.{ltb-true, ltb-false, sym, ap, ap₂, ◌∙◌, arith, length-append, length-take, take_all}
use Rattle.std.specs.Prelude.{◌≡◌, refl, Bool, true, false, cond, Result, Ok, Err, List, [], ◌∷◌, ◌++◌, ℕ, ◌+◌, ◌<◌, ◌≤◌, eqb, ltb, length, take}
use Rattle.std.proofs.Math.Path.{subst}
use Rattle.format.specs.Record.{Rec, Net, most_records}
use Rattle.format.specs.Laws.Records.{whole_join}
use Rattle.streams.specs.declared.input.Next.{Next}
use Rattle.streams.specs.declared.input.Next.TheVariants as next
use Rattle.streams.specs.declared.input.ReadFailed.{ReadFailed}
use Rattle.streams.specs.Input.{is_command}
use Rattle.streams.specs.Reading.{next_of, next_by, NoCommand, with_record, Holding}
use Rattle.streams.specs.Laws.Store.{with_more}

-- what the tests of a piece say where it is a record of the network, or one too many
abbrev Means : Next → Bool → Bool → Bool → Type 0
Means next.Network cut command room = (cut ≡ false) × (command ≡ false) × (room ≡ true)
Means next.TooMany cut command room = room ≡ false
Means next.Command cut command room = Unit {0}
Means next.CutCommand cut command room = Unit {0}
Means next.Cut cut command room = Unit {0}
Means next.End cut command room = Unit {0}
Means next.Failed cut command room = Unit {0}

means : (none cut command room : Bool)
    → Means (cond none next.End (cond cut (cond command next.CutCommand next.Cut) (cond command next.Command (cond room next.Network next.TooMany)))) cut command room
means true cut command room = tt
means false true true room = tt
means false true false room = tt
means false false true room = tt
means false false false true = (refl, refl, refl)
means false false false false = refl

-- a record of the network: not one too many, and no command
module _ (n : ℕ) (buffer : List ℕ) where
  tests : (k : ℕ) (x : Next) → next_of n (take k buffer) ≡ x → Means x (ltb (length (take k buffer)) 24) (is_command (take k buffer)) (ltb n most_records)
  unfolding next_of
  tests k x e =
      subst (λ (y : Next). Means y (ltb (length (take k buffer)) 24) (is_command (take k buffer)) (ltb n most_records)) e
      (means (eqb (length (take k buffer)) 0) (ltb (length (take k buffer)) 24) (is_command (take k buffer)) (ltb n most_records))

  pub network_fewer : (p : Result ℕ ReadFailed) → next_by n p buffer ≡ next.Network → n < most_records
  network_fewer (Ok k) e = ltb-true n most_records (tests k next.Network e).2
  network_fewer (Err x) e = let z : ◌≡◌ {A = ℕ} 0 1 = cc in absurd (omega arith)

  pub too_many_full : (p : Result ℕ ReadFailed) → next_by n p buffer ≡ next.TooMany → most_records ≤ n
  too_many_full (Ok k) e = ltb-false n most_records (tests k next.TooMany e)
  too_many_full (Err x) e = let z : ◌≡◌ {A = ℕ} 0 1 = cc in absurd (omega arith)

  pub no_command : (p : Result ℕ ReadFailed) → next_by n p buffer ≡ next.Network → length buffer ≡ 24 → is_command buffer ≡ false
  no_command (Ok k) e w =
      let t = tests k next.Network e in
      sym (ap is_command (take_all k buffer (omega (arith, ltb-false (length (take k buffer)) 24 t.0, length-take k buffer)))) ∙ t.1
  no_command (Err x) e w = let z : ◌≡◌ {A = ℕ} 0 1 = cc in absurd (omega arith)

none_join : (net : Net) (r : Rec) → NoCommand net → is_command r ≡ false → NoCommand (net ++ (r ∷ []))
none_join [] r a b = (b, tt)
none_join (x ∷ xs) r a b = (a.0, none_join xs r a.1 b)

-- a store into which n records were put, by another name of n
pub holds_as : {n m : ℕ} {before after : List ℕ} → n ≡ m → Holding n before after → Holding m before after
holds_as {before = before} {after = after} e h = subst (λ (k : ℕ). Holding k before after) e h

-- a store into which n records were put, and one more
pub holds_more : {n : ℕ} (r : Rec) {start before after : List ℕ} → Holding n start before → after ≡ with_record r n before → length r ≡ 24 → is_command r ≡ false → Holding (n + 1) start after
holds_more r {start = start} h k w e =
    record {
      net = h.net ++ (r ∷ []);
      whole = whole_join h.net (r ∷ []) h.whole (w, tt);
      none = none_join h.net r h.none e;
      size = length-append h.net (r ∷ []) ∙ omega (arith, h.size);
      stored = k ∙ ap₂ (with_record r) (sym h.size) h.stored ∙ with_more h.net r start h.whole;
    }
