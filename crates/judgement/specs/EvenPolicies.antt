-- Even policies: one that holds also holds if each state takes the steps of just one of its chosen records, whichever.
use Rattle.std.proofs.Common.{eqb-true, eq-eqb, sym, ap, ◌∙◌, arith}
use Rattle.std.specs.Prelude.{◌≡◌, refl, Bool, true, false, ℕ, ◌<◌, eqb, length, get_or}
use Rattle.std.proofs.Math.Path.{subst⁻¹}
use Rattle.std.proofs.lemmas.Bool.{false≢true}
use mathlib.Core.List.Memᴰ
use mathlib.Core.List.{[], ◌∷◌, Memᴰ}
use Rattle.basics.specs.Lists.{member}
use Rattle.format.specs.Record.{Rec, Net, widths_of}
use Rattle.widths.specs.Widths.{states}
use Rattle.format.specs.State.{direction_of}
use Rattle.format.specs.Policy.{forbidden}
use Rattle.onestep.specs.Chosen.{chosen}
use Rattle.onestep.specs.Step.{arrival_of, next_by, next, Step}
use Rattle.truth.specs.Even.{Even, Within}
use Rattle.truth.specs.Laws.Growing.{grows}
use Rattle.judgement.specs.Model.{model_of}
use Rattle.judgement.specs.Verdict.{Breaks, Holds}
use Rattle.judgement.specs.Choice.{Choice, under_choice, BreaksUnder, EvenPoliciesHold}
use Rattle.judgement.specs.Judgement.{a_state}
use Rattle.judgement.specs.Laws.Acting.{by_same, by_all, by_one, first_acts}
use Rattle.judgement.specs.Laws.Same.{SameModel}

-- the steps under a choice are among the network's
pub choice_within : (net : Net) (c : ℕ → Rec) → Choice net c → Within (under_choice net c) (model_of net)
unfolding Step next
choice_within net c h =
    record {
      counts = refl;
      steps = λ s t hs ht. by_all net s t (c s) (chosen net (arrival_of net s)) (h s hs);
      externals = λ x hx. (λ e. e, λ e. e);
    }

-- under every choice, the forbidden condition of an even policy is true for a state only if it is in the network's own model
pub even_holds : (net : Net) (p : ℕ) → Even (forbidden net p) → (c : ℕ → Rec) → Choice net c
    → (x : ℕ) → x < states (widths_of net) → BreaksUnder net c p x → Breaks net p x
even_holds net p e c h x hx = (grows (under_choice net c) (model_of net) (choice_within net c h) (forbidden net p) x 0 hx (a_state net)).0 e

-- so where a network holds, every even policy of it holds under every choice
pub even_policies_hold : (net : Net) → Holds net → EvenPoliciesHold net
even_policies_hold net holds p hp e c h x hx b = holds p hp x hx (even_holds net p e c h x hx b)

-- the first in the file of the records that may act on a state
unfoldable pub first_in_file : Net → ℕ → Rec
first_in_file net s = get_or (chosen net (arrival_of net s)) 0 []

-- it is a choice, so that there is one
pub first_choice : (net : Net) → Choice net (first_in_file net)
unfolding first_in_file
first_choice net s hs hd = first_acts net (arrival_of net s)

pub some_choice : (net : Net) → (c : ℕ → Rec) × Choice net c
some_choice net = (first_in_file net, first_choice net)

-- every step of a network is a step under some choice
pub by_choice : (net : Net) (s t : ℕ) → Step net s t → (c : ℕ → Rec) × Choice net c × (under_choice net c).Steps s t
unfolding Step next first_in_file
by_choice net s t e = (c, a_choice, subst⁻¹ (λ (r : Rec). member t (next_by net (r ∷ []) s) ≡ true) at_s q.2)
  where
    q : (r : Rec) × Memᴰ r (chosen net (arrival_of net s)) × (member t (next_by net (r ∷ []) s) ≡ true)
    q = by_one net s t (chosen net (arrival_of net s)) (first_in_file net s, first_acts net (arrival_of net s)) e

    c : ℕ → Rec
    c z = elim (eqb z s) [ true ↦ q.0 | false ↦ first_in_file net z ]

    at_s : c s ≡ q.0
    at_s = go (eqb s s) (eq-eqb s s refl)
      where
        go : (b : Bool) → b ≡ true → ◌≡◌ {A = Rec} (elim b [ true ↦ q.0 | false ↦ first_in_file net s ]) q.0
        go true k = refl
        go false k = absurd (false≢true k)

    a_choice : Choice net c
    a_choice z hz hd = go (eqb z s) refl
      where
        go : (b : Bool) → eqb z s ≡ b → Memᴰ (elim b [ true ↦ q.0 | false ↦ first_in_file net z ]) (chosen net (arrival_of net z))
        go true k = subst⁻¹ (λ (z : ℕ). Memᴰ q.0 (chosen net (arrival_of net z))) (eqb-true z s k) q.1
        go false k = first_choice net z hz hd

-- one record acts on each arriving state
abbrev pub WithoutEquals : Net → Type 0
WithoutEquals net = (s : ℕ) → s < states (widths_of net) → direction_of (widths_of net) s ≡ 0 → length (chosen net (arrival_of net s)) ≡ 1

alone : (acts : Net) (r : Rec) → length acts ≡ 1 → Memᴰ r acts → acts ≡ r ∷ []
alone [] r l m = absurd (omega arith)
alone (x ∷ []) r l m = ap (λ (y : Rec). y ∷ []) (sym (Memᴰ.eq_of_singleton m))
alone (x ∷ y ∷ acts) r l m = absurd (omega arith)

-- then there is nothing to choose: under the choice each state steps as it does in the network
pub only_choice : (net : Net) → WithoutEquals net → (c : ℕ → Rec) → Choice net c → SameModel (under_choice net c) (model_of net)
unfolding Step next
only_choice net one c h =
    record {
      counts = refl;
      steps = λ s t hs ht.
          let same = by_same net s (chosen net (arrival_of net s)) (c s ∷ []) (λ d. alone (chosen net (arrival_of net s)) (c s) (one s hs d) (h s hs d)) in
          (λ e. ap (member t) same ∙ e, λ e. ap (member t) (sym same) ∙ e);
      externals = λ x hx. (λ e. e, λ e. e);
    }
