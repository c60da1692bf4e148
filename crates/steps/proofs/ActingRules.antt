-- What the rules that act send, one rule after the other.
use mathlib.Core.Path.{◌≡◌, ap, ◌∙◌}
use mathlib.Core.Bool.{Bool, true, false, cond}
use mathlib.Core.List.{List, [], ◌∷◌, ◌++◌, flat_map}
use Prim.Native.Nat.{ℕ, ◌+◌, ◌<◌, ◌≤◌}
use lib.ListN.{length, get_or}
use Rattle.basics.specs.Lists.{keep}
use Rattle.format.specs.Record.{Rec, Net}
use Rattle.format.specs.Laws.Parts.{part, part_more, part_none}

-- f is what a rule sends, and top the test of those that act, of the rules from number j up to number e
module _ (f : Rec → List ℕ) (top : Rec → Bool) (rules : Net) (e : ℕ) (h : e ≤ length rules) (j : ℕ) where
  abbrev rest : Net
  rest = keep top (part rules (j + 1) e)

  module _ (l : j < e) where
    acting : keep top (part rules j e) ≡ cond (top (get_or rules j [])) (get_or rules j [] ∷ rest) rest
    unfolding keep
    acting = ap (keep top) (part_more rules j e l h)

    pub acts : top (get_or rules j []) ≡ true → flat_map f (keep top (part rules j e)) ≡ f (get_or rules j []) ++ flat_map f (keep top (part rules (j + 1) e))
    unfolding flat_map
    acts t = ap (flat_map f) (acting ∙ ap (λ (b : Bool). cond b (get_or rules j [] ∷ rest) rest) t)

    pub passes : top (get_or rules j []) ≡ false → flat_map f (keep top (part rules j e)) ≡ flat_map f (keep top (part rules (j + 1) e))
    passes t = ap (flat_map f) (acting ∙ ap (λ (b : Bool). cond b (get_or rules j [] ∷ rest) rest) t)

  pub acts_none : e ≤ j → flat_map f (keep top (part rules j e)) ≡ []
  unfolding flat_map keep
  acts_none l = ap (λ (x : Net). flat_map f (keep top x)) (part_none rules j e l)
