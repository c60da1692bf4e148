-- The pairs of states that links make.
use mathlib.Core.Path.{◌≡◌, refl, sym, ap, ◌∙◌}
use mathlib.Core.Bool.{Bool, true, false, not, ◌&&◌, ◌||◌}
use mathlib.Core.List.{List, [], ◌∷◌, ◌++◌, append_assoc, append-nil}
use Prim.Native.Nat.{ℕ}
use lib.Dec.{eqb}
use Rattle.basics.specs.Lists.{any, member}
use Rattle.format.specs.Record.{Rec, Net, at}
use Rattle.format.specs.State.{state, header_of, port_of, switch_of, direction_of}
use Rattle.widths.specs.declared.Widths.{Widths}
use Rattle.onestep.specs.Step.{across}
use Rattle.onestep.specs.Relayed.{arriving}
use Rattle.links.specs.Carried.{one_way, crosses}
use Rattle.basics.specs.Laws.Lists.{member-append}
use Rattle.std.proofs.lemmas.List.{map-append}

-- what is across from a point, by one list of ends and by another
module _ (w : Widths) where
  pub crosses_as : (f g : ℕ → ℕ → List (ℕ × ℕ)) → ((sw p : ℕ) → f sw p ≡ g sw p) → (s t : ℕ) → crosses w f s t ≡ crosses w g s t
  unfolding crosses
  crosses_as f g e s t = ap (λ (l : List (ℕ × ℕ)). not (eqb (direction_of w s) 0) && member t (arriving w (header_of w s) l)) (e (switch_of w s) (port_of w s))

  pub crosses_either : (f g : ℕ → ℕ → List (ℕ × ℕ)) (s t : ℕ) → crosses w (λ sw p. f sw p ++ g sw p) s t ≡ (crosses w f s t || crosses w g s t)
  unfolding crosses arriving
  crosses_either f g s t =
      let x = f (switch_of w s) (port_of w s) in
      let y = g (switch_of w s) (port_of w s) in
      ap (λ (b : Bool). not (eqb (direction_of w s) 0) && b)
      (ap (member t) (map-append (λ (e : ℕ × ℕ). state w 0 e.0 e.1 (header_of w s)) x y) ∙ member-append t (arriving w (header_of w s) x) (arriving w (header_of w s) y))
      ∙ and_or (not (eqb (direction_of w s) 0)) (member t (arriving w (header_of w s) x)) (member t (arriving w (header_of w s) y))
    where
      and_or : (a b c : Bool) → (a && (b || c)) ≡ ((a && b) || (a && c))
      and_or true b c = refl
      and_or false b c = refl

  pub crosses_none : (s t : ℕ) → crosses w (λ sw p. across sw p []) s t ≡ false
  unfolding crosses across arriving member any
  crosses_none s t = go (not (eqb (direction_of w s) 0))
    where
      go : (b : Bool) → (b && false) ≡ false
      go true = refl
      go false = refl

  -- a link, both ways, and the links after it
  module _ (l : Rec) where
    one : ℕ → ℕ → List (ℕ × ℕ)
    one = one_way (at l 1) (at l 2) (at l 3) (at l 4)

    other : ℕ → ℕ → List (ℕ × ℕ)
    other = one_way (at l 3) (at l 4) (at l 1) (at l 2)

    ways : (ls : Net) (sw p : ℕ) → across sw p (l ∷ ls) ≡ one sw p ++ (other sw p ++ across sw p ls)
    unfolding one other one_way across
    ways ls sw p = refl

    alone : (sw p : ℕ) → across sw p (l ∷ []) ≡ one sw p ++ other sw p
    unfolding across
    alone sw p = ways [] sw p ∙ ap (λ (x : List (ℕ × ℕ)). one sw p ++ x) (append-nil (other sw p))

    pub both_ways : (s t : ℕ) → crosses w (λ sw p. across sw p (l ∷ [])) s t
        ≡ (crosses w (one_way (at l 1) (at l 2) (at l 3) (at l 4)) s t || crosses w (one_way (at l 3) (at l 4) (at l 1) (at l 2)) s t)
    unfolding one other
    both_ways s t = crosses_as _ (λ sw p. one sw p ++ other sw p) alone s t ∙ crosses_either one other s t

    pub links_after : (ls : Net) (s t : ℕ) → crosses w (λ sw p. across sw p (l ∷ ls)) s t
        ≡ (crosses w (λ sw p. across sw p (l ∷ [])) s t || crosses w (λ sw p. across sw p ls) s t)
    links_after ls s t =
        crosses_as _ (λ sw p. across sw p (l ∷ []) ++ across sw p ls)
        (λ sw p. ways ls sw p ∙ sym (append_assoc (one sw p) (other sw p) (across sw p ls)) ∙ ap (λ (x : List (ℕ × ℕ)). x ++ across sw p ls) (sym (alone sw p))) s t
        ∙ crosses_either (λ sw p. across sw p (l ∷ [])) (λ sw p. across sw p ls) s t
